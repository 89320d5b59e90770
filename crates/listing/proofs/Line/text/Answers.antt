-- `listing::Line::text` meets its contract: what is left of the bytes is still to be written. Assumes nothing.
use mathlib.Core.Path.{◌∙◌}
use Rattle.listing.proofs.Lines.{written_again, written_all}
use Rattle.listing.proofs.Line.text.Goals as goal

pub loop-b-preserved : goal.loop-b-preserved
loop-b-preserved c = written_again _ _ _ _ c.loop-b-test.true c.byte-line.ensures ∙ c.loop-b.invariant

pub returns : goal.returns
returns c = written_all _ _ _ c.loop-b-test.false ∙ c.loop-b.invariant

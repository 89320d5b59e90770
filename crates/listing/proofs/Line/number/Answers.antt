-- `listing::Line::number` meets its contract, digit by digit as `Spelled` has it. Assumes nothing.
use mathlib.Core.Path.{ap, ◌∙◌}
use Rattle.listing.specs.Writing.{written}
use Rattle.listing.proofs.Digits.{Ends, again, ends, ends_full, put_first}
use Rattle.listing.proofs.Lines.{byte_onto}
use Rattle.listing.proofs.Line.number.Goals.{else-loop-at-test, then-loop-at-test+then-rest-lt10}
use Rattle.listing.proofs.Line.number.Goals as goal

pub loop-at-preserved : goal.loop-at-preserved
loop-at-preserved c = (c.loop-at.invariant.0, again c.loop-at.invariant.1 c.loop-at-test.true c.if-rest-lt10.false)

pub returns : goal.returns
returns c =
    let e : Ends c.args.n c.loop-at.digits c.loop-at-test.start c.loop-at.rest = elim c.loop-at-test.branch [
      | else-loop-at-test w ↦ ends_full c.loop-at.invariant.1 _ (w.start-is ∙ c.loop-at.invariant.0) w.loop-at-test.false
      | then-loop-at-test+then-rest-lt10 w ↦ ends c.loop-at.invariant.1 _ w.start-is w.if-rest-lt10.true
    ] in
    byte_onto _ _ _ (c.text.ensures ∙ ap (written _) (put_first e)) c.byte.ensures

-- `listing::Line::signed` meets its contract. Assumes nothing.
use mathlib.Core.Path.{◌∙◌}
use Rattle.listing.proofs.Signed.{with_minus, without}
use Rattle.listing.proofs.Line.signed.Goals.{then-n-lt0, else-n-lt0}
use Rattle.listing.proofs.Line.signed.Goals as goal

pub returns : goal.returns
returns c =
    elim c.if-n-lt0.branch [
      | then-n-lt0 w ↦
          with_minus c.args.self c.args.n c.ranges.n _ c.unsigned_abs.ensures.value _ _ c.number.ensures w.if-n-lt0.true (w.line-is ∙ w.byte-line.ensures)
      | else-n-lt0 w ↦ without c.args.self c.args.n c.ranges.n _ c.unsigned_abs.ensures.value _ _ c.number.ensures w.if-n-lt0.false w.line-is
    ]

-- `primitives::Cursor::read_length` meets its contract. Assumes nothing.
use Rattle.std.proofs.Common.{rules}
use Rattle.primitives.specs.Reading.{length_at}
use Rattle.primitives.proofs.Exits.{refused_first}
use Rattle.primitives.proofs.Lengths.{length_got, length_null, length_not_null, length_below}
use Rattle.primitives.proofs.Cursor.read_length.Goals as goal
use Rattle.primitives.proofs.Cursor.read_length.Goals.{else-nullable-via-then-nullable+else-n, else-nullable-via-else-nullable}

pub returns-in_err-n : goal.returns-in_err-n
unfolding length_at
returns-in_err-n c = refused_first _ _ _ _ c.from_residual.ensures.1 c.in_err-n.ensures

pub returns-then-n-ge0 : goal.returns-then-n-ge0
returns-then-n-ge0 c = length_got _ _ _ _ _ c.in_ok-n.ensures (search rules) c.if-n-ge0.true

pub returns-then-n : goal.returns-then-n
returns-then-n c = length_null _ _ _ _ _ c.in_ok-n.ensures (search rules) c.if-n.true c.if-nullable.true

pub returns : goal.returns
returns c =
    elim c.else-nullable.branch [
      | else-nullable-via-then-nullable+else-n w ↦ length_below _ _ _ _ _ c.in_ok-n.ensures (search rules) c.if-n-ge0.false w.if-n.false
      | else-nullable-via-else-nullable w ↦ length_not_null _ _ _ _ _ c.in_ok-n.ensures (search rules) c.if-n-ge0.false w.if-nullable.false
    ]

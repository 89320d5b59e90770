-- `primitives::Cursor::read_span` meets its contract. Assumes nothing.
use Rattle.primitives.specs.Reading.{span_at}
use Rattle.primitives.proofs.Exits.{refused_first}
use Rattle.primitives.proofs.Lengths.{span_null, span_starts, span_past, span_got}
use Rattle.primitives.proofs.Cursor.read_span.Goals as goal

pub returns-in_err-len : goal.returns-in_err-len
unfolding span_at
returns-in_err-len c = refused_first _ _ _ _ c.from_residual.ensures.1 c.in_err-len.ensures

pub returns-in_default : goal.returns-in_default
returns-in_default c = span_null _ _ _ _ (rw c.in_default.is at c.in_ok-len.ensures)

pub overflow_sub-s : goal.overflow_sub-s
overflow_sub-s c = span_starts _ _ _ _ _ (rw c.in-Some.is at c.in_ok-len.ensures)

pub returns-then-s-start : goal.returns-then-s-start
returns-then-s-start c = span_past _ _ _ _ _ (rw c.in-Some.is at c.in_ok-len.ensures) c.if-s-start.true

pub returns : goal.returns
returns c = span_got _ _ _ _ _ (rw c.in-Some.is at c.in_ok-len.ensures) c.if-s-start.false

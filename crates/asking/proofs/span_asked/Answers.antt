-- `asking::span_asked` meets its contract. Assumes nothing.
use native.Mathlib.Omega.{arith}
use Rattle.asking.proofs.Asks.{counts, cast_from_0, start_below, null_asked, null_elsewhere, length_below, bytes_outside, bytes_past, bytes_within}
use Rattle.asking.proofs.span_asked.Goals as goal

pub returns-then-start-lt0 : goal.returns-then-start-lt0
returns-then-start-lt0 c = start_below _ _ _ c.ranges.start c.if-start-lt0.true

pub overflow_cast-start : goal.overflow_cast-start
overflow_cast-start c = cast_from_0 _ c.ranges.start c.if-start-lt0.false

pub returns-then-start-eq0 : goal.returns-then-start-eq0
returns-then-start-eq0 c =
    null_asked _ _ _ _ (counts _ c.ranges.start c.if-start-lt0.false) c.ranges.len c.if-len-eqminus1.true c.if-start-eq0.true

pub returns-else-start-eq0 : goal.returns-else-start-eq0
returns-else-start-eq0 c =
    null_elsewhere _ _ _ _ (counts _ c.ranges.start c.if-start-lt0.false) c.ranges.len c.if-len-eqminus1.true c.if-start-eq0.false

pub returns-else-len-eqminus1 : goal.returns-else-len-eqminus1
returns-else-len-eqminus1 c =
    length_below _ _ _ _ (counts _ c.ranges.start c.if-start-lt0.false) c.ranges.len c.if-len-eqminus1.false c.if-len-lt0.true

pub overflow_cast-len : goal.overflow_cast-len
overflow_cast-len c = cast_from_0 _ c.ranges.len c.if-len-lt0.false

pub returns-then-size-len : goal.returns-then-size-len
returns-then-size-len c =
    bytes_outside _ _ _ _ (counts _ c.ranges.start c.if-start-lt0.false) _ (counts _ c.ranges.len c.if-len-lt0.false)
    c.if-size-len.true

pub returns-then-size-len-2 : goal.returns-then-size-len-2
returns-then-size-len-2 c =
    bytes_past _ _ _ _ (counts _ c.ranges.start c.if-start-lt0.false) _ (counts _ c.ranges.len c.if-len-lt0.false)
    c.if-size-len.false c.if-size-len-2.true

pub returns : goal.returns
returns c =
    bytes_within _ _ _ _ (counts _ c.ranges.start c.if-start-lt0.false) _ (counts _ c.ranges.len c.if-len-lt0.false)
    (omega arith) (omega arith)

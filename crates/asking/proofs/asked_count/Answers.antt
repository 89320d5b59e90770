-- `asking::asked_count` meets its contract. Assumes nothing.
use native.Mathlib.Omega.{arith}
use Rattle.asking.proofs.Asks.{counts, cast_from_0, named_below, count_below, not_running_on, count_outside, count_past, count_asked}
use Rattle.asking.proofs.asked_count.Goals as goal

pub returns-then-named-lt0 : goal.returns-then-named-lt0
returns-then-named-lt0 c = named_below _ _ _ _ c.ranges.named c.if-named-lt0.true

pub returns-then-count-lt0 : goal.returns-then-count-lt0
returns-then-count-lt0 c = count_below _ _ _ _ _ (counts _ c.ranges.named c.if-named-lt0.false) c.ranges.count c.if-count-lt0.true

pub overflow_cast-count : goal.overflow_cast-count
overflow_cast-count c = cast_from_0 _ c.ranges.count c.if-count-lt0.false

pub overflow_cast-named : goal.overflow_cast-named
overflow_cast-named c = cast_from_0 _ c.ranges.named c.if-named-lt0.false

pub returns-then-named-first : goal.returns-then-named-first
returns-then-named-first c =
    not_running_on _ _ _ _ _ (counts _ c.ranges.named c.if-named-lt0.false) _ (counts _ c.ranges.count c.if-count-lt0.false)
    c.if-named-first.true

pub returns-then-rows-count : goal.returns-then-rows-count
returns-then-rows-count c =
    count_outside _ _ _ _ _ (counts _ c.ranges.named c.if-named-lt0.false) _ (counts _ c.ranges.count c.if-count-lt0.false)
    c.if-named-first.false c.if-rows-count.true

pub returns-then-rows-count-2 : goal.returns-then-rows-count-2
returns-then-rows-count-2 c =
    count_past _ _ _ _ _ (counts _ c.ranges.named c.if-named-lt0.false) _ (counts _ c.ranges.count c.if-count-lt0.false)
    c.if-named-first.false c.if-rows-count.false c.if-rows-count-2.true

pub returns : goal.returns
returns c =
    count_asked _ _ _ _ _ (counts _ c.ranges.named c.if-named-lt0.false) _ (counts _ c.ranges.count c.if-count-lt0.false)
    c.if-named-first.false (omega arith) (omega arith)

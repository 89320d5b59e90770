-- `numbers::copy_blocks` meets its contract: the bytes before the next block are copied. Assumes nothing.
use Rattle.std.proofs.Common.{◌≡◌, take, ◌+◌, ◌-◌, ◌≤◌}
use Rattle.numbers.proofs.copy_blocks.Given as goal

abbrev pub invariant-loop-at : goal.invariant-loop-at
invariant-loop-at l = (l.at ≤ l.last + 8) × (take l.at l.output ≡ take l.at l.bytes)

abbrev pub decreases-loop-at : goal.decreases-loop-at
decreases-loop-at l = l.last - l.at

-- `cases::input::read_full` meets its contract. The place stays within the room, which keeps its length. The measure is
-- what is left of it. Assumes nothing.
use Rattle.std.specs.Prelude.{◌≤◌, ◌-◌, ◌≡◌, length}
use Rattle.cases.proofs.input.read_full.Given as goal

abbrev pub invariant-loop-n : goal.invariant-loop-n
invariant-loop-n g l = (l.n ≤ length l.initial.room) × (length l.room ≡ length l.initial.room)

abbrev pub decreases-loop-n : goal.decreases-loop-n
decreases-loop-n g l = length l.initial.room - l.n

-- `primitives::Cursor::read_code` meets its contract, turn by turn as `Turns` has it. Assumes nothing.
use Rattle.std.proofs.Common.{◌-◌}
use Rattle.primitives.proofs.Turns.{Reading}
use Rattle.primitives.proofs.Cursor.read_code.Given as goal

abbrev pub invariant-loop : goal.invariant-loop
invariant-loop l = Reading l.s l.fn.self.at l.full l.limit l.v l.p l.c.at (l.full - l.counter)

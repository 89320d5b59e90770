-- `canonical::canonical_records` meets its contract. Assumes nothing.
use Rattle.std.proofs.Common.{◌-◌}
use Rattle.numbers.specs.Exactly.{Exactly}
use Rattle.canonical.specs.Promises.{StandStrictly}
use Rattle.canonical.proofs.canonical_records.Given as goal

abbrev pub invariant-loop : goal.invariant-loop
invariant-loop l = Exactly (StandStrictly l.bytes l.c.at (l.count - l.counter)) (StandStrictly l.bytes l.at l.count)

-- `canonical::headers_size` meets its contract. Assumes nothing.
use Rattle.std.proofs.Common.{◌≡◌, ◌-◌, ◌≤◌}
use Rattle.primitives.specs.Step.{map_step, times}
use Rattle.records.specs.Judgement.{header_at}
use Rattle.sizes.specs.Sizes.{cap}
use Rattle.canonical.specs.Tight.{headers_onto}
use Rattle.canonical.proofs.headers_size.Given as goal

abbrev pub invariant-loop : goal.invariant-loop
invariant-loop l =
    (map_step (headers_onto l.sum) (times (header_at l.s) (l.count - l.counter) l.c.at)
    ≡ map_step (headers_onto 0) (times (header_at l.s) l.count l.initial.c.at))
    × (l.sum ≤ cap)

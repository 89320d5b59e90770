-- `reading::walk_headers` meets its contract. Assumes nothing.
use Rattle.std.proofs.Common.{◌≡◌, ◌+◌, ◌-◌}
use Rattle.primitives.specs.Step.{map_step, times}
use Rattle.records.specs.Judgement.{header_at}
use Rattle.reading.specs.Walk.{put_headers}
use Rattle.reading.proofs.walk_headers.Given as goal

abbrev pub invariant-loop-row : goal.invariant-loop-row
invariant-loop-row l =
    map_step (put_headers l.headers l.row) (times (header_at l.s) (l.first + l.count - l.row) l.c.at)
    ≡ map_step (put_headers l.initial.headers l.first) (times (header_at l.s) l.count l.initial.c.at)

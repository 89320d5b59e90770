-- `reading::walk` meets its contract. Assumes nothing.
use Rattle.std.proofs.Common.{◌≡◌, ◌-◌, ◌*◌, ◌≤◌, length}
use Rattle.primitives.specs.Step.{map_step}
use Rattle.records.specs.Judgement.{run_at}
use Rattle.records.specs.Rows.{tables}
use Rattle.reading.specs.Walk.{walked_records}
use Rattle.reading.proofs.Turns.{walk_on}
use Rattle.reading.proofs.walk.Given as goal

abbrev pub invariant-loop-row : goal.invariant-loop-row
invariant-loop-row l =
    (walk_on l.s (tables l.records l.headers) l.row l.first l.sum (l.count - l.row) l.c.at
    ≡ map_step (walked_records (tables l.initial.records l.initial.headers) 0 l.first) (run_at l.s l.count l.initial.c.at))
    × (2 * l.sum ≤ l.c.at)
    × (2 * l.sum ≤ length l.s)

-- `writing::Rows::size_records` meets its contract. Assumes nothing.
use Prim.Native.Nat.{◌-◌, ◌≤◌}
use mathlib.Core.Path.{◌≡◌}
use Rattle.primitives.specs.Step.{map_step, times}
use Rattle.records.specs.Rows.{tables}
use Rattle.asking.specs.Asked.{row_place, record_asked}
use Rattle.sizes.specs.Sizes.{records_size, cap, capped}
use Rattle.writing.proofs.Loops.{rest, record_sizes_on}
use Rattle.writing.proofs.Rows.size_records.Given as goal

abbrev pub invariant-loop-row : goal.invariant-loop-row
invariant-loop-row l =
    let source = l.self.source.now in
    let t = tables l.self.records.now l.self.headers.now in
    (rest (record_asked t source) (record_sizes_on t source) l.sum (l.count - l.row) (row_place l.row l.first)
    ≡ map_step (λ rs. capped (records_size rs)) (times (record_asked t source) l.count (row_place 0 l.first_header_row)))
    × (l.sum ≤ cap)

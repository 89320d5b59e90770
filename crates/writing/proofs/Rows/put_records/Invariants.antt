-- `writing::Rows::put_records` meets its contract. Assumes nothing.
use Prim.Native.Nat.{◌-◌}
use mathlib.Core.Path.{◌≡◌}
use Rattle.numbers.specs.Pen.{pen, emit}
use Rattle.primitives.specs.Step.{map_step, times}
use Rattle.records.specs.Rows.{tables}
use Rattle.asking.specs.Asked.{row_place, record_asked}
use Rattle.writing.specs.Put.{capped_records}
use Rattle.writing.proofs.Loops.{rest, records_on}
use Rattle.writing.proofs.Rows.put_records.Given as goal

abbrev pub invariant-loop-row : goal.invariant-loop-row
invariant-loop-row l =
    let source = l.self.source.now in
    let t = tables l.self.records.now l.self.headers.now in
    rest (record_asked t source) (records_on t source) (pen l.at l.output) (l.count - l.row) (row_place l.row l.first)
    ≡ map_step (λ rs. emit (capped_records source rs) (pen l.from l.initial.output))
    (times (record_asked t source) l.count (row_place 0 l.first_header_row))

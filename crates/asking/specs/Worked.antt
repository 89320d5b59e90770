-- The rows of the worked batches (crates/examples), as the definitions of this crate ask for them. What proves
-- each stands in proofs/ under the statement's name in small letters: `worked_rows : WorkedRows`.
use Rattle.std.specs.Prelude.{◌≡◌, List, map, length}
use Rattle.primitives.specs.Step.{Step, ok, no, map_step}
use Rattle.examples.specs.Examples.{Example, record_examples, RowRefusal, row_refusals}
use Rattle.records.specs.Format.{Record}
use Rattle.records.specs.Judgement.{RecordSpans}
use Rattle.records.specs.Rows.{tables}
use Rattle.records.specs.Placed.{shown_records}
use Rattle.records.specs.Worked.{example_records, example_headers}
use Rattle.asking.specs.Asked.{RowPlace, row_place, records_asked}

-- ---- what the rows ask for

abbrev asked_in : Example → Step RowPlace (List Record)
asked_in e =
    map_step (shown_records e.bytes)
    (records_asked (tables e.record_rows e.header_rows) e.bytes 0 (length (example_records e.holds)))

abbrev due_in : Example → Step RowPlace (List Record)
due_in e = ok (example_records e.holds) (row_place (length (example_records e.holds)) (example_headers e))

-- The rows of each worked batch, in its own bytes, ask for its records, and for all of its headers.
abbrev pub WorkedRows : Type 0
WorkedRows = map asked_in record_examples ≡ map due_in record_examples

-- ---- refusals

abbrev asked_wrong : RowRefusal → Step RowPlace (List RecordSpans)
asked_wrong e = records_asked (tables e.record_rows e.header_rows) e.source 0 e.count

abbrev due_wrong : RowRefusal → Step RowPlace (List RecordSpans)
due_wrong e = no e.number

-- Wrong rows are refused by the number that is given with them.
abbrev pub WorkedNumbers : Type 0
WorkedNumbers = map asked_wrong row_refusals ≡ map due_wrong row_refusals

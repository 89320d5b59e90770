-- The records of the worked batches (crates/examples), as the definitions of this crate read and write them.
-- What proves each stands in proofs/ under the statement's name in small letters: `worked_rows : WorkedRows`.
use Rattle.std.specs.Prelude.{ℕ, ◌/◌, ◌≡◌, List, [], map, ℤ, length, drop}
use Rattle.numbers.specs.Concat.{concat}
use Rattle.primitives.specs.Step.{Step, ok, no, map_step}
use Rattle.examples.specs.Examples.{PlainHeader, PlainRecord, Holds, an_abort, a_commit, the_records, Example, record_examples, Refusal, record_refusals}
use Rattle.records.specs.Format.{Header, Record}
use Rattle.records.specs.Written.{written_records}
use Rattle.records.specs.Judgement.{RecordSpans, records_at}
use Rattle.records.specs.Rows.{record_rows, header_rows}
use Rattle.records.specs.Placed.{shown_records}

-- ---- the example's words in ours

abbrev example_header : PlainHeader → Header
example_header h = record { key = h.key; value = h.value }

abbrev pub example_record : PlainRecord → Record
example_record r =
    record {
      timestamp_delta = r.timestamp_delta;
      offset_delta = r.offset_delta;
      key = r.key;
      value = r.value;
      headers = map example_header r.headers;
    }

-- a marker holds none
abbrev pub example_records : Holds → List Record
example_records an_abort = []
example_records a_commit = []
example_records (the_records rs) = map example_record rs

-- how many headers its records have together
abbrev pub example_headers : Example → ℕ
example_headers e = length e.header_rows / 4

-- the place after the fixed fields
abbrev body_place : ℕ
body_place = 61

-- ---- reading and writing

-- the rows of what is read, and what it shows
pub record Reading : Type 0 where
  pub records : List ℤ
  pub headers : List ℤ
  pub shows : List Record

abbrev reading_of : List ℕ → List RecordSpans → Reading
reading_of s rs =
    record { records = concat (record_rows 0 rs); headers = concat (header_rows rs); shows = shown_records s rs }

abbrev read_in : Example → Step ℕ Reading
read_in e = map_step (reading_of e.bytes) (records_at e.bytes (length (example_records e.holds)) body_place)

abbrev due_of : Example → Step ℕ Reading
due_of e =
    ok (record { records = e.record_rows; headers = e.header_rows; shows = example_records e.holds }) (length e.bytes)

-- The records of each worked batch are read up to its end, have the rows and show the bytes that are given with it.
abbrev pub WorkedRows : Type 0
WorkedRows = map read_in record_examples ≡ map due_of record_examples

-- What is written of the records that are given is what follows the fixed fields in what is to be written.
abbrev pub WorkedWritten : Type 0
WorkedWritten =
    map (λ (e : Example). written_records (example_records e.holds)) record_examples
    ≡ map (λ (e : Example). drop body_place e.written) record_examples

-- ---- refusals

abbrev read_wrong : Refusal → Step ℕ (List RecordSpans)
read_wrong e = records_at e.bytes e.count body_place

abbrev due_wrong : Refusal → Step ℕ (List RecordSpans)
due_wrong e = no e.number

-- Each run of wrong records is refused by the number that is given with it.
abbrev pub WorkedNumbers : Type 0
WorkedNumbers = map read_wrong record_refusals ≡ map due_wrong record_refusals

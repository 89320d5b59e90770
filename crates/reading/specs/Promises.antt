-- What each public function promises of its result and of the lent tables, for every input. Lent bytes are lent to be
-- read: no function here can change them.
use Rattle.std.specs.Prelude.{ℕ, ◌≡◌, List, Result}
use Rattle.numbers.specs.Pick.{pick}
use Rattle.primitives.specs.Step.{Step, ok, no, map_step}
use Rattle.records.specs.declared.RecordFault.{RecordFault}
use Rattle.records.specs.Judgement.{RecordSpans, records_at}
use Rattle.records.specs.Rows.{Tables, roomy, with_rows}
use Rattle.reading.specs.declared.RecordsFound.{RecordsFound}
use Rattle.reading.specs.declared.RecordsError.{RecordsError}
use Rattle.reading.specs.Answers.{Answer, accepted, no_room, refused, counts_of, view_check, view_read}

-- RecordsError::from a fault of records
abbrev pub FromRecordFaultPromise : RecordFault → RecordsError → Type 0
FromRecordFaultPromise f r = r ≡ RecordsError.Refused f

-- check_records, on bytes s, a place and a number of records
abbrev pub CheckRecordsPromise : List ℕ → ℕ → ℕ → Result RecordsFound RecordFault → Type 0
CheckRecordsPromise s at count r = view_check r ≡ map_step counts_of (records_at s count at)

-- the result of read_records, with both tables at exit
pub record ReadOutcome : Type 0 where
  pub result : Result RecordsFound RecordsError
  pub tables : Tables

-- what is due, by the judgement and the tables at entry: the answer, and the tables at exit
abbrev pub answer_due : ℕ → Tables → Step ℕ (List RecordSpans) → Answer
answer_due first t (ok rs q) = pick (roomy first rs t) (accepted (counts_of rs) q) (no_room (counts_of rs))
answer_due first t (no n) = refused n

abbrev pub tables_due : ℕ → Tables → Step ℕ (List RecordSpans) → Tables
tables_due first t (ok rs q) = pick (roomy first rs t) (with_rows first rs t) t
tables_due first t (no n) = t

-- read_records, on bytes s, a place, a number of records, a first header row and two tables
pub record ReadRecordsPromise (s : List ℕ) (at count first : ℕ) (t : Tables) (o : ReadOutcome) : Type 0 where
  pub answer : view_read o.result ≡ answer_due first t (records_at s count at)
  pub tables : o.tables ≡ tables_due first t (records_at s count at)

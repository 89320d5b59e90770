-- What each public answer says, case by case: document 01's number, and the values that it names.
use Rattle.std.specs.Prelude.{ℕ, List, Result, Ok, Err, length}
use Rattle.primitives.specs.Step.{Step, ok, no}
use Rattle.records.specs.declared.RecordFault.{RecordFault}
use Rattle.records.specs.Judgement.{RecordSpans}
use Rattle.records.specs.Rows.{headers_in}
use Rattle.records.specs.Answers.{record_number_of}
use Rattle.reading.specs.declared.RecordsFound.{RecordsFound}
use Rattle.reading.specs.declared.RecordsError.{RecordsError}
use Rattle.reading.specs.declared.RecordsError.TheVariants.{Refused, NoRoom}

-- how many records were read, and how many headers they have
pub record Counts : Type 0 where
  pub records : ℕ
  pub headers : ℕ

abbrev pub counts_of : List RecordSpans → Counts
counts_of rs = record { records = length rs; headers = headers_in rs }

abbrev pub view_check : Result RecordsFound RecordFault → Step ℕ Counts
view_check (Ok x) = ok (record { records = x.records; headers = x.headers }) x.end
view_check (Err f) = no (record_number_of f)

-- document 01, Reader's numbers: 0 and the counts with the place after the last record; 14 and the counts; any other
-- number alone. What is not named is 0.
pub record Answer : Type 0 where
  pub number : ℕ
  pub records : ℕ
  pub headers : ℕ
  pub end : ℕ

abbrev pub accepted : Counts → ℕ → Answer
accepted n q = record { number = 0; records = n.records; headers = n.headers; end = q }

abbrev pub no_room : Counts → Answer
no_room n = record { number = 14; records = n.records; headers = n.headers; end = 0 }

abbrev pub refused : ℕ → Answer
refused n = record { number = n; records = 0; headers = 0; end = 0 }

abbrev pub view_read : Result RecordsFound RecordsError → Answer
view_read (Ok x) = accepted (record { records = x.records; headers = x.headers }) x.end
view_read (Err (Refused f)) = refused (record_number_of f)
view_read (Err (NoRoom n m)) = no_room (record { records = n; headers = m })

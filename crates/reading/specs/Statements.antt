-- The laws of reading records into tables, each in words and then as a statement. What proves each stands in proofs/
-- under the statement's name in small letters: `untouched : Untouched`.
use Rattle.std.specs.Prelude.{ℕ, ◌≡◌, List, Result}
use Rattle.primitives.specs.Step.{Step, ok, no}
use Rattle.records.specs.declared.RecordFault.{RecordFault}
use Rattle.records.specs.Rows.{Tables}
use Rattle.reading.specs.declared.RecordsFound.{RecordsFound}
use Rattle.reading.specs.Answers.{Counts, view_check, Answer, accepted, refused, view_read}
use Rattle.reading.specs.Promises.{CheckRecordsPromise, ReadOutcome, ReadRecordsPromise}

-- Document 01: every refusal changes no table. Whatever is answered but 0, both tables are at exit what they were.
abbrev pub Untouched : Type 0
Untouched =
    (s : List ℕ) (at count first : ℕ) (t : Tables) (o : ReadOutcome) → ReadRecordsPromise s at count first t o
    → ((view_read o.result).number ≡ 0 → ⊥) → o.tables ≡ t

-- what the check says, as an answer of the reader
abbrev pub answered : Step ℕ Counts → Answer
answered (ok n q) = accepted n q
answered (no n) = refused n

-- The check answers what the reader answers, unless that is 14.
abbrev pub CheckAgrees : Type 0
CheckAgrees =
    (s : List ℕ) (at count first : ℕ) (r : Result RecordsFound RecordFault) (t : Tables) (o : ReadOutcome) → CheckRecordsPromise s at count r
    → ReadRecordsPromise s at count first t o → ((view_read o.result).number ≡ 14 → ⊥)
    → answered (view_check r) ≡ view_read o.result

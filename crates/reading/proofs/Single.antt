-- Each promise admits a single answer: from what the answer says it can be made again, and the tables are given.
-- Assumes nothing.
use Rattle.std.proofs.Common.{◌≡◌, ℕ, eqb, List, Result, Ok, Err, refl, ap}
use Rattle.numbers.specs.Pick.{pick}
use Rattle.numbers.specs.Single.{Single}
use Rattle.numbers.proofs.Single.{single_value, single_view}
use Rattle.primitives.specs.Step.{Step, ok, no}
use Rattle.records.specs.declared.RecordFault.{RecordFault}
use Rattle.records.specs.Rows.{Tables}
use Rattle.records.proofs.Single.{refusal, refusal_again, record_fault_of, record_fault_again}
use Rattle.reading.specs.declared.RecordsFound.{RecordsFound}
use Rattle.reading.specs.declared.RecordsError.{RecordsError}
use Rattle.reading.specs.declared.RecordsError.TheVariants.{Refused, NoRoom}
use Rattle.reading.specs.Answers.{Counts, view_check, Answer, view_read}
use Rattle.reading.specs.Promises.{FromRecordFaultPromise, CheckRecordsPromise, ReadRecordsPromise}

pub single_from_record_fault : (f : RecordFault) → Single (FromRecordFaultPromise f)
single_from_record_fault f = single_value _

abbrev checked : Step ℕ Counts → Result RecordsFound RecordFault
checked (ok n q) = Ok (record { records = n.records; headers = n.headers; end = q })
checked (no m) = Err (record_fault_of m)

check_again : (r : Result RecordsFound RecordFault) → checked (view_check r) ≡ r
check_again (Ok x) = refl
check_again (Err f) = ap Err (record_fault_again f)

pub single_check_records : (s : List ℕ) (at count : ℕ) → Single (CheckRecordsPromise s at count)
single_check_records s at count = single_view view_check checked check_again _

abbrev read : Answer → Result RecordsFound RecordsError
read a =
    refusal (λ f. Err (Refused f))
    (pick (eqb a.number 0) (Ok (record { records = a.records; headers = a.headers; end = a.end }))
    (Err (NoRoom a.records a.headers))) a.number

read_again : (r : Result RecordsFound RecordsError) → read (view_read r) ≡ r
read_again (Ok x) = refl
read_again (Err (Refused f)) = refusal_again (λ f. Err (Refused f)) _ f
read_again (Err (NoRoom n m)) = refl

pub single_read_records : (s : List ℕ) (at count first : ℕ) (t : Tables) → Single (ReadRecordsPromise s at count first t)
single_read_records s at count first t o o' e e' =
    let p = single_view view_read read read_again _ o.result o'.result e.answer e'.answer in
    let q = single_value _ o.tables o'.tables e.tables e'.tables in
    λ i. record { result = p i; tables = q i }

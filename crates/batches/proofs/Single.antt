-- Each promise admits a single answer: from what the answer says it can be made again, and the tables and the output
-- are given. Assumes nothing.
use Prim.Native.Nat.{ℕ}
use mathlib.Core.Path.{◌≡◌, refl, sym, ap, ◌∙◌}
use mathlib.Core.Option.{Option, none, some}
use mathlib.Core.List.{List}
use lib.IntN.{ℤ}
use denote.Ref.{Bor}
use Rattle.numbers.specs.Single.{Single}
use Rattle.numbers.proofs.Single.{single_value, single_view, single_exactly}
use Rattle.records.specs.Rows.{Tables}
use Rattle.reading.specs.declared.RecordsError.{RecordsError}
use Rattle.reading.proofs.Single.{single_read_records}
use Rattle.writing.proofs.Single.{single_written, single_write_by}
use Rattle.layout.specs.declared.RecordBatchTimestampType.{RecordBatchTimestampType}
use Rattle.layout.specs.declared.BatchFields.{BatchFields}
use Rattle.layout.specs.Batch.{Fields}
use Rattle.layout.specs.Fixed.{view_batch_fields}
use Rattle.layout.specs.Time.{view_time}
use Rattle.layout.proofs.Single.{timestamp_type, type_again, fields, fields_again, time, time_again}
use Rattle.opening.specs.Judgement.{Judgement, judge}
use Rattle.opening.proofs.Single.{refusal, refusal_again}
use Rattle.markers.proofs.Single.{marker, marker_again}
use Rattle.layout.specs.declared.ControlMode.{ControlMode}
use Rattle.batches.specs.declared.body.BodyReader.{BodyReader}
use Rattle.batches.specs.declared.RecordBatch.{RecordBatch}
use Rattle.batches.specs.declared.ControlBatchOrRecords.{ControlBatchOrRecords}
use Rattle.batches.specs.declared.BatchFound.{BatchFound}
use Rattle.batches.specs.declared.ReadError.{ReadError}
use Rattle.opening.specs.declared.OpenError.{OpenError}
use Rattle.std.specs.Prelude.{Result, Ok, Err}
use Rattle.batches.specs.Answers.{Kind, of_records, of_marker, Answer, view_fields, view_kind, view_count, view_check, view_read}
use Rattle.batches.specs.Promises.{FromOpenErrorPromise, FromRecordsErrorPromise, FromRecordBatchPromise, FromBatchFieldsPromise, TotalSizePromise, CheckPromise, ReadBy, ReadPromise, BodyReaderPromise, ReadBodyPromise, ReadHeldPromise, RecordCountPromise, RecordTimePromise, MeasurePromise, WritePromise, Canonical, CanonicalPromise}

pub single_from_open_error : (e : OpenError) → Single (FromOpenErrorPromise e)
single_from_open_error e = single_value _

pub single_from_records_error : (e : RecordsError) → Single (FromRecordsErrorPromise e)
single_from_records_error e = single_value _

pub single_from_record_batch : (b : RecordBatch) → Single (FromRecordBatchPromise b)
single_from_record_batch b x x' e e' = single_view view_batch_fields fields fields_again _ x x' e.same e'.same

pub single_total_size : (n : ℤ) → Single (TotalSizePromise n)
single_total_size n = single_value _

-- ---- fields and kind, made from what they say

abbrev batch_of : Fields → RecordBatchTimestampType → RecordBatch
batch_of x t =
    record {
      base_offset = x.base_offset;
      partition_leader_epoch = x.partition_leader_epoch;
      last_offset_delta = x.last_offset_delta;
      first_timestamp = x.first_timestamp;
      max_timestamp = x.max_timestamp;
      producer_id = x.producer_id;
      producer_epoch = x.producer_epoch;
      base_sequence = x.base_sequence;
      is_transactional = x.transactional;
      timestamp_type = t;
    }

abbrev batch : Fields → RecordBatch
batch x = batch_of x (timestamp_type x.timestamp_type)

batch_again : (b : RecordBatch) → batch (view_fields b) ≡ b
batch_again b = ap (batch_of (view_fields b)) (type_again b.timestamp_type)

pub single_from_batch_fields : (x : BatchFields) → Single (FromBatchFieldsPromise x)
single_from_batch_fields x = single_view view_fields batch batch_again _

abbrev kind : Kind → ℕ → ControlBatchOrRecords
kind of_records n = ControlBatchOrRecords.Records n
kind (of_marker m) n = ControlBatchOrRecords.ControlBatch (marker m)

kind_again : (k : ControlBatchOrRecords) → kind (view_kind k) (view_count k) ≡ k
kind_again (ControlBatchOrRecords.ControlBatch m) = ap ControlBatchOrRecords.ControlBatch (marker_again m)
kind_again (ControlBatchOrRecords.Records n) = refl

-- an acceptance where fields and kind are named, or another answer
abbrev acceptance : {R : Type 0} → (RecordBatch → ControlBatchOrRecords → R) → R → Option Fields → Option Kind → ℕ → R
acceptance accepted other (some x) (some k) n = accepted (batch x) (kind k n)
acceptance accepted other (some x) none n = other
acceptance accepted other none k n = other

-- ---- an answer, made from what it says

abbrev pub check : Answer → Result BatchFound OpenError
check a =
    acceptance (λ b k. Ok (record { batch = b; kind = k; headers = a.headers; consumed = a.bytes }))
    (Err (refusal (OpenError.MoreBytes a.bytes) (OpenError.MoreBytes a.bytes) OpenError.Refused a.number))
    a.fields a.kind a.records

found_again : {E : Type 0} (x : BatchFound)
    → ◌≡◌ {A = Result BatchFound E} (Ok (record { batch = batch (view_fields x.batch); kind = kind (view_kind x.kind) (view_count x.kind); headers = x.headers; consumed = x.consumed })) (Ok x)
found_again x = λ i. Ok (record { batch = batch_again x.batch i; kind = kind_again x.kind i; headers = x.headers; consumed = x.consumed })

pub check_again : (r : Result BatchFound OpenError) → check (view_check r) ≡ r
check_again (Ok x) = found_again x
check_again (Err (OpenError.MoreBytes bytes)) = refl
check_again (Err (OpenError.Refused f)) = ap Err (refusal_again _ _ OpenError.Refused f)

abbrev pub read : Answer → Result BatchFound ReadError
read a =
    acceptance (λ b k. Ok (record { batch = b; kind = k; headers = a.headers; consumed = a.bytes }))
    (Err (refusal (ReadError.MoreBytes a.bytes) (ReadError.NoRoom a.records a.headers) ReadError.Refused a.number))
    a.fields a.kind a.records

pub read_again : (r : Result BatchFound ReadError) → read (view_read r) ≡ r
read_again (Ok x) = found_again x
read_again (Err (ReadError.MoreBytes bytes)) = refl
read_again (Err (ReadError.Refused f)) = ap Err (refusal_again _ _ ReadError.Refused f)
read_again (Err (ReadError.NoRoom n m)) = refl

-- answers that say the same are the same
pub view_check_injective : (r r' : Result BatchFound OpenError) → view_check r ≡ view_check r' → r ≡ r'
view_check_injective r r' e = single_view view_check check check_again (view_check r') r r' e refl

pub view_read_injective : (r r' : Result BatchFound ReadError) → view_read r ≡ view_read r' → r ≡ r'
view_read_injective r r' e = single_view view_read read read_again (view_read r') r r' e refl

-- ---- the promises

pub single_check : (mode : ControlMode) (s : List ℕ) → Single (CheckPromise mode s)
single_check mode s r r' e e' = view_check_injective r r' (e.answer ∙ sym e'.answer)

pub single_read_by : (j : Judgement) (t : Tables) → Single (ReadBy j t)
single_read_by j t o o' e e' =
    let p = view_read_injective o.result o'.result (e.answer ∙ sym e'.answer) in
    let q = single_value _ o.tables o'.tables e.tables e'.tables in
    λ i. record { result = p i; tables = q i }

pub single_read : (mode : ControlMode) (s : List ℕ) (t : Tables) → Single (ReadPromise mode s t)
single_read mode s t o o' e e' = single_read_by (judge mode s) t o o' e.by e'.by

pub single_body_reader : (body : Bor (List ℕ)) (at : ℕ) → Single (BodyReaderPromise body at)
single_body_reader body at = single_value _

pub single_read_body : (s : List ℕ) (at count first : ℕ) (t : Tables) → Single (ReadBodyPromise s at count first t)
single_read_body s at count first t = single_read_records s at count first t

pub single_read_held : (r : BodyReader) (count first : ℕ) (t : Tables) → Single (ReadHeldPromise r count first t)
single_read_held r count first t o o' e e' =
    let p = single_read_body r.body.now r.at count first t o.read o'.read e.read e'.read in
    let q = e.body ∙ sym e'.body in
    λ i. record { read = p i; body = q i }

pub single_record_count : (k : ControlBatchOrRecords) → Single (RecordCountPromise k)
single_record_count k = single_value _

pub single_record_time : (b : RecordBatch) (delta : ℤ) → Single (RecordTimePromise b delta)
single_record_time b delta = single_view view_time time time_again _

-- ---- the writer's promises, and the canonical check's

pub single_measure : (mode : ControlMode) (b : RecordBatch) (codec : ℕ) (k : ControlBatchOrRecords) (t : Tables) (s : List ℕ) → Single (MeasurePromise mode b codec k t s)
single_measure mode b codec k t s = single_written _

pub single_write : (mode : ControlMode) (b : RecordBatch) (codec : ℕ) (k : ControlBatchOrRecords) (t : Tables) (s out : List ℕ)
    → Single (WritePromise mode b codec k t s out)
single_write mode b codec k t s out o o' e e' = single_write_by _ 0 out o o' e.by e'.by

pub single_is_canonical : (mode : ControlMode) (s : List ℕ) → Single (CanonicalPromise mode s)
single_is_canonical mode s r r' e e' = single_exactly (Canonical mode s) r r' e.says e'.says

-- What each public function promises of its result and of what it is lent to change, the reader's tables and the
-- writer's output, for every input. All else is lent to be read: no function here can change it. That lent bytes are
-- bytes, and numbers handed in of their width, is promised too, so that no law about a function has to ask it.
use Rattle.std.specs.Prelude.{ℕ, ◌≡◌, Bool, true, List, ℤ, length, Option, Result}
use Rattle.std.specs.Borrow.{Bor}
use Rattle.numbers.specs.Bytes.{Bytes}
use Rattle.numbers.specs.Exactly.{Exactly}
use Rattle.records.specs.Rows.{Tables}
use Rattle.reading.specs.declared.RecordsError.{RecordsError}
use Rattle.reading.specs.Promises.{ReadOutcome as RecordsOutcome, ReadRecordsPromise}
use Rattle.asking.specs.declared.WriteFault.{WriteFault}
use Rattle.writing.specs.Answers.{given, view_written, measured}
use Rattle.writing.specs.Promises.{WriteOutcome, WriteBy}
use Rattle.layout.specs.declared.BatchFields.{BatchFields}
use Rattle.layout.specs.declared.ControlMode.{ControlMode}
use Rattle.layout.specs.Fixed.{view_batch_fields}
use Rattle.layout.specs.Time.{record_time, view_time}
use Rattle.layout.specs.Promises as Layout
use Rattle.opening.specs.declared.OpenError.{OpenError}
use Rattle.opening.specs.Judgement.{accepted, Accepted, Judgement, judge}
use Rattle.batches.specs.declared.body.BodyReader.{BodyReader}
use Rattle.batches.specs.declared.RecordBatch.{RecordBatch}
use Rattle.batches.specs.declared.ControlBatchOrRecords.{ControlBatchOrRecords}
use Rattle.batches.specs.declared.BatchFound.{BatchFound}
use Rattle.batches.specs.declared.ReadError.{ReadError}
use Rattle.batches.specs.Writer.{view_wanted, batch_given, own_tables, wanted_of}
use Rattle.batches.specs.Answers.{view_fields, view_count, view_check, view_read, error_of_opening, error_of_records, answer_with_room, rooms_of, answer_of, tables_of}
use Rattle.batches.specs.Request.{InWidth, Sensible}

-- ReadError::from an error of the opening
abbrev pub FromOpenErrorPromise : OpenError → ReadError → Type 0
FromOpenErrorPromise e r = r ≡ error_of_opening e

-- ReadError::from an error of the records
abbrev pub FromRecordsErrorPromise : RecordsError → ReadError → Type 0
FromRecordsErrorPromise e r = r ≡ error_of_records e

-- BatchFields::from a batch: its fields as they are laid out, and that they are of their width
pub record FromRecordBatchPromise (b : RecordBatch) (x : BatchFields) : Type 0 where
  pub same : view_batch_fields x ≡ view_fields b
  pub widths : InWidth (view_fields b)

-- RecordBatch::from the fields as they are laid out
abbrev pub FromBatchFieldsPromise : BatchFields → RecordBatch → Type 0
FromBatchFieldsPromise x b = view_fields b ≡ view_batch_fields x

-- RecordBatch::total_size, of any batchLength
abbrev pub TotalSizePromise : ℤ → ℤ → Type 0
TotalSizePromise batch_length r = Layout.TotalSizePromise batch_length r

-- RecordBatch::check, on bytes s
pub record CheckPromise (mode : ControlMode) (s : List ℕ) (r : Result BatchFound OpenError) : Type 0 where
  pub lent : Bytes s
  pub answer : view_check r ≡ answer_with_room (judge mode s)

-- the result of RecordBatch::read, with both tables at exit
pub record ReadOutcome : Type 0 where
  pub result : Result BatchFound ReadError
  pub tables : Tables

-- what reading gives by a judgement, on tables t: the answer, and the tables at exit
pub record ReadBy (j : Judgement) (t : Tables) (o : ReadOutcome) : Type 0 where
  pub answer : view_read o.result ≡ answer_of j (rooms_of t)
  pub tables : o.tables ≡ tables_of j t

-- RecordBatch::read, on bytes s and tables t
pub record ReadPromise (mode : ControlMode) (s : List ℕ) (t : Tables) (o : ReadOutcome) : Type 0 where
  pub lent : Bytes s
  pub by : ReadBy (judge mode s) t o

-- BodyReader::new, of a lent body and a place: the reader holds that very body, and that place
abbrev pub BodyReaderPromise : Bor (List ℕ) → ℕ → BodyReader → Type 0
BodyReaderPromise body at r = r ≡ record { body = body; at = at }

-- read_body, on the bytes s of a batch, a place in them, a number of records, a first header row and two tables
abbrev pub ReadBodyPromise : List ℕ → ℕ → ℕ → ℕ → Tables → RecordsOutcome → Type 0
ReadBodyPromise s at count first t o = ReadRecordsPromise s at count first t o

-- the result of BodyReader::read_records with both tables at exit, and the body that the reader then holds
pub record HeldOutcome : Type 0 where
  pub read : RecordsOutcome
  pub body : Bor (List ℕ)

-- BodyReader::read_records: as read_body, of the body that the reader holds and of its place, and that body as it was
pub record ReadHeldPromise (r : BodyReader) (count first : ℕ) (t : Tables) (o : HeldOutcome) : Type 0 where
  pub read : ReadBodyPromise r.body.now r.at count first t o.read
  pub body : o.body ≡ r.body

-- ControlBatchOrRecords::record_count
abbrev pub RecordCountPromise : ControlBatchOrRecords → ℕ → Type 0
RecordCountPromise kind n = n ≡ view_count kind

-- RecordBatch::record_time
abbrev pub RecordTimePromise : RecordBatch → ℤ → Option ℤ → Type 0
RecordTimePromise b delta r = view_time r ≡ record_time (view_fields b) delta

-- RecordBatch::measure, of fields, a codec number, a kind, tables t and a source s
abbrev pub MeasurePromise : ControlMode → RecordBatch → ℕ → ControlBatchOrRecords → Tables → List ℕ → Result ℕ WriteFault → Type 0
MeasurePromise mode b codec kind t s r = view_written r ≡ measured (batch_given mode (view_fields b) codec (view_wanted kind) t s)

-- RecordBatch::write, the same into an output
pub record WritePromise
    (mode : ControlMode) (b : RecordBatch) (codec : ℕ) (kind : ControlBatchOrRecords) (t : Tables) (s out : List ℕ) (o : WriteOutcome)
    : Type 0 where
  pub handed : Sensible (record { mode = mode; batch = b; codec = codec; kind = kind; tables = t; source = s })
  pub by : WriteBy (batch_given mode (view_fields b) codec (view_wanted kind) t s) 0 out o

-- Document 01, the canonical check: the bytes, all of them, are one batch that is accepted, and equal what the writer
-- gives for it, from its own rows and these bytes.
pub record Canonical (mode : ControlMode) (s : List ℕ) : Type 0 where
  pub batch : Accepted
  pub judged : judge mode s ≡ accepted batch
  pub whole : batch.consumed ≡ length s
  pub rewritten : batch_given mode batch.fields 0 (wanted_of batch.content) (own_tables batch.content) s ≡ given s

-- RecordBatch::is_canonical, on bytes s
pub record CanonicalPromise (mode : ControlMode) (s : List ℕ) (r : Bool) : Type 0 where
  pub lent : Bytes s
  pub says : Exactly (r ≡ true) (Canonical mode s)

-- Demand 2 of the public reader: what is read is proved against a definition written from Kafka's published format. What
-- `RecordBatch::read` and `RecordBatch::check` answer is said here by the format alone (crates/layout/specs/Format.antt).
-- What proves each stands in proofs/ under the statement's name in small letters: `read_sound : ReadSound`.
use Rattle.std.specs.Prelude.{Result, ℕ, ◌/◌, ◌≤◌, ◌≡◌, Bool, false, List, ◌++◌, length}
use Rattle.std.proofs.Math.Option.{some}
use Rattle.numbers.specs.Exactly.{Exactly}
use Rattle.primitives.specs.Stands.{Encoding}
use Rattle.records.specs.Format.{Record}
use Rattle.records.specs.Judgement.{RecordSpans}
use Rattle.records.specs.Rows.{Tables}
use Rattle.layout.specs.declared.ControlMode.{ControlMode}
use Rattle.layout.specs.Batch.{Fields, Content, Batch}
use Rattle.layout.specs.Format.{BatchBytes, Grammar, BatchBytesWith}
use Rattle.batches.specs.declared.BatchFound.{BatchFound}
use Rattle.opening.specs.declared.OpenError.{OpenError}
use Rattle.batches.specs.Placed.{placed_batch, shown_content}
use Rattle.batches.specs.Answers.{Standing, Answer, accepts, refuses, view_check, view_read, kind_of, records_in, headers_of}
use Rattle.batches.specs.Request.{InWidth}
use Rattle.batches.specs.Promises.{CheckPromise, ReadOutcome, ReadPromise}
use Rattle.batches.specs.FirstFaults.{FirstFault}
use Rattle.batches.specs.Filled.{Filled}

-- ---- what is said of a batch

-- An answer is 0 with the fields and the kind of a batch, the counts of its records and headers and its bytes. Its
-- spans, in the bytes s, show just its records.
pub record Names (s : List ℕ) (b : Batch Record) (spans : Content RecordSpans) (consumed : ℕ) (a : Answer) : Type 0 where
  pub answered : a ≡ accepts b.fields (kind_of b.content) (records_in spans) (headers_of spans) consumed
  pub shows : shown_content s spans ≡ b.content

-- what a batch's encoding at the start of some bytes has for spans: each start is the place just after its own length
abbrev pub spans_of : {grammar : Grammar} {strict : Bool} {bs : List ℕ} {b : Batch Record} → BatchBytesWith grammar strict bs b → Content RecordSpans
spans_of g = (placed_batch 0 0 g).content

-- ---- the reader

-- rows enough
pub record Enough (c : Content RecordSpans) (t : Tables) : Type 0 where
  pub records : records_in c ≤ length t.records / 8
  pub headers : headers_of c ≤ length t.headers / 4

-- Where `read` answers 0, a batch of the format stands in the first bytes, as many as are consumed; fields, kind and
-- counts are its own; the tables hold the numbers of its records and headers, and every other index what it held.
pub record ReadAs (mode : ControlMode) (s : List ℕ) (t : Tables) (o : ReadOutcome) : Type 0 where
  pub batch : Batch Record
  pub stands : Encoding (BatchBytes mode false) s 0 (view_read o.result).bytes batch
  pub names : Names s batch (spans_of stands.encodes) (view_read o.result).bytes (view_read o.result)
  pub filled : Filled (spans_of stands.encodes) t o.tables

abbrev pub ReadSound : Type 0
ReadSound =
    (mode : ControlMode) (s : List ℕ) (t : Tables) (o : ReadOutcome) → ReadPromise mode s t o → (view_read o.result).number ≡ 0 → ReadAs mode s t o

-- Every batch of the format, followed by anything, with rows enough, is answered 0 with its values.
abbrev pub ReadComplete : Type 0
ReadComplete =
    (mode : ControlMode) (strict : Bool) (bs after : List ℕ) (b : Batch Record) (g : BatchBytes mode strict bs b) (t : Tables) (o : ReadOutcome)
    → ReadPromise mode (bs ++ after) t o → Enough (spans_of g) t
    → Names (bs ++ after) b (spans_of g) (length bs) (view_read o.result) × Filled (spans_of g) t o.tables

-- A number of a refusal that stands is answered exactly where it is that of the first fault, as the format alone says it.
abbrev pub ReadFaults : Type 0
ReadFaults =
    (mode : ControlMode) (s : List ℕ) (t : Tables) (o : ReadOutcome) (n : ℕ) → ReadPromise mode s t o
    → Exactly (Standing n × (view_read o.result ≡ refuses n)) (FirstFault mode s n)

-- The fields that are read are of their width.
abbrev pub ReadInWidth : Type 0
ReadInWidth =
    (mode : ControlMode) (s : List ℕ) (t : Tables) (o : ReadOutcome) (x : Fields) → ReadPromise mode s t o → (view_read o.result).fields ≡ some x → InWidth x

-- ---- the check

-- the same, without tables
pub record CheckAs (mode : ControlMode) (s : List ℕ) (r : Result BatchFound OpenError) : Type 0 where
  pub batch : Batch Record
  pub stands : Encoding (BatchBytes mode false) s 0 (view_check r).bytes batch
  pub names : Names s batch (spans_of stands.encodes) (view_check r).bytes (view_check r)

abbrev pub CheckSound : Type 0
CheckSound = (mode : ControlMode) (s : List ℕ) (r : Result BatchFound OpenError) → CheckPromise mode s r → (view_check r).number ≡ 0 → CheckAs mode s r

abbrev pub CheckComplete : Type 0
CheckComplete =
    (mode : ControlMode) (strict : Bool) (bs after : List ℕ) (b : Batch Record) (g : BatchBytes mode strict bs b) (r : Result BatchFound OpenError)
    → CheckPromise mode (bs ++ after) r
    → Names (bs ++ after) b (spans_of g) (length bs) (view_check r)

abbrev pub CheckFaults : Type 0
CheckFaults =
    (mode : ControlMode) (s : List ℕ) (r : Result BatchFound OpenError) (n : ℕ) → CheckPromise mode s r
    → Exactly (Standing n × (view_check r ≡ refuses n)) (FirstFault mode s n)

-- ---- what demand 2 says of an outcome, by the format alone

-- a batch, or the first fault, which changes no table
pub data DemandTwo (mode : ControlMode) (s : List ℕ) (t : Tables) (o : ReadOutcome) : Type 0 where
  a_batch : (view_read o.result).number ≡ 0 → ReadAs mode s t o → DemandTwo mode s t o
  a_fault : (n : ℕ) → view_read o.result ≡ refuses n → FirstFault mode s n → o.tables ≡ t → DemandTwo mode s t o

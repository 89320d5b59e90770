-- The laws of the library for other languages, each in words and then as a statement. What proves each stands in
-- proofs/ under the statement's name in small letters: `entries_taken : EntriesTaken`.
use Rattle.std.specs.Prelude.{ℕ, ◌≤◌, ◌≡◌, Bool, List, [], ◌∷◌, ◌++◌, ℤ, pos, length, take, get_or, Result}
use Rattle.std.proofs.Math.Option.{some}
use Rattle.numbers.specs.Bytes.{Bytes}
use Rattle.numbers.specs.Pick.{pick}
use Rattle.primitives.specs.Step.{ok}
use Rattle.records.specs.Judgement.{RecordSpans}
use Rattle.records.specs.Rows.{Tables}
use Rattle.asking.specs.declared.WriteFault.{WriteFault}
use Rattle.writing.specs.Answers.{view_written}
use Rattle.writing.specs.Promises as Writing
use Rattle.asking.specs.Asked.{RowPlace}
use Rattle.layout.specs.declared.ControlMode.{ControlMode}
use Rattle.layout.specs.Batch.{Fields, Content}
use Rattle.layout.specs.Time.{record_time}
use Rattle.opening.specs.declared.OpenError.{OpenError}
use Rattle.opening.specs.Judgement.{judge}
use Rattle.batches.specs.declared.RecordBatch.{RecordBatch}
use Rattle.batches.specs.declared.ControlBatchOrRecords.{ControlBatchOrRecords}
use Rattle.batches.specs.declared.BatchFound.{BatchFound}
use Rattle.batches.specs.Answers.{Kind, of_records, of_marker, Answer, accepts, view_fields, view_check, view_read, records_in, headers_of, answer_with_room, Rooms, answer_of}
use Rattle.batches.specs.Promises as Batches
use Rattle.batches.specs.Placed.{shown_content}
use Rattle.batches.specs.Writer.{Wanted, marker, rows, view_wanted, content_asked}
use Rattle.batches.specs.Request.{InWidth}
use Rattle.batches.specs.Filled.{Filled}
use Rattle.batches.specs.Demand2.{Enough}
use Rattle.numbers.specs.Exactly.{Exactly}
use Rattle.converting.specs.Answers as Converting
use Rattle.converting.specs.Answers.{view_converted}
use Rattle.converting.specs.Conversion.{conversion_of}
use Rattle.converting.specs.Promises as Conversions
use Rattle.oddrafisk.specs.Entries.{mode_of, type_entry, entries_of, AskedBatch, entries_asked}
use Rattle.oddrafisk.specs.Promises.{Outcome, Says, CheckPromise, ReadOutcome, ReadPromise, Sizes, MeasurePromise, WriteOutcome, WritePromise, Tells, ConvertOutcome, ConvertPromise, CanonicalPromise, time_for}

-- ---- the mode

-- 1 is the keyed mode's number, and no other is.
abbrev pub ModeNumbers : Type 0
ModeNumbers = (n : ℕ) → Exactly (mode_of n ≡ ControlMode.Keyed) (n ≡ 1)

-- ---- numbers

-- no count of an answer is above the bytes of the longest batch, 12 + 2147483647
pub record Counted (a : Answer) : Type 0 where
  pub records : a.records ≤ 2147483659
  pub headers : a.headers ≤ 2147483659
  pub bytes : a.bytes ≤ 2147483659

-- Whatever is checked or read, each count is a number that an entry holds.
abbrev pub CheckCounted : Type 0
CheckCounted = (mode : ControlMode) (s : List ℕ) → Counted (answer_with_room (judge mode s))

abbrev pub ReadCounted : Type 0
ReadCounted = (mode : ControlMode) (s : List ℕ) (r : Rooms) → Counted (answer_of (judge mode s) r)

-- So are the bytes that a conversion takes and gives, and those that it needs.
abbrev pub ConvertCounted : Type 0
ConvertCounted =
    (s : List ℕ) (room : ℕ) → Bytes s
    → ((Converting.answer_of (conversion_of s) room).taken ≤ 2147483659) × ((Converting.answer_of (conversion_of s) room).given ≤ 2147483659)

-- ---- the layer below

-- The library says what RecordBatch::check answers.
abbrev pub ChecksAlike : Type 0
ChecksAlike =
    (mode : ControlMode) (s : List ℕ) (r : Result BatchFound OpenError) (o : Outcome) → Batches.CheckPromise mode s r → CheckPromise mode s o
    → Says (view_check r) o

-- It says what RecordBatch::read answers, and fills both tables alike.
abbrev pub ReadsAlike : Type 0
ReadsAlike =
    (mode : ControlMode) (s : List ℕ) (t : Tables) (o : Batches.ReadOutcome) (o' : ReadOutcome) → Batches.ReadPromise mode s t o
    → ReadPromise mode s t o' → Says (view_read o.result) o'.said × (o'.tables ≡ o.tables)

-- the entries are taken, and ask for these fields and this kind
abbrev pub Taken : List ℤ → RecordBatch → ControlBatchOrRecords → Type 0
Taken e b kind = entries_asked e ≡ some (record { fields = view_fields b; wanted = view_wanted kind })

-- Of entries that are taken it says the number and the length that RecordBatch::measure answers for these fields and
-- this kind, for the same codec number, tables and source.
abbrev pub MeasuresAlike : Type 0
MeasuresAlike =
    (mode : ControlMode) (e : List ℤ) (b : RecordBatch) (codec : ℕ) (kind : ControlBatchOrRecords) (t : Tables) (s : List ℕ) (r : Result ℕ WriteFault)
    (o : Outcome) → Taken e b kind → Batches.MeasurePromise mode b codec kind t s r → MeasurePromise mode e (pos codec) t s o
    → Sizes (view_written r) o

-- So it says what RecordBatch::write answers, and leaves the same output.
abbrev pub WritesAlike : Type 0
WritesAlike =
    (mode : ControlMode) (e : List ℤ) (b : RecordBatch) (codec : ℕ) (kind : ControlBatchOrRecords) (t : Tables) (s out : List ℕ)
    (o : Writing.WriteOutcome) (o' : WriteOutcome) → Taken e b kind → Batches.WritePromise mode b codec kind t s out o
    → WritePromise mode e (pos codec) t s out o' → Sizes (view_written o.result) o'.said × (o'.output ≡ o.output)

-- It says 1 exactly where RecordBatch::is_canonical says true, and else 0.
abbrev pub CanonicalAlike : Type 0
CanonicalAlike =
    (mode : ControlMode) (s : List ℕ) (r : Bool) (n : ℕ) → Batches.CanonicalPromise mode s r → CanonicalPromise mode s n → n ≡ pick r 1 0

-- It says what convert answers, and leaves the same output.
abbrev pub ConvertsAlike : Type 0
ConvertsAlike =
    (s out : List ℕ) (o : Conversions.ConvertOutcome) (o' : ConvertOutcome) → Conversions.ConvertPromise s out o → ConvertPromise s out o'
    → Tells (view_converted o.result) o'.said × (o'.output ≡ o.output)

-- It tells times as RecordBatch::record_time does, of the fields that it is handed.
abbrev pub TimesAlike : Type 0
TimesAlike =
    (x : Fields) (delta : ℤ)
    → time_for (type_entry x.timestamp_type) x.first_timestamp x.max_timestamp delta ≡ record_time x delta

-- ---- what is read is what is asked for

-- the kind that is asked for by the kind that was read, and its number of records
abbrev pub asked_kind : Kind → ℕ → Wanted
asked_kind of_records n = rows n
asked_kind (of_marker m) n = marker m

-- The writer takes the entries that the reader gives of a batch, and they ask for that batch.
abbrev pub EntriesTaken : Type 0
EntriesTaken =
    (x : Fields) (k : Kind) (n m bytes : ℕ) → InWidth x
    → entries_asked (entries_of (accepts x k n m bytes)) ≡ some (record { fields = x; wanted = asked_kind k n })

-- ---- what is written reads back

-- what entries, tables and a source ask for: a marker, or records whose spans lie in the source
pub record AsksFor (mode : ControlMode) (e : List ℤ) (t : Tables) (s : List ℕ) (c : Content RecordSpans) : Type 0 where
  pub batch : AskedBatch
  pub taken : entries_asked e ≡ some batch
  pub place : RowPlace
  pub is : content_asked mode batch.wanted t s ≡ ok c place

-- What is read from the bytes s: number 0; the ten fields and the kind as the entries have them; the counts of what was
-- asked for, and as many bytes as were written; and records (or a marker) that show in s what those asked for show in
-- the source: equal deltas, nulls and bytes. Their rows stand in the tables.
pub record SameInC (e : List ℤ) (c : Content RecordSpans) (source : List ℕ) (n : ℕ) (s : List ℕ) (t : Tables) (o : ReadOutcome) : Type 0 where
  pub number : o.said.number ≡ 0
  pub entries : (i : ℕ) → i ≤ 10 → get_or o.said.answer i (pos 0) ≡ get_or e i (pos 0)
  pub records : get_or o.said.answer 11 (pos 0) ≡ pos (records_in c)
  pub headers : get_or o.said.answer 12 (pos 0) ≡ pos (headers_of c)
  pub bytes : get_or o.said.answer 13 (pos 0) ≡ pos n
  pub read : Content RecordSpans
  pub filled : Filled read t o.tables
  pub shows : shown_content s read ≡ shown_content source c

-- what was accepted asks for something, and is read back as that, from its bytes with anything after them, rows enough
-- being lent
pub record WrittenInC (mode : ControlMode) (e : List ℤ) (t : Tables) (s : List ℕ) (w : WriteOutcome) : Type 0 where
  pub content : Content RecordSpans
  pub asked : AsksFor mode e t s content
  pub size : ℕ
  pub answer_is : w.said.answer ≡ pos size ∷ []
  pub reads : (after : List ℕ) (t' : Tables) (o : ReadOutcome) → ReadPromise mode (take size w.output ++ after) t' o
      → Enough content t' → SameInC e content s size (take size w.output ++ after) t' o

-- What oddrafisk_write accepts, oddrafisk_read reads back as the same batch.
abbrev pub ReadsBackInC : Type 0
ReadsBackInC =
    (mode : ControlMode) (e : List ℤ) (codec : ℤ) (t : Tables) (s out : List ℕ) (w : WriteOutcome) → WritePromise mode e codec t s out w
    → w.said.number ≡ 0 → WrittenInC mode e t s w

-- what was read is taken again by the writer: it is accepted, where the output is as long as the batch that was read, in
-- no more bytes than that had
pub record HandsOn (mode : ControlMode) (s : List ℕ) (t : Tables) (o : ReadOutcome) : Type 0 where
  pub consumed : ℕ
  pub size : ℕ
  pub consumed_is : get_or o.said.answer 13 (pos 0) ≡ pos consumed
  pub within : size ≤ consumed
  pub measures : (m : Outcome) → MeasurePromise mode o.said.answer (pos 0) o.tables s m → m ≡ record { number = 0; answer = pos size ∷ [] }
  pub writes : (out : List ℕ) (w : WriteOutcome) → WritePromise mode o.said.answer (pos 0) o.tables s out w → consumed ≤ length out
      → w.said ≡ record { number = 0; answer = pos size ∷ [] }

-- What oddrafisk_read gives of a batch can be handed to oddrafisk_measure and oddrafisk_write as it stands, the tables
-- with it, and the bytes that were read as the source.
abbrev pub HandedOn : Type 0
HandedOn = (mode : ControlMode) (s : List ℕ) (t : Tables) (o : ReadOutcome) → ReadPromise mode s t o → o.said.number ≡ 0 → HandsOn mode s t o

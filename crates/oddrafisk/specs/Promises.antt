-- What each function that other languages call promises of its result and of what it is lent to change, for every value
-- of every parameter. Each cites what the layer below promises: the same judgement, the same bytes given. All else is
-- lent to be read: no function here can change it. That lent bytes are bytes, and fields that entries ask for of their
-- width, is promised too, so that no law about a function has to ask it. The mode is that of a number (`mode_of`,
-- Entries.antt).
use Rattle.std.specs.Prelude.{ℕ, ◌+◌, ◌*◌, ◌≡◌, true, false, List, [], ◌∷◌, ℤ, pos, length, get_or}
use Rattle.std.proofs.Math.Option.{Option, none, some}
use Rattle.numbers.specs.Bytes.{Bytes}
use Rattle.numbers.specs.Pick.{pick}
use Rattle.numbers.specs.Exactly.{Exactly}
use Rattle.crc32c.specs.Promises as Checksum
use Rattle.records.specs.Rows.{Tables}
use Rattle.layout.specs.declared.ControlMode.{ControlMode}
use Rattle.layout.specs.Batch.{TimestampType, Fields}
use Rattle.layout.specs.Time.{record_time}
use Rattle.writing.specs.Answers as Writing
use Rattle.writing.specs.Answers.{Given, refused, measured, answer_due, output_due}
use Rattle.opening.specs.Judgement.{is, judge}
use Rattle.batches.specs.Answers.{Answer, answer_with_room, rooms_of, answer_of, tables_of}
use Rattle.batches.specs.Writer.{batch_given}
use Rattle.batches.specs.Request.{InWidth}
use Rattle.batches.specs.Promises.{Canonical}
use Rattle.converting.specs.Answers as Converting
use Rattle.converting.specs.Conversion.{conversion_of}
use Rattle.oddrafisk.specs.Entries.{entries_of, is0or1, type_of, bare_asked, AskedBatch, entries_asked}

-- ---- the reader

-- the number that is returned, with the entries at exit
pub record Outcome : Type 0 where
  pub number : ℕ
  pub answer : List ℤ

-- what says an answer
pub record Says (a : Answer) (o : Outcome) : Type 0 where
  pub number : o.number ≡ a.number
  pub answer : o.answer ≡ entries_of a

-- oddrafisk_check, on bytes s: as RecordBatch::check
pub record CheckPromise (mode : ControlMode) (s : List ℕ) (o : Outcome) : Type 0 where
  pub lent : Bytes s
  pub said : Says (answer_with_room (judge mode s)) o

-- the same, with both tables at exit
pub record ReadOutcome : Type 0 where
  pub said : Outcome
  pub tables : Tables

-- oddrafisk_read, on bytes s and tables t: as RecordBatch::read
pub record ReadPromise (mode : ControlMode) (s : List ℕ) (t : Tables) (o : ReadOutcome) : Type 0 where
  pub lent : Bytes s
  pub said : Says (answer_of (judge mode s) (rooms_of t)) o.said
  pub tables : o.tables ≡ tables_of (judge mode s) t

-- ---- the writer

-- entries that no batch has are refused as such rows are
abbrev pub given_for : ControlMode → Option AskedBatch → Tables → List ℕ → Given
given_for mode none t s = refused 21
given_for mode (some b) t s = batch_given mode b.fields 0 b.wanted t s

-- C-24: a marker in bare mode is refused by 41, whatever the other entries are
abbrev pub kind_given : ControlMode → List ℤ → Tables → List ℕ → Given
kind_given mode e t s = pick (bare_asked mode (get_or e 10 (pos 0))) (refused 41) (given_for mode (entries_asked e) t s)

-- document 01, Writer's numbers, as C-24 has them, in their order: the codec, then a marker in bare mode, then the
-- entries, then as RecordBatch::write
abbrev pub entries_given : ControlMode → List ℤ → ℤ → Tables → List ℕ → Given
entries_given mode e codec t s = pick (is 0 codec) (kind_given mode e t s) (refused 20)

-- what says the number, and the length
pub record Sizes (a : Writing.Answer) (o : Outcome) : Type 0 where
  pub number : o.number ≡ a.number
  pub answer : o.answer ≡ pos a.bytes ∷ []

-- oddrafisk_measure, of entries e, a codec number, tables t and a source s
abbrev pub MeasurePromise : ControlMode → List ℤ → ℤ → Tables → List ℕ → Outcome → Type 0
MeasurePromise mode e codec t s o = Sizes (measured (entries_given mode e codec t s)) o

-- what is handed in is of the machine's types: the source, and the fields that entries ask for
pub record Handed (e : List ℤ) (codec : ℤ) (s : List ℕ) : Type 0 where
  pub source : Bytes s
  pub fields : (b : AskedBatch) → is 0 codec ≡ true → entries_asked e ≡ some b → InWidth b.fields

-- the same as measuring, with the output at exit
pub record WriteOutcome : Type 0 where
  pub said : Outcome
  pub output : List ℕ

-- oddrafisk_write, into an output
pub record WritePromise (mode : ControlMode) (e : List ℤ) (codec : ℤ) (t : Tables) (s out : List ℕ) (o : WriteOutcome) : Type 0 where
  pub handed : Handed e codec s
  pub said : Sizes (answer_due 0 out (entries_given mode e codec t s)) o.said
  pub output : o.output ≡ output_due 0 out (entries_given mode e codec t s)

-- ---- the conversion

-- what says the number, and two numbers: the bytes taken, or needed, and the bytes given
pub record Tells (a : Converting.Answer) (o : Outcome) : Type 0 where
  pub number : o.number ≡ a.number
  pub answer : o.answer ≡ pos a.taken ∷ pos a.given ∷ []

-- with the output at exit
pub record ConvertOutcome : Type 0 where
  pub said : Outcome
  pub output : List ℕ

-- oddrafisk_convert, on bytes s and an output: as convert
pub record ConvertPromise (s out : List ℕ) (o : ConvertOutcome) : Type 0 where
  pub lent : Bytes s
  pub said : Tells (Converting.answer_of (conversion_of s) (length out)) o.said
  pub output : o.output ≡ Converting.output_of (conversion_of s) out

-- ---- the rest

-- oddrafisk_is_canonical, on bytes s: 1 as RecordBatch::is_canonical, else 0
pub record CanonicalPromise (mode : ControlMode) (s : List ℕ) (r : ℕ) : Type 0 where
  pub lent : Bytes s
  pub yes : Exactly (r ≡ 1) (Canonical mode s)
  pub no : Exactly (r ≡ 0) (Canonical mode s → ⊥)

-- the fields of a batch that times are told by; the others are 0
abbrev pub timed : TimestampType → (first max : ℤ) → Fields
timed t first max =
    record {
      base_offset = pos 0;
      partition_leader_epoch = pos 0;
      last_offset_delta = pos 0;
      first_timestamp = first;
      max_timestamp = max;
      producer_id = pos 0;
      producer_epoch = pos 0;
      base_sequence = pos 0;
      timestamp_type = t;
      transactional = false;
    }

-- a type that is neither 0 nor 1 has no times
abbrev pub time_for : (type first max delta : ℤ) → Option ℤ
time_for type first max delta = pick (is0or1 type) (record_time (timed (type_of type) first max) delta) none

abbrev pub time_said : Option ℤ → Outcome
time_said (some t) = record { number = 1; answer = t ∷ [] }
time_said none = record { number = 0; answer = pos 0 ∷ [] }

-- oddrafisk_record_time: as RecordBatch::record_time
abbrev pub RecordTimePromise : (type first max delta : ℤ) → Outcome → Type 0
RecordTimePromise type first max delta o = o ≡ time_said (time_for type first max delta)

-- oddrafisk_crc32c, on bytes s
abbrev pub Crc32cPromise : List ℕ → ℕ → Type 0
Crc32cPromise s r = Checksum.Crc32cPromise s r

-- ---- the version

-- a version as one number, three digits for each of the last two parts: 1.2.3 is 1002003
abbrev pub numbered : (major minor patch : ℕ) → ℕ
numbered major minor patch = major * 1000000 + minor * 1000 + patch

-- this library's version, 0.4.0
abbrev pub version : ℕ
version = numbered 0 4 0

-- oddrafisk_version
abbrev pub VersionPromise : ℕ → Type 0
VersionPromise r = r ≡ version

-- Demand 3. The user's words, sentence by sentence, each followed by its statement. What proves each stands in proofs/
-- under the statement's name in small letters: `stands : Stands`.
--
-- The words that are used: `judge` (crates/opening/specs/Judgement.antt) is what document 01, as C-16 and C-24 have it,
-- answers where rows are enough, which is demand 2's answer (Demand2.antt says it by Kafka's format alone). Each
-- statement of a function begins with the mode, by which a control batch is read: none in bare mode, and in keyed mode
-- one whose marker is the key of a record; that of the writer has it in what is handed to it (`Request`). `ReadPromise`
-- (Promises.antt) is what `RecordBatch::read` promises on some bytes and some tables: its result, and both tables at
-- exit. A result says document 01's number and the values named with it (`view_read`, Answers.antt). A longer beginning
-- is `s ++ after`.
--
-- Of the first three sentences each is a statement of a judging function, and is then claimed for `judge`, the public
-- reader's, and for every way of reading control batches, every place of the batch's first byte and every row of its
-- first header. (Where a number names the answer, the way is one that refuses by none but `Standing`: `Within`,
-- Statements.antt.) The last sentence is of the public reader and the public writer.
use Rattle.std.specs.Prelude.{Result, Ok, Err, ℕ, ◌+◌, ◌/◌, ◌<◌, ◌≤◌, ◌≡◌, false, ◌⊎◌, List, ◌++◌, pos, length, take}
use Rattle.numbers.specs.Exactly.{Exactly}
use Rattle.primitives.specs.Stands.{Encoding}
use Rattle.records.specs.Format.{Record}
use Rattle.records.specs.Judgement.{RecordSpans}
use Rattle.records.specs.Rows.{Tables}
use Rattle.writing.specs.Promises.{WriteOutcome}
use Rattle.layout.specs.declared.ControlMode.{ControlMode}
use Rattle.layout.specs.Table.{table}
use Rattle.layout.specs.Batch.{Content, Batch}
use Rattle.layout.specs.Format.{BatchBytes}
use Rattle.opening.specs.Judgement.{more, refused, accepted, Accepted, Judgement, number_in, Control, judge_with, judge}
use Rattle.batches.specs.declared.BatchFound.{BatchFound}
use Rattle.opening.specs.declared.OpenError.{OpenError}
use Rattle.batches.specs.declared.ReadError.{ReadError}
use Rattle.batches.specs.Placed.{shown_content}
use Rattle.batches.specs.Answers.{view_fields, view_check, view_read, records_in, headers_of, accepted_as, answer_with_room, rooms_of, has_room, stored}
use Rattle.batches.specs.Promises.{CheckPromise, ReadOutcome, ReadBy, ReadPromise}
use Rattle.batches.specs.Statements.{Within}
use Rattle.batches.specs.Request.{Request}
use Rattle.batches.specs.Rewriting.{Writes, Asks}
use Rattle.batches.specs.Demand2.{spans_of, Enough, DemandTwo}

abbrev Judging : Type 0
Judging = List ℕ → Judgement

-- what is promised of reading, on some bytes and some tables
abbrev Reading : Type 1
Reading = List ℕ → Tables → ReadOutcome → Type 0

abbrev judging_with : Control → ℕ → ℕ → Judging
judging_with way at first s = judge_with way s at first

abbrev reading_with : Control → ℕ → ℕ → Reading
reading_with way at first s = ReadBy (judge_with way s at first)

abbrev number : ReadOutcome → ℕ
number o = (view_read o.result).number

-- tables at least as large
abbrev pub AtLeast : Tables → Tables → Type 0
AtLeast t t' = (length t.records ≤ length t'.records) × (length t.headers ≤ length t'.headers)

-- the rows of what is accepted in the tables, and all else as it was
abbrev pub stored_by : Judgement → Tables → Tables
stored_by (more n) t = t
stored_by (refused n) t = t
stored_by (accepted b) t = stored b.content b.first_header t

-- ---- "A judgement stands. If the reader, lent a beginning of some bytes and tables of some size, answers anything but
-- "more bytes" or "no room", every longer beginning with tables at least as large gets that same answer, and it is
-- demand 2's."

-- o is the outcome on the shorter beginning s, o' that on the longer one: the result is the same, it is what is due
-- where rows are enough, and both tables get the same rows.
pub record Same (j : Judgement) (t t' : Tables) (o o' : ReadOutcome) : Type 0 where
  pub result : o'.result ≡ o.result
  pub due : view_read o.result ≡ answer_with_room j
  pub tables : o.tables ≡ stored_by j t
  pub tables' : o'.tables ≡ stored_by j t'

abbrev StandsBy : Judging → Reading → Type 0
StandsBy judging Reads =
    (s after : List ℕ) (t t' : Tables) (o o' : ReadOutcome) → Reads s t o → Reads (s ++ after) t' o' → AtLeast t t'
    → (number o ≡ 1 → ⊥) → (number o ≡ 14 → ⊥) → Same (judging s) t t' o o'

abbrev pub Stands : Type 0
Stands = (mode : ControlMode) → StandsBy (judge mode) (ReadPromise mode)

abbrev pub StandsWith : Type 0
StandsWith = (way : Control) (at first : ℕ) → StandsBy (judging_with way at first) (reading_with way at first)

-- And it is demand 2's, by the format alone: a batch stands there, or the first fault has that number (Demand2.antt).
abbrev pub StandsByFormat : Type 0
StandsByFormat =
    (mode : ControlMode) (s : List ℕ) (t : Tables) (o : ReadOutcome) → ReadPromise mode s t o → (number o ≡ 1 → ⊥) → (number o ≡ 14 → ⊥)
    → DemandTwo mode s t o

-- The same of the judgement itself: what is not "more bytes" is not changed by any byte that follows.
abbrev JudgeStandsBy : Judging → Type 0
JudgeStandsBy judging = (s after : List ℕ) → ((n : ℕ) → judging s ≡ more n → ⊥) → judging (s ++ after) ≡ judging s

abbrev pub JudgeStands : Type 0
JudgeStands = (mode : ControlMode) → JudgeStandsBy (judge mode)

abbrev pub JudgeStandsWith : Type 0
JudgeStandsWith = (way : Control) (at first : ℕ) → JudgeStandsBy (judging_with way at first)

-- And of the check, which is lent no tables.
abbrev pub CheckStands : Type 0
CheckStands =
    (mode : ControlMode) (s after : List ℕ) (r r' : Result BatchFound OpenError) → CheckPromise mode s r → CheckPromise mode (s ++ after) r'
    → ((view_check r).number ≡ 1 → ⊥) → r' ≡ r

-- "No room" stands too where the tables have as many rows.
abbrev NoRoomStandsBy : Reading → Type 0
NoRoomStandsBy Reads =
    (s after : List ℕ) (t t' : Tables) (o o' : ReadOutcome) → Reads s t o → Reads (s ++ after) t' o'
    → rooms_of t' ≡ rooms_of t → number o ≡ 14 → o'.result ≡ o.result

abbrev pub NoRoomStands : Type 0
NoRoomStands = (mode : ControlMode) → NoRoomStandsBy (ReadPromise mode)

abbrev pub NoRoomStandsWith : Type 0
NoRoomStandsWith = (way : Control) (at first : ℕ) → NoRoomStandsBy (reading_with way at first)

-- Document 01: "Numbers 2 to 13 never depend on room. Every refusal changes no table"; 41 is counted among them (C-24).
-- An answer other than 0 and 14 is the same for every pair of tables, smaller ones too, and leaves them as they are.
abbrev RoomFreeBy : Reading → Type 0
RoomFreeBy Reads =
    (s : List ℕ) (t t' : Tables) (o o' : ReadOutcome) → Reads s t o → Reads s t' o'
    → (number o ≡ 0 → ⊥) → (number o ≡ 14 → ⊥) → (o'.result ≡ o.result) × (o.tables ≡ t) × (o'.tables ≡ t')

abbrev pub RoomFree : Type 0
RoomFree = (mode : ControlMode) → RoomFreeBy (ReadPromise mode)

abbrev pub RoomFreeWith : Type 0
RoomFreeWith = (way : Control) (at first : ℕ) → RoomFreeBy (reading_with way at first)

-- ---- ""More bytes" comes only where document 01's lengths say so"

-- Document 01, Reader's numbers, 1: fewer than 12 bytes; or batchLength at least 9 and fewer than 17; or batchLength at
-- least 9, magic 2 and fewer than 12 + batchLength. It names 12, 17 or 12 + batchLength.
pub data Lacks (s : List ℕ) (at : ℕ) : ℕ → Type 0 where
  length_lacks : length s < at + 12 → Lacks s at 12
  magic_lacks : {n : ℕ} → at + 12 ≤ length s → number_in table.batch_length s at ≡ pos n → 9 ≤ n → length s < at + 17 → Lacks s at 17
  batch_lacks : {n : ℕ} → at + 17 ≤ length s → number_in table.batch_length s at ≡ pos n → 9 ≤ n → number_in table.magic s at ≡ pos 2
      → length s < at + (12 + n) → Lacks s at (12 + n)

abbrev pub MoreBytes : Type 0
MoreBytes =
    (mode : ControlMode) (s : List ℕ) (t : Tables) (o : ReadOutcome) (n : ℕ) → ReadPromise mode s t o
    → Exactly (o.result ≡ Err (ReadError.MoreBytes n)) (Lacks s 0 n)

abbrev pub MoreBytesWith : Type 0
MoreBytesWith =
    (way : Control) → Within way → (at first : ℕ) (s : List ℕ) (t : Tables) (o : ReadOutcome) (n : ℕ) → reading_with way at first s t o
    → Exactly (o.result ≡ Err (ReadError.MoreBytes n)) (Lacks s at n)

-- ---- ""no room" only where demand 2 accepts and a table is short, naming the rows needed."

abbrev pub NoRoom : Type 0
NoRoom =
    (mode : ControlMode) (s : List ℕ) (t : Tables) (o : ReadOutcome) (n m : ℕ) → ReadPromise mode s t o
    → Exactly (o.result ≡ Err (ReadError.NoRoom n m))
    ((b : Accepted) × (judge mode s ≡ accepted b) × (records_in b.content ≡ n) × (headers_of b.content ≡ m)
    × ((length t.records / 8 < n) ⊎ (length t.headers / 4 < m)))

-- The same by the format alone: a batch stands there, and a table is short of its rows.
abbrev pub NoRoomByFormat : Type 0
NoRoomByFormat =
    (mode : ControlMode) (s : List ℕ) (t : Tables) (o : ReadOutcome) (n m : ℕ) → ReadPromise mode s t o
    → Exactly (o.result ≡ Err (ReadError.NoRoom n m))
    ((b : Batch Record) × (q : ℕ) × (e : Encoding (BatchBytes mode false) s 0 q b) × (records_in (spans_of e.encodes) ≡ n)
    × (headers_of (spans_of e.encodes) ≡ m) × ((length t.records / 8 < n) ⊎ (length t.headers / 4 < m)))

abbrev NoRoomBy : Judging → Type 0
NoRoomBy judging =
    (s : List ℕ) (t : Tables) (o : ReadOutcome) (n m : ℕ) → ReadBy (judging s) t o
    → Exactly (o.result ≡ Err (ReadError.NoRoom n m))
    ((b : Accepted) × (judging s ≡ accepted b) × (records_in b.content ≡ n) × (headers_of b.content ≡ m)
    × (has_room b.content b.first_header (rooms_of t) ≡ false))

abbrev pub NoRoomWith : Type 0
NoRoomWith = (way : Control) → Within way → (at first : ℕ) → NoRoomBy (judging_with way at first)

-- ---- "Each batch the writer accepts reads back, rows enough being lent, from its bytes with anything after them as the
-- same batch."

-- What is read from the bytes s: the fields that were handed in, as many bytes as were written, and records (or a
-- marker) that show in s what those asked for show in the source: equal deltas, nulls and bytes. Their rows stand in
-- the tables.
pub record SameBatch (q : Request) (c : Content RecordSpans) (n : ℕ) (s : List ℕ) (t : Tables) (o : ReadOutcome) : Type 0 where
  pub read : Accepted
  pub answered : view_read o.result ≡ accepted_as read
  pub stores : o.tables ≡ stored read.content 0 t
  pub fields : read.fields ≡ view_fields q.batch
  pub content : shown_content s read.content ≡ shown_content q.source c
  pub consumed : read.consumed ≡ n

-- q is what is handed to the writer, o its outcome on an output, o' the reader's on the bytes written and any after
-- them.
abbrev pub ReadsBack : Type 0
ReadsBack =
    (q : Request) (c : Content RecordSpans) (out : List ℕ) (o : WriteOutcome) (n : ℕ) (after : List ℕ) (t : Tables) (o' : ReadOutcome)
    → Writes q out o → o.result ≡ Ok n → Asks q c → ReadPromise q.mode (take n o.output ++ after) t o' → Enough c t
    → SameBatch q c n (take n o.output ++ after) t o'

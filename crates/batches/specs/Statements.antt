-- The laws of batches, each in words and then as a statement. What proves each stands in proofs/ under the statement's
-- name in small letters: `sound : Sound`. The statements of demand 3 are in Demand3.antt.
use Rattle.std.specs.Prelude.{Result, ℕ, suc, ◌+◌, ◌<◌, ◌≤◌, ◌≡◌, Bool, true, false, ◌⊎◌, List, [], ◌++◌, map, ℤ, pos, negsuc, length, take, drop}
use Rattle.numbers.specs.Bytes.{Bytes}
use Rattle.numbers.specs.Exactly.{Exactly}
use Rattle.primitives.specs.Step.{no}
use Rattle.primitives.specs.Stands.{Stands, Encoding}
use Rattle.crc32c.specs.Crc.{crc32c}
use Rattle.records.specs.Format.{Record}
use Rattle.records.specs.Judgement.{RecordSpans}
use Rattle.records.specs.Rows.{Tables}
use Rattle.records.specs.Statements.{sizes, total, moved_record}
use Rattle.layout.specs.declared.ControlMode.{ControlMode}
use Rattle.layout.specs.Table.{table}
use Rattle.layout.specs.Batch.{Fields, Marker, Content, control, records, Batch}
use Rattle.layout.specs.Format.{Grammar, bare_grammar, grammar_of, ContentBytes, BatchBytesWith, BatchBytes}
use Rattle.opening.specs.Judgement.{more, refused, accepted, Accepted, Judgement, unsigned_in, number_in, attributes_in, Control, judge_with, bare_marker_at, former_way_of, way_of, judge_at, judge}
use Rattle.opening.specs.Statements.{Placeless}
use Rattle.markers.specs.Forms.{Reads}
use Rattle.batches.specs.declared.BatchFound.{BatchFound}
use Rattle.opening.specs.declared.OpenError.{OpenError}
use Rattle.batches.specs.Placed.{placed_batch, shown_batch}
use Rattle.batches.specs.Answers.{Standing, view_check, view_read}
use Rattle.batches.specs.Promises.{CheckPromise, ReadOutcome, ReadPromise}

-- ---- the judgement accepts exactly the format's batches

-- What is accepted is a batch by the format, and stands there: its fields, and what its spans show, are encoded by as
-- many bytes as are consumed, and each start is the place just after its own length.
abbrev pub Sound : Type 0
Sound =
    (mode : ControlMode) (s : List ℕ) (at first : ℕ) (b : Accepted) → Bytes s → judge_at mode s at first ≡ accepted b
    → (e : Encoding (BatchBytes mode false) s at (at + b.consumed) (shown_batch s b)) × (b ≡ placed_batch at first e.encodes)

-- A batch that stands at any place of any list, with anything after it, is accepted, with its values and its length.
abbrev pub Complete : Type 0
Complete =
    (mode : ControlMode) (strict : Bool) (s : List ℕ) (at first q : ℕ) (bs : List ℕ) (b : Batch Record) → Stands s at q bs
    → (g : BatchBytes mode strict bs b) → (judge_at mode s at first ≡ accepted (placed_batch at first g)) × (shown_batch s (placed_batch at first g) ≡ b)

-- Both are so for every grammar of a control batch and every way that reads it, and nothing else.
abbrev pub SoundWith : Type 1
SoundWith =
    (grammar : Grammar) (way : Control) → Reads grammar way → (s : List ℕ) (at first : ℕ) (b : Accepted) → Bytes s
    → judge_with way s at first ≡ accepted b
    → (e : Encoding (BatchBytesWith grammar false) s at (at + b.consumed) (shown_batch s b)) × (b ≡ placed_batch at first e.encodes)

abbrev pub CompleteWith : Type 1
CompleteWith =
    (grammar : Grammar) (way : Control) → Reads grammar way → (strict : Bool) (s : List ℕ) (at first q : ℕ) (bs : List ℕ) (b : Batch Record)
    → Stands s at q bs → (g : BatchBytesWith grammar strict bs b)
    → (judge_with way s at first ≡ accepted (placed_batch at first g)) × (shown_batch s (placed_batch at first g) ≡ b)

-- Two batches with the same encoding are equal, and no encoding is a proper beginning of another.
abbrev pub Unambiguous : Type 0
Unambiguous =
    (mode : ControlMode) (strict strict' : Bool) (bs rest : List ℕ) (a b : Batch Record) → BatchBytes mode strict bs a
    → BatchBytes mode strict' (bs ++ rest) b → (rest ≡ []) × (a ≡ b)

-- After a refusal that stands no list that begins with these bytes begins with a batch.
abbrev pub Never : Type 0
Never =
    (mode : ControlMode) (strict : Bool) (s after bs rest : List ℕ) (b : Batch Record) (t : Tables) (o : ReadOutcome) → ReadPromise mode s t o
    → Standing (view_read o.result).number → s ++ after ≡ bs ++ rest → BatchBytes mode strict bs b → ⊥

-- ---- numbers

-- a way of reading control batches that refuses by none but numbers that stand
abbrev pub Within : Control → Type 0
Within way = (s : List ℕ) (p n : ℕ) → way s p ≡ no n → Standing n

-- The judgement refuses by none but numbers that stand.
abbrev pub Refusals : Type 0
Refusals = (way : Control) → Within way → (s : List ℕ) (at first n : ℕ) → judge_with way s at first ≡ refused n → Standing n

-- So does either mode's.
abbrev pub WaysWithin : Type 0
WaysWithin = (mode : ControlMode) → Within (way_of mode)

-- a signed number below n
abbrev pub Below : ℤ → ℕ → Type 0
Below (pos m) n = m < n
Below (negsuc k) n = Unit {0}

module _ (s : List ℕ) where
  -- batchLength is n, at least 9, and magic is 2
  pub record Framed (n : ℕ) : Type 0 where
    pub there : 17 ≤ length s
    pub length_is : number_in table.batch_length s 0 ≡ pos n
    pub length_enough : 9 ≤ n
    pub magic_is : number_in table.magic s 0 ≡ pos 2

  -- and all bytes of the batch are there
  pub record Whole (n : ℕ) : Type 0 where
    pub framed : Framed n
    pub all_there : 12 + n ≤ length s

  -- the checksum of places 21 to the batch's end
  abbrev pub sum : ℕ → ℕ
  sum n = crc32c (drop 21 (take (12 + n) s))

  -- and the checksum is right
  pub record Checked (n : ℕ) : Type 0 where
    pub whole : Whole n
    pub crc_is : unsigned_in table.crc s 0 ≡ sum n

  abbrev pub codec : ℕ
  codec = (attributes_in s 0).codec

  -- the count is n, or -1 and n is 0
  abbrev pub CountIs : ℕ → Type 0
  CountIs n = (number_in table.count s 0 ≡ pos n) ⊎ ((number_in table.count s 0 ≡ negsuc 0) × (n ≡ 0))

  -- the count is below -1
  abbrev pub CountBelow : Type 0
  CountBelow = (k : ℕ) × (number_in table.count s 0 ≡ negsuc (suc k))

-- document 01, Reader's numbers, 2 to 7, over the table of fixed fields
pub data FrontWrong (s : List ℕ) : ℕ → Type 0 where
  -- batchLength below 9, negatives too
  short : 12 ≤ length s → Below (number_in table.batch_length s 0) 9 → FrontWrong s 2
  -- magic not 2
  magic : 17 ≤ length s → (Below (number_in table.batch_length s 0) 9 → ⊥) → (number_in table.magic s 0 ≡ pos 2 → ⊥) → FrontWrong s 3
  -- checksum differs
  checksum : {n : ℕ} → Whole s n → (unsigned_in table.crc s 0 ≡ sum s n → ⊥) → FrontWrong s 4
  -- codec 5, 6 or 7
  unknown : {n : ℕ} → Checked s n → 11 ≤ n → 5 ≤ codec s → FrontWrong s 5
  -- codec 1 to 4
  compressed : {n m : ℕ} → Checked s n → 49 ≤ n → 1 ≤ codec s → codec s ≤ 4 → CountIs s m → FrontWrong s 6
  -- count below -1
  low : {n : ℕ} → Checked s n → 49 ≤ n → codec s ≤ 4 → CountBelow s → FrontWrong s 7
  -- control batch with a count other than 1
  control_count : {n m : ℕ} → Checked s n → 49 ≤ n → codec s ≡ 0 → (attributes_in s 0).control ≡ true → CountIs s m → (m ≡ 1 → ⊥)
      → FrontWrong s 7

-- Numbers 2 to 7 are given exactly where document 01 says.
abbrev pub Numbers : Type 0
Numbers = (mode : ControlMode) (s : List ℕ) (n : ℕ) → n ≤ 7 → Exactly (judge mode s ≡ refused n) (FrontWrong s n)

-- ---- the modes

-- Where the control bit is not set both modes judge alike; and so they do where the answer is one of 1 to 7.
abbrev pub ModesAgree : Type 0
ModesAgree =
    (mode mode' : ControlMode) (s : List ℕ) (at first : ℕ) → (attributes_in s at).control ≡ false
    → judge_at mode s at first ≡ judge_at mode' s at first

abbrev pub EarlyAgree : Type 0
EarlyAgree =
    (mode mode' : ControlMode) (s : List ℕ) (at first n : ℕ)
    → (judge_at mode s at first ≡ more n → judge_at mode' s at first ≡ more n)
    × (n < 8 → judge_at mode s at first ≡ refused n → judge_at mode' s at first ≡ refused n)

-- No bytes are a control batch in both forms, the one that is withdrawn and the keyed one.
abbrev pub FormsApart : Type 0
FormsApart =
    (strict strict' : Bool) (bs : List ℕ) (x x' : Fields) (m m' : Marker)
    → BatchBytesWith bare_grammar strict bs (record { fields = x; content = control m })
    → BatchBytes ControlMode.Keyed strict' bs (record { fields = x'; content = control m' }) → ⊥

-- ---- what is withdrawn

-- the judgement by the old rules, those of C-16
abbrev pub former_at : ControlMode → List ℕ → ℕ → ℕ → Judgement
former_at mode s at first = judge_with (former_way_of mode) s at first

-- by the old rules of bare mode, which are the Rust's, a control batch is accepted there
pub record FormerMarker (s : List ℕ) (at first : ℕ) : Type 0 where
  pub batch : Accepted
  pub marker : Marker
  pub judged : judge_with bare_marker_at s at first ≡ accepted batch
  pub content : batch.content ≡ control marker

-- the same by the format: a batch in the form that is withdrawn stands there
pub record BareBatch (s : List ℕ) : Type 0 where
  pub fields : Fields
  pub marker : Marker
  pub end : ℕ
  pub stands : Encoding (BatchBytesWith bare_grammar false) s 0 end (record { fields = fields; content = control marker })

-- C-24: 41 is given, in either mode, exactly where a bare marker would have been accepted.
abbrev pub Withdrawn : Type 0
Withdrawn = (mode : ControlMode) (s : List ℕ) → Bytes s → Exactly (judge mode s ≡ refused 41) (BareBatch s)

-- The same at every place, by the old rules themselves.
abbrev pub WithdrawnAt : Type 0
WithdrawnAt =
    (mode : ControlMode) (s : List ℕ) (at first : ℕ) → Exactly (judge_at mode s at first ≡ refused 41) (FormerMarker s at first)

-- Everything else is answered as before.
abbrev pub ElseAsBefore : Type 0
ElseAsBefore =
    (mode : ControlMode) (s : List ℕ) (at first : ℕ) → (judge_at mode s at first ≡ refused 41 → ⊥)
    → judge_at mode s at first ≡ former_at mode s at first

-- ---- tables, and the check

-- Document 01: every refusal changes no table. Whatever is answered but 0, both tables are at exit what they were.
abbrev pub Untouched : Type 0
Untouched =
    (mode : ControlMode) (s : List ℕ) (t : Tables) (o : ReadOutcome) → ReadPromise mode s t o → ((view_read o.result).number ≡ 0 → ⊥) → o.tables ≡ t

-- The check answers what the reader answers, unless that is 14.
abbrev pub CheckAgrees : Type 0
CheckAgrees =
    (mode : ControlMode) (s : List ℕ) (r : Result BatchFound OpenError) (t : Tables) (o : ReadOutcome) → CheckPromise mode s r → ReadPromise mode s t o
    → ((view_read o.result).number ≡ 14 → ⊥) → view_check r ≡ view_read o.result

-- ---- sizes

-- the sizes of the records add up to batchLength - 49, and so does that of a marker's one
abbrev pub SizesOf : (mode : ControlMode) (strict : Bool) (bs : List ℕ) (c : Content Record) → ContentBytes (grammar_of mode) strict bs c → ℕ → Type 0
SizesOf mode strict bs (control m) g n = n ≡ 49 + length bs
SizesOf mode strict bs (records rs) g n = n ≡ 49 + total (sizes g)

-- In an accepted batch the sizes of the records as they stand, the one of a marker too, add up to batchLength - 49.
abbrev pub Sizes : Type 0
Sizes =
    (mode : ControlMode) (s : List ℕ) (at first : ℕ) (b : Accepted) → Bytes s → judge_at mode s at first ≡ accepted b
    → (e : Encoding (BatchBytes mode false) s at (at + b.consumed) (shown_batch s b)) × (n : ℕ)
    × (number_in table.batch_length s at ≡ pos n) × (b.consumed ≡ 12 + n)
    × SizesOf mode false e.encodes.body (shown_batch s b).content e.encodes.holds n

-- ---- the place, and the first header row

abbrev pub moved_content : ℕ → Content RecordSpans → Content RecordSpans
moved_content k (control m) = control m
moved_content k (records rs) = records (map (moved_record k) rs)

abbrev pub moved_accepted : ℕ → Accepted → Accepted
moved_accepted k b = record { fields = b.fields; content = moved_content k b.content; first_header = b.first_header; consumed = b.consumed }

abbrev pub moved_judgement : (Accepted → Accepted) → Judgement → Judgement
moved_judgement f (more n) = more n
moved_judgement f (refused n) = refused n
moved_judgement f (accepted b) = accepted (f b)

-- A place moves the starts, and nothing else.
abbrev pub PlaceShifted : Type 0
PlaceShifted =
    (way : Control) → Placeless way → (front s : List ℕ) (at first : ℕ)
    → judge_with way (front ++ s) (length front + at) first ≡ moved_judgement (moved_accepted (length front)) (judge_with way s at first)

-- A first header row is that of the rows, and nothing else.
abbrev pub FirstHeaderShifted : Type 0
FirstHeaderShifted =
    (way : Control) (s : List ℕ) (at first first' : ℕ)
    → judge_with way s at first'
    ≡ moved_judgement (λ b. record { fields = b.fields; content = b.content; first_header = first'; consumed = b.consumed })
    (judge_with way s at first)

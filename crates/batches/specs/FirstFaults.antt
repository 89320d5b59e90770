-- The reader's numbers that stand, 2 to 13 and 41, each given exactly where the format alone says, in words and then as
-- a statement. What proves each stands in proofs/ under the statement's name in small letters: `batch-faults :
-- BatchFaults`.
use Rattle.std.specs.Prelude.{ℕ, ◌+◌, ◌≤◌, ◌≡◌, true, false, List, take}
use Rattle.numbers.specs.Bytes.{Bytes}
use Rattle.numbers.specs.Exactly.{Exactly}
use Rattle.primitives.specs.Stands.{Encoding}
use Rattle.primitives.specs.Faults.{Wrong}
use Rattle.records.specs.Format.{Record, RecordBytes}
use Rattle.layout.specs.declared.ControlMode.{ControlMode}
use Rattle.opening.specs.Judgement.{refused, attributes_in, Control, judge_with, judge}
use Rattle.opening.specs.Faults.{NoMarker, wrong_of}
use Rattle.opening.specs.Statements.{FaultsOf}
use Rattle.batches.specs.Statements.{Checked, codec, CountIs, FrontWrong}
use Rattle.batches.specs.Faults.{BatchWrong}

-- A batch whose control batches are refused by the first fault, and wherever there is one, is itself refused by a
-- number from 8 on exactly where that is its first fault.
abbrev pub BatchFaultsWith : Type 1
BatchFaultsWith =
    (way : Control) (W : Wrong) → FaultsOf way W → (s : List ℕ) (first n : ℕ) → Bytes s → 8 ≤ n
    → Exactly (judge_with way s 0 first ≡ refused n) (BatchWrong W s n)

-- So is every batch, in either mode.
abbrev pub BatchFaults : Type 0
BatchFaults =
    (mode : ControlMode) (s : List ℕ) (n : ℕ) → Bytes s → 8 ≤ n → Exactly (judge mode s ≡ refused n) (BatchWrong (wrong_of mode) s n)

-- the first fault of a batch, whichever it is
pub data FirstFault (mode : ControlMode) (s : List ℕ) : ℕ → Type 0 where
  front : {n : ℕ} → FrontWrong s n → FirstFault mode s n
  after : {n : ℕ} → BatchWrong (wrong_of mode) s n → FirstFault mode s n

-- A batch is refused by a number exactly where that is its first fault.
abbrev pub JudgedFaults : Type 0
JudgedFaults = (mode : ControlMode) (s : List ℕ) (n : ℕ) → Bytes s → Exactly (judge mode s ≡ refused n) (FirstFault mode s n)

-- ---- 12 in keyed mode

-- A control batch of one record, right in all else up to the batch's end, whose key is null, shorter than four bytes,
-- or of an unknown version or type.
pub record UnknownKey (s : List ℕ) : Type 0 where
  pub batch_length : ℕ
  pub checked : Checked s batch_length
  pub fields_there : 49 ≤ batch_length
  pub uncompressed : codec s ≡ 0
  pub control : (attributes_in s 0).control ≡ true
  pub counted : CountIs s 1
  pub shows : Record
  pub stands : Encoding (RecordBytes false) (take (12 + batch_length) s) 61 (12 + batch_length) shows
  pub unknown : NoMarker shows.key

-- In keyed mode 12 is given exactly there.
abbrev pub KeyedUnknown : Type 0
KeyedUnknown = (s : List ℕ) → Bytes s → Exactly (judge ControlMode.Keyed s ≡ refused 12) (UnknownKey s)

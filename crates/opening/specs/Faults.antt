-- The first fault of a batch's fixed part after its checksum, and of a control batch's marker in either form, said by
-- the format alone: which of document 01's numbers it has, in a list that ends where the batch ends.
use Rattle.std.specs.Prelude.{ℕ, ◌+◌, ◌<◌, ◌≤◌, ◌≡◌, false, ◌⊎◌, List, ◌++◌, ℤ, pos, length}
use Rattle.std.proofs.Math.Option.{Option, none, some}
use Rattle.numbers.specs.Format.{Integer}
use Rattle.primitives.specs.Stands.{Encoding}
use Rattle.primitives.specs.Faults.{Wrong, IntegerWrong}
use Rattle.records.specs.Format.{Record, RecordBytes}
use Rattle.records.specs.Faults.{RecordWrong}
use Rattle.layout.specs.declared.ControlMode.{ControlMode}
use Rattle.layout.specs.Batch.{Marker}
use Rattle.layout.specs.Format.{marker_type, MarkerBytes}
use Rattle.opening.specs.Judgement.{attributes_in}

-- ---- the fixed part, of a batch that starts at a place

-- document 01, Reader's numbers, 8: the list ends before the attributes do; or before the fixed fields do, the codec
-- being known
pub data FixedWrong (s : List ℕ) (at : ℕ) : ℕ → Type 0 where
  past : (length s < at + 23) ⊎ ((length s < at + 61) × ((attributes_in s at).codec ≤ 4)) → FixedWrong s at 8

-- ---- the bare marker: version and type, each an integer of 2 bytes

-- document 01, Reader's numbers, 8, 12 and 13: the type, and then bytes after it
pub data TypeWrong (s : List ℕ) (p : ℕ) : ℕ → Type 0 where
  past : {n : ℕ} → IntegerWrong 2 s p n → TypeWrong s p n
  unknown : {t : ℤ} {q : ℕ} → Encoding (Integer 2) s p q t → ((m : Marker) → t ≡ pos (marker_type m) → ⊥) → TypeWrong s p 12
  left : {t : ℤ} {q : ℕ} (m : Marker) → Encoding (Integer 2) s p q t → t ≡ pos (marker_type m) → q < length s → TypeWrong s p 13

-- document 01, Reader's numbers, 8 and 12: the version is judged before the type is read
pub data BareMarkerWrong (s : List ℕ) (p : ℕ) : ℕ → Type 0 where
  past : {n : ℕ} → IntegerWrong 2 s p n → BareMarkerWrong s p n
  unknown : {v : ℤ} {q : ℕ} → Encoding (Integer 2) s p q v → (v ≡ pos 0 → ⊥) → BareMarkerWrong s p 12
  later : {q n : ℕ} → Encoding (Integer 2) s p q (pos 0) → TypeWrong s q n → BareMarkerWrong s p n

-- ---- the keyed marker: one record, whose key begins with version and type

-- C-16, 12: a key that is null, shorter than four bytes, or of an unknown version or type
pub data NoMarker : Option (List ℕ) → Type 0 where
  null : NoMarker none
  short : {key : List ℕ} → length key < 4 → NoMarker (some key)
  unknown_version : {version : List ℕ} {v : ℤ} (rest : List ℕ) → Integer 2 version v → (v ≡ pos 0 → ⊥) → NoMarker (some (version ++ rest))
  unknown_type : {version kind : List ℕ} {v t : ℤ} (rest : List ℕ) → Integer 2 version v → Integer 2 kind t
      → ((m : Marker) → t ≡ pos (marker_type m) → ⊥) → NoMarker (some (version ++ (kind ++ rest)))

-- C-16: the record's own fault; then bytes after it; and then, all else being right, its key
pub data KeyedMarkerWrong (s : List ℕ) (p : ℕ) : ℕ → Type 0 where
  one : {n : ℕ} → RecordWrong s p n → KeyedMarkerWrong s p n
  left : {r : Record} {q : ℕ} → Encoding (RecordBytes false) s p q r → q < length s → KeyedMarkerWrong s p 13
  key : {r : Record} → Encoding (RecordBytes false) s p (length s) r → NoMarker r.key → KeyedMarkerWrong s p 12

-- ---- by the mode

-- by the old rules
unfoldable pub former_wrong_of : ControlMode → Wrong
former_wrong_of ControlMode.Bare = BareMarkerWrong
former_wrong_of ControlMode.Keyed = KeyedMarkerWrong

-- a marker that stands alone, up to the end of the list
abbrev pub BareStands : List ℕ → ℕ → Type 0
BareStands s p = (m : Marker) × Encoding MarkerBytes s p (length s) m

-- C-24, 41: there is one; where there is none, a fault is what it was
pub data WithdrawnWrong (W : Wrong) (s : List ℕ) (p : ℕ) : ℕ → Type 0 where
  bare : BareStands s p → WithdrawnWrong W s p 41
  as_before : {n : ℕ} → (BareStands s p → ⊥) → W s p n → WithdrawnWrong W s p n

-- the marker's first fault
unfoldable pub wrong_of : ControlMode → Wrong
wrong_of mode = WithdrawnWrong (former_wrong_of mode)

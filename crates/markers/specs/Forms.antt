-- What is asked of the control batches of a mode: their grammar, the way in which they are read, and what is written.
use Rattle.std.specs.Prelude.{ℕ, ◌≤◌, ◌≡◌, Bool, true, false, ◌⊎◌, List, length}
use Rattle.std.proofs.Math.Option.{Option, none, some}
use Rattle.numbers.specs.Bytes.{Bytes}
use Rattle.numbers.specs.Exactly.{Exactly}
use Rattle.primitives.specs.Step.{ok, no}
use Rattle.primitives.specs.Stands.{Stands, Encoding}
use Rattle.records.specs.Written.{written_record}
use Rattle.layout.specs.declared.ControlMode.{ControlMode}
use Rattle.layout.specs.Batch.{Marker}
use Rattle.layout.specs.Format.{Grammar, bare_grammar, grammar_of, marker_record}
use Rattle.opening.specs.Judgement.{Control, bare_marker_at, way_of}
use Rattle.opening.specs.Faults.{wrong_of}
use Rattle.opening.specs.Statements.{Placeless, FaultsOf}
use Rattle.markers.specs.Markers.{written_marker}

-- What follows the fixed fields of a control batch that is written: a record whose key is the marker, with zero deltas,
-- no value and no headers.
unfoldable pub written_control : Marker → List ℕ
written_control m = written_record (marker_record (written_marker m))

-- how many bytes that are
abbrev pub control_size : ℕ
control_size = 11

-- C-24: in bare mode none is written.
unfoldable pub writes_of : ControlMode → Marker → Option (List ℕ)
writes_of ControlMode.Bare m = none
writes_of ControlMode.Keyed m = some (written_control m)

-- a way of reading control batches that reads a grammar, and nothing else
pub record Reads (grammar : Grammar) (way : Control) : Type 0 where
  -- what is read is of the grammar, and ends where the bytes end
  pub sound : (s : List ℕ) (p q : ℕ) (m : Marker) → Bytes s → way s p ≡ ok m q → Encoding (grammar false) s p q m × (q ≡ length s)
  -- what is of the grammar is read, where it ends with the bytes
  pub complete : (strict : Bool) (s : List ℕ) (p : ℕ) (bs : List ℕ) (m : Marker) → Stands s p (length s) bs → grammar strict bs m
      → way s p ≡ ok m (length s)

pub record Lawful (mode : ControlMode) : Type 0 where
  pub reads : Reads (grammar_of mode) (way_of mode)
  -- it refuses by none but the numbers 8 to 13, and 41
  pub late : (s : List ℕ) (p n : ℕ) → way_of mode s p ≡ no n → ((8 ≤ n) × (n ≤ 13)) ⊎ (n ≡ 41)
  -- and by the first fault, wherever there is one
  pub faults : FaultsOf (way_of mode) (wrong_of mode)
  -- the place is nothing but where it reads
  pub placeless : Placeless (way_of mode)
  -- by the strict grammar a marker has what is written of it, and nothing else
  pub strict : (bs : List ℕ) (m : Marker) → Exactly (grammar_of mode true bs m) (writes_of mode m ≡ some bs)
  -- and where it has any bytes, it is written, in none more
  pub shortest : (strict : Bool) (bs : List ℕ) (m : Marker) → grammar_of mode strict bs m
      → (writes_of mode m ≡ some (written_control m)) × (length (written_control m) ≤ length bs)

-- Both modes are lawful.
abbrev pub FormsLawful : Type 0
FormsLawful = (mode : ControlMode) → Lawful mode

-- The old rules read the form that is withdrawn, and nothing else.
abbrev pub BareReads : Type 0
BareReads = Reads bare_grammar bare_marker_at

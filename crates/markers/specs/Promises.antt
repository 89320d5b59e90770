-- What each public function promises of its result and of the output, for every input. Lent bytes are lent to be read:
-- no function here can change them.
use Rattle.std.specs.Prelude.{ℕ, ◌≡◌, Bool, true, List, ℤ, Result, length}
use Rattle.numbers.specs.Exactly.{Exactly}
use Rattle.numbers.specs.Promises.{PutOutcome, PutPromise}
use Rattle.primitives.specs.declared.Cursor.{Cursor}
use Rattle.primitives.specs.Answers.{view_read}
use Rattle.primitives.specs.Stands.{Encoding}
use Rattle.layout.specs.declared.ControlMode.{ControlMode}
use Rattle.layout.specs.Batch.{Marker}
use Rattle.layout.specs.Format.{grammar_of}
use Rattle.opening.specs.declared.BatchFault.{BatchFault}
use Rattle.opening.specs.Answers.{batch_number_of, view_made}
use Rattle.opening.specs.Judgement.{marker_of, bare_marker_at, way_of}
use Rattle.markers.specs.declared.ControlBatchRecord.{ControlBatchRecord}
use Rattle.markers.specs.Markers.{view_marker}
use Rattle.markers.specs.Forms.{written_control}

-- ControlBatchRecord::try_from a type, document 01, Reader's numbers, 12: its marker, wherever that ends
abbrev pub FromTypePromise : ℤ → Result ControlBatchRecord BatchFault → Type 0
FromTypePromise t r = (p : ℕ) → view_made view_marker p r ≡ marker_of t p

-- ControlBatchRecord::read, on bytes s and a cursor at a place: the marker, with nothing after it, or a number
abbrev pub ReadMarkerPromise : ControlMode → List ℕ → ℕ → Result (ControlBatchRecord × Cursor) BatchFault → Type 0
ReadMarkerPromise mode s at r = view_read batch_number_of view_marker r ≡ way_of mode s at

-- ControlBatchRecord::read_bare, the same by the old rules: version and type stand alone
abbrev pub ReadBarePromise : List ℕ → ℕ → Result (ControlBatchRecord × Cursor) BatchFault → Type 0
ReadBarePromise s at r = view_read batch_number_of view_marker r ≡ bare_marker_at s at

-- by the strict grammar a marker stands from a place up to the end of the bytes
abbrev pub StandsAlone : ControlMode → List ℕ → ℕ → Type 0
StandsAlone mode s at = (m : Marker) × Encoding (grammar_of mode true) s at (length s) m

-- ControlBatchRecord::stands
abbrev pub StandsPromise : ControlMode → List ℕ → ℕ → Bool → Type 0
StandsPromise mode s at r = Exactly (r ≡ true) (StandsAlone mode s at)

-- ControlBatchRecord::put, into an output from a place on
abbrev pub PutMarkerPromise : ControlBatchRecord → List ℕ → ℕ → PutOutcome → Type 0
PutMarkerPromise m out at o = PutPromise (written_control (view_marker m)) out at o

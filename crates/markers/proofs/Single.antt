-- Each promise admits a single answer: from what the answer says it can be made again. Assumes nothing.
use Prim.Native.Nat.{ℕ}
use mathlib.Core.Path.{◌≡◌, refl, ap}
use mathlib.Core.List.{List}
use lib.IntN.{ℤ}
use Rattle.std.proofs.Common.{Result, Ok, Err}
use Rattle.numbers.specs.Single.{Single}
use Rattle.numbers.proofs.Single.{single_view, single_put, single_exactly}
use Rattle.primitives.specs.declared.Cursor.{Cursor}
use Rattle.primitives.specs.Step.{Step, ok, no}
use Rattle.primitives.specs.Answers.{view_read}
use Rattle.primitives.proofs.Single.{single_read_by}
use Rattle.layout.specs.declared.ControlMode.{ControlMode}
use Rattle.layout.specs.Batch.{Marker, abort, commit}
use Rattle.opening.specs.declared.BatchFault.{BatchFault}
use Rattle.opening.specs.Answers.{batch_number_of, view_made}
use Rattle.opening.proofs.Single.{refusal, refusal_again}
use Rattle.markers.specs.declared.ControlBatchRecord.{ControlBatchRecord}
use Rattle.markers.specs.Markers.{view_marker}
use Rattle.markers.specs.Promises.{FromTypePromise, ReadMarkerPromise, ReadBarePromise, StandsAlone, StandsPromise, PutMarkerPromise}

abbrev pub marker : Marker → ControlBatchRecord
marker abort = ControlBatchRecord.Abort
marker commit = ControlBatchRecord.Commit

pub marker_again : (m : ControlBatchRecord) → marker (view_marker m) ≡ m
marker_again ControlBatchRecord.Abort = refl
marker_again ControlBatchRecord.Commit = refl

abbrev fault_in : ℕ → BatchFault
fault_in n = refusal BatchFault.BareMarker BatchFault.BareMarker (λ f. f) n

module _ (x : Step ℕ Marker) where
  single_marker : Single (λ (r : Result (ControlBatchRecord × Cursor) BatchFault). view_read batch_number_of view_marker r ≡ x)
  single_marker = single_read_by batch_number_of fault_in (refusal_again _ _ (λ f. f)) view_marker marker marker_again x

-- what is made of a type, where it ends at the first place
abbrev made : Step ℕ Marker → Result ControlBatchRecord BatchFault
made (ok m p) = Ok (marker m)
made (no n) = Err (fault_in n)

made_again : (r : Result ControlBatchRecord BatchFault) → made (view_made view_marker 0 r) ≡ r
made_again (Ok m) = ap Ok (marker_again m)
made_again (Err f) = ap Err (refusal_again _ _ (λ f. f) f)

pub single_from_type : (t : ℤ) → Single (FromTypePromise t)
single_from_type t r r' e e' = single_view (view_made view_marker 0) made made_again _ r r' (e 0) (e' 0)

pub single_read_marker : (mode : ControlMode) (s : List ℕ) (at : ℕ) → Single (ReadMarkerPromise mode s at)
single_read_marker mode s at = single_marker _

pub single_read_bare : (s : List ℕ) (at : ℕ) → Single (ReadBarePromise s at)
single_read_bare s at = single_marker _

pub single_stands : (mode : ControlMode) (s : List ℕ) (at : ℕ) → Single (StandsPromise mode s at)
single_stands mode s at = single_exactly (StandsAlone mode s at)

pub single_put_marker : (m : ControlBatchRecord) (out : List ℕ) (at : ℕ) → Single (PutMarkerPromise m out at)
single_put_marker m out at = single_put _ out at

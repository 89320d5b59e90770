-- The laws of markers, each in words and then as a statement. What proves each stands in proofs/ under the statement's
-- name in small letters: `marker_encodes : MarkerEncodes`.
use Rattle.std.specs.Prelude.{ℕ, ◌≡◌, List}
use Rattle.layout.specs.Batch.{Marker}
use Rattle.layout.specs.Format.{MarkerBytes}
use Rattle.markers.specs.Markers.{written_marker}

-- What is written of a marker is its encoding, and the only one.
abbrev pub MarkerEncodes : Type 0
MarkerEncodes = (m : Marker) → MarkerBytes (written_marker m) m

abbrev pub MarkerWritten : Type 0
MarkerWritten = (bs : List ℕ) (m : Marker) → MarkerBytes bs m → bs ≡ written_marker m

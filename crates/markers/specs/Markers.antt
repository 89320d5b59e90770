-- What a marker is written as, what the answers say, and what the place of a key shows.
use Rattle.std.specs.Prelude.{ℕ, ◌≡◌, List, ◌++◌, ℤ, pos, negsuc, nat_abs}
use Rattle.std.proofs.Math.Option.{Option, none, some}
use Rattle.numbers.specs.Format.{big_endian}
use Rattle.primitives.specs.Reading.{Span}
use Rattle.records.specs.declared.Place.{Place}
use Rattle.records.specs.Inside.{NullableInside}
use Rattle.layout.specs.Batch.{Marker, abort, commit}
use Rattle.layout.specs.Format.{marker_type}
use Rattle.markers.specs.declared.ControlBatchRecord.{ControlBatchRecord}

-- Kafka, message format, control batch: version 0, then the type
unfoldable pub written_marker : Marker → List ℕ
written_marker m = big_endian 2 0 ++ big_endian 2 (marker_type m)

abbrev pub view_marker : ControlBatchRecord → Marker
view_marker ControlBatchRecord.Abort = abort
view_marker ControlBatchRecord.Commit = commit

-- what a place of a row shows, from its start and its length: nothing where the length is negative
abbrev pub shown_from : ℤ → ℤ → Option Span
shown_from start (pos n) = some (record { start = nat_abs start; len = n })
shown_from start (negsuc k) = none

abbrev pub key_of : Place → Option Span
key_of x = shown_from x.start x.len

-- where a key lies: its place starts in the list, and what it shows lies there
pub record KeyPlace (s : List ℕ) (x : Place) : Type 0 where
  pub start : ℕ
  pub starts : x.start ≡ pos start
  pub within : NullableInside s (key_of x)

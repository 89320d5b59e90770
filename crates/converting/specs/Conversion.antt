-- What the conversion of a stored batch gives (C-24). A control batch in the form that is withdrawn, accepted by the
-- old rules, becomes the keyed form; any other is read in keyed mode and copied.
use Rattle.std.specs.Prelude.{ℕ, ◌+◌, ◌-◌, List, ◌++◌, length, take, drop}
use Rattle.numbers.specs.Format.{big_endian}
use Rattle.crc32c.specs.Crc.{crc32c}
use Rattle.records.specs.Judgement.{RecordSpans}
use Rattle.layout.specs.declared.ControlMode.{ControlMode}
use Rattle.layout.specs.Table.{unchecked}
use Rattle.layout.specs.Batch.{Marker, Content, control, records}
use Rattle.opening.specs.Judgement.{Judged, more, refused, accepted, Judgement, judge_with, bare_marker_at, judge}
use Rattle.markers.specs.Forms.{written_control}

-- how many bytes the batch has, and the bytes that are given for it
pub record Conversion : Type 0 where
  pub taken : ℕ
  pub given : List ℕ

-- the bytes from one place up to another
abbrev pub between : ℕ → ℕ → List ℕ → List ℕ
between from to s = take (to - from) (drop from s)

-- all that the checksum is over: the fixed fields after it as they stand, and the marker as the key of a record
unfoldable pub rekeyed_checked : List ℕ → Marker → List ℕ
rekeyed_checked s m = between 21 61 s ++ written_control m

-- "all fixed fields kept except length and checksum": places 0 to 7, 12 to 16 and 21 to 60 as they stand
unfoldable pub rekeyed : List ℕ → Marker → List ℕ
rekeyed s m =
    let checked : List ℕ = rekeyed_checked s m in
    take 8 s
    ++ (big_endian 4 (unchecked + length checked)
    ++ (between 12 17 s
    ++ (big_endian 4 (crc32c checked)
    ++ checked)))

-- what is given of a batch that is read in keyed mode: its own bytes
abbrev pub copied : List ℕ → Judgement → Judged Conversion
copied s (more n) = more n
copied s (refused n) = refused n
copied s (accepted b) = accepted (record { taken = b.consumed; given = take b.consumed s })

-- what the old rules accept there decides
abbrev pub converted_by : List ℕ → ℕ → Content RecordSpans → Judged Conversion
converted_by s taken (control m) = accepted (record { taken = taken; given = rekeyed s m })
converted_by s taken (records rs) = copied s (judge ControlMode.Keyed s)

abbrev pub conversion_by : List ℕ → Judgement → Judged Conversion
conversion_by s (more n) = copied s (judge ControlMode.Keyed s)
conversion_by s (refused n) = copied s (judge ControlMode.Keyed s)
conversion_by s (accepted b) = converted_by s b.consumed b.content

unfoldable pub conversion_of : List ℕ → Judged Conversion
conversion_of s = conversion_by s (judge_with bare_marker_at s 0 0)

-- The places that spans are turned into. The premises have the form in which a proof finds them. Assumes nothing.
use Rattle.std.proofs.Common.{◌≡◌, ℕ, ◌+◌, ◌^◌, ◌<◌, arith, w64, to_z}
use Rattle.primitives.specs.declared.Span.{Span}
use Rattle.primitives.specs.Reading.{signed_by}
use Rattle.primitives.specs.Answers.{span_as_read}
use Rattle.primitives.proofs.Integers.{signed_low}
use Rattle.primitives.proofs.Fields.{signed_is}
use Rattle.records.specs.declared.Place.{Place}
use Rattle.records.specs.Answers.{place_row}
use Rattle.records.specs.Parts.{bytes_row}
use Rattle.records.specs.Promises.{FromSpanPromise}

-- a number that is cast to 64 signed bits
pub cast_is : (n : ℕ) → to_z w64 n ≡ signed_by (2 ^ 63) n
cast_is n = signed_is w64 n

-- what lies in memory ends below 2 to the 63rd, and its place says its own two numbers
pub in_memory : (x : Span) (y : Place) → x.start + x.len < 2 ^ 63 → FromSpanPromise x y → place_row y ≡ bytes_row (span_as_read x)
in_memory x y h e = rw (e, signed_low (2 ^ 63) x.start (omega arith), signed_low (2 ^ 63) x.len (omega arith))

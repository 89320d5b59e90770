-- How many bytes what a record's row itself asks for takes. Assumes nothing.
use Prim.Native.Nat.{ℕ, ◌+◌, ◌^◌, ◌<◌, min}
use mathlib.Core.Path.{◌≡◌, refl, ap, ◌∙◌}
use native.Mathlib.Omega.{arith}
use lib.IntN.{ℤ, pos, negsuc}
use lib.ListN.{length}
use mir.Syntax.{w32, w64}
use mir.Val.{SFits, to_z, of_z}
use mir.ValLaws.{to_z-of_z}
use Rattle.std.proofs.Common as std
use Rattle.std.proofs.Common.{Some, None}
use Rattle.numbers.specs.Format.{fewest, shortest}
use Rattle.primitives.specs.declared.Span.{Span}
use Rattle.sizes.specs.Promises.{NumberSizePromise}
use Rattle.sizes.specs.Sizes.{span_size, place_size, length_in, head_size, cap, capped}
use Rattle.sizes.proofs.Steps.{number_back, count_back}
use Rattle.asking.specs.declared.AskedRecord.{AskedRecord}
use Rattle.asking.specs.Answers.{span_of, head_of}
use Rattle.writing.specs.Sized.{head_of_size}

pub null_size : (x : std.Option Span) → x ≡ None → ◌≡◌ {A = ℕ} 1 (capped (place_size (length_in (span_of x))))
unfolding shortest fewest
null_size x e = rw e refl

pub shown_sized : (x : std.Option Span) (bytes : Span) (r : ℕ) → x ≡ Some bytes → r ≡ capped (span_size bytes.len)
    → r ≡ capped (place_size (length_in (span_of x)))
shown_sized x bytes r e f = rw e f

pub narrow_fits : (z : ℤ) → SFits w32 z → SFits w64 (to_z w32 (of_z w32 z))
narrow_fits z f = rw (to_z-of_z w32 z f) (wider z f)
  where
    wider : (z : ℤ) → SFits w32 z → SFits w64 z
    wider (pos n) g = record { sfits = omega (arith, g.sfits) }
    wider (negsuc k) g = record { sfits = omega (arith, g.sfits) }

-- what is passed on is what was given
pub head_sized : (t o : ℤ) (count : ℕ) → SFits w64 t → SFits w32 o → count < 2 ^ 63 → (bytes timestamp offset n size : ℕ)
    → NumberSizePromise (to_z w64 (of_z w64 t)) timestamp → NumberSizePromise (to_z w64 (of_z w64 (to_z w32 (of_z w32 o)))) offset
    → NumberSizePromise (to_z w64 count) n → size ≡ min (1 + (timestamp + offset) + bytes + n) cap
    → size ≡ capped (1 + (length (shortest t) + (length (shortest o) + (bytes + length (shortest (pos count))))))
head_sized t o count fits fits' small bytes timestamp offset n size e f g h =
    let o_is : offset ≡ length (shortest o)
    = number_back _ offset (narrow_fits _ fits') f ∙ ap (λ (z : ℤ). length (shortest z)) (to_z-of_z w32 _ fits') in
    omega (arith, number_back _ timestamp fits e, o_is, count_back count n small g, h)

-- and of a record's row it is the row's
pub row_head_sized : (r : AskedRecord) → SFits w64 r.timestamp_delta → SFits w32 r.offset_delta → (key value size : ℕ)
    → key ≡ capped (place_size (length_in (span_of r.key))) → value ≡ capped (place_size (length_in (span_of r.value)))
    → size ≡ capped (1 + (length (shortest (to_z w64 (of_z w64 r.timestamp_delta))) + (length (shortest (to_z w32 (of_z w32 r.offset_delta))) + ((key + value) + length (shortest (pos r.headers))))))
    → size ≡ capped (head_of_size (head_of r))
unfolding head_size
row_head_sized r fits fits' key value size e f g =
    let t-is = ap (λ (z : ℤ). length (shortest z)) (to_z-of_z w64 r.timestamp_delta fits) in
    let o_is = ap (λ (z : ℤ). length (shortest z)) (to_z-of_z w32 r.offset_delta fits') in
    omega (arith, e, f, g, t-is, o_is)

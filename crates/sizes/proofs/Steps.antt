-- What the functions return, by the answer of each step before, and what their answers say of a number that was passed
-- on. The premises have the form in which a proof finds them. Assumes nothing.
use Prim.Native.Nat.{ℕ, ◌+◌, ◌*◌, ◌^◌, ◌<◌, min}
use mathlib.Core.Path.{◌≡◌, ap, ◌∙◌}
use native.Mathlib.Omega.{arith}
use lib.IntN.{ℤ, pos}
use lib.ListN.{length}
use mir.Syntax.{w64}
use mir.Val.{SFits, to_z, of_z}
use mir.ValLaws.{to_z-of_z, to_z_pos}
use Rattle.numbers.specs.Format.{shortest}
use Rattle.numbers.proofs.Shortest.{fewest_last}
use Rattle.sizes.specs.Promises.{NumberSizePromise}
use Rattle.sizes.specs.Sizes.{span_size, place_size, cap, capped}
use Rattle.sizes.proofs.Caps.{capped_span}

-- ---- numbers, and bytes after their length

pub number_back : (z : ℤ) (r : ℕ) → SFits w64 z → NumberSizePromise (to_z w64 (of_z w64 z)) r → r ≡ length (shortest z)
number_back z r fits e = e.is ∙ ap (λ (n : ℤ). length (shortest n)) (to_z-of_z w64 z fits)

-- a length or a count, which is not negative
pub count_back : (n r : ℕ) → n < 2 ^ 63 → NumberSizePromise (to_z w64 n) r → r ≡ length (shortest (pos n))
count_back n r small e = e.is ∙ ap (λ (z : ℤ). length (shortest z)) (to_z_pos w64 n small)

pub span_short : (len : ℕ) → len < 64 → 1 + len ≡ min (span_size len) cap
unfolding span_size shortest
span_short len h =
    let one : length (shortest (pos len)) ≡ 1 = ap length (fewest_last 9 (2 * len) (omega arith)) in
    omega (arith, one)

pub span_got : (len m n r : ℕ) → m ≡ capped len → NumberSizePromise (to_z w64 m) n → r ≡ capped (n + m) → r ≡ capped (span_size len)
unfolding span_size
span_got len m n r e f g =
    omega (arith, count_back m n (omega arith) f) ∙ ap (λ (k : ℕ). capped (span_size k)) e ∙ capped_span len

-- ---- a key or a value

pub place_back : (z : ℤ) (r : ℕ) → SFits w64 z → r ≡ min (place_size (to_z w64 (of_z w64 z))) cap → r ≡ min (place_size z) cap
place_back z r fits e = e ∙ ap (λ (n : ℤ). min (place_size n) cap) (to_z-of_z w64 z fits)

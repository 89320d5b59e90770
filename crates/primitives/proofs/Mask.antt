-- The zigzag undone by a sign mask, over the width: the mask is 0 minus the lowest bit, wrapping, so it is 0 where the
-- code is even and all ones where it is odd, and xor with all ones is the complement. Assumes nothing.
use Rattle.std.proofs.Common.{◌≡◌, ℕ, suc, ◌+◌, ◌-◌, ◌*◌, ◌/◌, ◌%◌, ◌^◌, ◌<◌, negsuc, sym, ap, ◌∙◌, add-zero, mod-eq_of_lt, arith, eq-eqb, ne_eqb, ℤ, to_z, of_z}
use native.Mathlib.Decide.{dec_lt}
use lib.Signed.{mag}
use mir.Syntax.{Width}
use mir.Val.{hbits}
use mir.ValLaws.{to_z-of_z}
use Rattle.numbers.proofs.Widths.{sign_bit}
use Rattle.primitives.proofs.Fields.{signed_is}
use lib.Bits.{bit_xor, bit_and, xor_zero_r, xor_add_and, and_mask, xor_lt}
use Rattle.primitives.specs.Reading.{signed_by, unzigzag}
use Rattle.primitives.proofs.Integers.{signed_low, signed_high}

xor_ones : (k a : ℕ) → a < 2 ^ k → bit_xor a (2 ^ k - 1) ≡ 2 ^ k - suc a
xor_ones k a h =
    let e : bit_and a (2 ^ k - 1) ≡ a = and_mask a k ∙ mod-eq_of_lt h in
    omega (arith, xor_add_and a (2 ^ k - 1), e)

-- what wraps to 0 is 0, and what does with 1 added is all ones
wraps_to_zero : (m p : ℕ) → m < p → (m + 0) % p ≡ 0 → m ≡ 0
wraps_to_zero m p h e = sym (mod-eq_of_lt h) ∙ ap (λ (k : ℕ). k % p) (sym (add-zero m)) ∙ e

wraps_with_one : (m p : ℕ) → m < p → (m + 1) % p ≡ 0 → m ≡ p - 1
wraps_with_one m p h e =
    elim (dec_lt (m + 1) p) [
      | yes l ↦ let z : m + 1 ≡ 0 = sym (mod-eq_of_lt l) ∙ e in omega arith
      | no g ↦ omega arith
    ]

-- a width of suc k bits, whose half is 2 ^ k
module _ (k c m : ℕ) (hc : c < 2 ^ suc k) (hm : m < 2 ^ suc k) (e : (m + c % 2) % 2 ^ suc k ≡ 0) (double : 2 ^ suc k ≡ 2 * 2 ^ k) where
  even : c % 2 ≡ 0 → signed_by (2 ^ k) (bit_xor (c / 2) m) ≡ unzigzag c
  unfolding unzigzag
  even v =
      let z : m ≡ 0 = wraps_to_zero m (2 ^ suc k) hm (rw v at e) in
      rw (z, xor_zero_r, eq-eqb (c % 2) 0 v) (signed_low (2 ^ k) (c / 2) (omega arith))

  odd : c % 2 ≡ 1 → signed_by (2 ^ k) (bit_xor (c / 2) m) ≡ unzigzag c
  unfolding unzigzag
  odd v =
      let z : m ≡ 2 ^ suc k - 1 = wraps_with_one m (2 ^ suc k) hm (rw v at e) in
      rw (z, xor_ones (suc k) (c / 2) (omega arith), ne_eqb (c % 2) 0 (omega arith))
      (signed_high (2 ^ k) (2 ^ suc k - suc (c / 2)) (omega arith) ∙ ap negsuc (omega arith))

  pub unmasked : signed_by (2 ^ k) (bit_xor (c / 2) m) ≡ unzigzag c
  unmasked =
      elim (dec_lt (c % 2) 1) [
        | yes l ↦ even (omega arith)
        | no g ↦ odd (omega arith)
      ]

  pub masked_below : bit_xor (c / 2) m < 2 ^ suc k
  masked_below = xor_lt (suc k) (c / 2) m (omega arith) hm

-- the same in a type, whose numbers have so many bits
pub unmasked_as : (w : Width) (k c m : ℕ) (z : ℤ) → hbits w ≡ k → c < 2 ^ suc k → m < 2 ^ suc k → (m + c % 2) % 2 ^ suc k ≡ 0
    → 2 ^ suc k ≡ 2 * 2 ^ k → mag z < 2 ^ hbits w → z ≡ to_z w (bit_xor (c / 2) m) → to_z w (of_z w z) ≡ unzigzag c
unmasked_as w k c m z half hc hm e double fits f =
    to_z-of_z w z (record { sfits = fits })
    ∙ f
    ∙ signed_is w _
    ∙ ap (λ (n : ℕ). signed_by (2 ^ n) (bit_xor (c / 2) m)) (sign_bit w ∙ half)
    ∙ unmasked k c m hc hm e double

-- The attributes are the sum of their bits: each is a half's remainder, and a codec of 0 leaves nothing below bit 3.
-- Assumes nothing.
use Prim.Native.Nat.{ℕ, ◌+◌, ◌*◌, ◌/◌, ◌%◌}
use mathlib.Core.Path.{◌≡◌, refl}
use mathlib.Core.Bool.{Bool, true, false}
use native.Mathlib.Omega.{arith}
use native.Mathlib.Decide.{dec_lt}
use native.Mathlib.Nat.{div-div-eq-div-mul}
use lib.Dec.{eqb}
use Rattle.numbers.specs.Pick.{pick}
use Rattle.layout.specs.Batch.{create_time, log_append_time}
use Rattle.layout.specs.Format.{timestamp_bit, bit}
use Rattle.opening.specs.Judgement.{apart}

-- what holds of a bit that is set, and of one that is not
either : (P : Bool → ℕ → Type 0) → P true 1 → P false 0 → (x : ℕ) → P (eqb (x % 2) 1) (x % 2)
either P set unset x =
    elim (dec_lt 0 (x % 2)) [
      | yes h ↦ let e : x % 2 ≡ 1 = omega arith in rw e set
      | no h ↦ let e : x % 2 ≡ 0 = omega arith in rw e unset
    ]

pub together : (a : ℕ) → (apart a).codec ≡ 0
    → a ≡ 8 * timestamp_bit (apart a).timestamp_type + 16 * bit (apart a).transactional + 32 * bit (apart a).control + 64 * (a / 64)
together a e =
    let timestamp = either (λ t n. timestamp_bit (pick t log_append_time create_time) ≡ n) refl refl (a / 8) in
    let single = either (λ t n. bit t ≡ n) refl refl in
    let half : (k : ℕ) → a / k / 2 ≡ a / (k * 2) = λ k. div-div-eq-div-mul a k 2 in
    rw (timestamp, single (a / 16), single (a / 32)) (omega (arith, e, half 8, half 16, half 32))

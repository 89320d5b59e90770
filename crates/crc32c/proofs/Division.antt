-- Laws of the division's steps, over the polynomial. A step is linear, so n steps are, and each law splits a register
-- into what the steps turn into the polynomial and what they only move. Assumes nothing.
use Prim.Native.Nat.{ℕ, zero, suc, ◌+◌, ◌*◌, ◌/◌, ◌%◌, ◌^◌, ◌<◌}
use native.Mathlib.Nat.{zero-lt-suc, mul-mod_left, mul-div_cancel, mul-one, one-mul, zero-mul, pow-suc, mul_assoc, zero-add, suc-add, div-eq_of_lt}
use native.Mathlib.Omega.{arith}
use mathlib.Core.Path.{◌≡◌, refl, sym, ap, ap₂, ◌∙◌}
use lib.Bits.{bit_xor, differ, xor_zero_r, xor_comm, xor_self, xor_shr, xor_shifted}
use lib.Dec.{lit<, lit≤}
use Rattle.crc32c.specs.Crc.{bit_step, steps, reflect, generator}
use Rattle.crc32c.specs.Statements.{StepDivides, CastagnoliReflects, CastagnoliReflected, StepsLinear, StepsSplit}
use Rattle.crc32c.proofs.Xor.{bit_lt, xor_half, xor_odd, xor_mid, xor_shl, xor_split}

-- ---- linear

times_differ : (p x y : ℕ) → x < 2 → y < 2 → differ x y * p ≡ bit_xor (x * p) (y * p)
times_differ p zero y hx hy = ap (λ (z : ℕ). bit_xor z (y * p)) (sym (zero-mul p))
times_differ p (suc zero) zero hx hy = sym (ap (bit_xor (1 * p)) (zero-mul p) ∙ xor_zero_r (1 * p))
times_differ p (suc zero) (suc zero) hx hy = zero-mul p ∙ sym (xor_self (1 * p))
times_differ p (suc zero) (suc (suc y)) hx hy = absurd (omega arith)
times_differ p (suc (suc x)) y hx hy = absurd (omega arith)

pub bit_step_linear : (p a b : ℕ) → bit_step p (bit_xor a b) ≡ bit_xor (bit_step p a) (bit_step p b)
unfolding bit_step
bit_step_linear p a b =
    ap₂ bit_xor (ap (λ (x : ℕ). x * p) (xor_odd a b) ∙ times_differ p (a % 2) (b % 2) (bit_lt a) (bit_lt b)) (xor_half a b)
    ∙ xor_mid (a % 2 * p) (b % 2 * p) (a / 2) (b / 2)

pub steps_linear : StepsLinear
unfolding steps
steps_linear p zero a b = refl
steps_linear p (suc n) a b = ap (steps p n) (bit_step_linear p a b) ∙ steps_linear p n (bit_step p a) (bit_step p b)

-- ---- steps that only move

pub bit_step_double : (p a : ℕ) → bit_step p (a * 2) ≡ a
unfolding bit_step
bit_step_double p a =
    ap₂ (λ (x y : ℕ). bit_xor (x * p) y) (mul-mod_left a 2) (mul-div_cancel a (zero-lt-suc 1))
    ∙ ap (λ (x : ℕ). bit_xor x a) (zero-mul p)

pub steps_shift : (p n a : ℕ) → steps p n (a * 2 ^ n) ≡ a
unfolding steps
steps_shift p zero a = mul-one a
steps_shift p (suc n) a =
    ap (λ (x : ℕ). steps p n (bit_step p x)) (ap (λ (x : ℕ). a * x) (pow-suc 2 n) ∙ sym (mul_assoc a (2 ^ n) 2))
    ∙ ap (steps p n) (bit_step_double p (a * 2 ^ n))
    ∙ steps_shift p n a

pub steps_none : (p n : ℕ) → steps p n 0 ≡ 0
unfolding steps bit_step
steps_none p zero = refl
steps_none p (suc n) = ap (λ (x : ℕ). steps p n (bit_xor x 0)) (zero-mul p) ∙ steps_none p n

-- ---- one after the other

pub steps_add : (p m n a : ℕ) → steps p (m + n) a ≡ steps p n (steps p m a)
unfolding steps
steps_add p zero n a = ap (λ (x : ℕ). steps p x a) (zero-add n)
steps_add p (suc m) n a = ap (λ (x : ℕ). steps p x a) (suc-add m n) ∙ steps_add p m n (bit_step p a)

pub bit_step_steps : (p n a : ℕ) → bit_step p (steps p n a) ≡ steps p n (bit_step p a)
unfolding steps
bit_step_steps p zero a = refl
bit_step_steps p (suc n) a = bit_step_steps p n (bit_step p a)

-- ---- low bits and high bits

pub steps_split : StepsSplit
steps_split p n a =
    ap (steps p n) (sym (xor_split a n))
    ∙ steps_linear p n (a / 2 ^ n * 2 ^ n) (a % 2 ^ n)
    ∙ ap (λ (x : ℕ). bit_xor x (steps p n (a % 2 ^ n))) (steps_shift p n (a / 2 ^ n))
    ∙ xor_comm (a / 2 ^ n) (steps p n (a % 2 ^ n))

-- a byte is added to the lowest eight bits: the others only move
pub byte_split : (p c b r : ℕ) → b < 256 → r ≡ steps p 8 (bit_xor c b % 256) → bit_xor r (c / 256) ≡ steps p 8 (bit_xor c b)
byte_split p c b r h e =
    ap (λ (x : ℕ). bit_xor x (c / 256)) e
    ∙ sym
    (steps_split p 8 (bit_xor c b)
    ∙ ap (bit_xor (steps p 8 (bit_xor c b % 256)))
    (xor_shr c b 8 ∙ ap (bit_xor (c / 256)) (div-eq_of_lt h) ∙ xor_zero_r (c / 256)))

-- ---- why it is a division

taken_off : (p x : ℕ) → x < 2 → bit_xor x (x * p * 2) ≡ x * generator p
taken_off p zero h = ap (λ (y : ℕ). y * 2) (zero-mul p) ∙ sym (zero-mul (generator p))
taken_off p (suc zero) h =
    ap (λ (y : ℕ). bit_xor 1 (y * 2)) (one-mul p) ∙ xor_comm 1 (p * 2) ∙ xor_shifted p 1 1 (lit< tt) ∙ sym (one-mul (generator p))
taken_off p (suc (suc x)) h = absurd (omega arith)

pub step_divides : StepDivides
unfolding bit_step
step_divides p c =
    let t = c % 2 * p in
    let h = c / 2 * 2 in
    ap₂ bit_xor (sym (xor_split c 1) ∙ xor_comm h (c % 2)) (xor_shl 1 t (c / 2))
    ∙ xor_mid (c % 2) h (t * 2) h
    ∙ ap (bit_xor (bit_xor (c % 2) (t * 2))) (xor_self h)
    ∙ xor_zero_r (bit_xor (c % 2) (t * 2))
    ∙ taken_off p (c % 2) (bit_lt c)

-- ---- Castagnoli's polynomial

pub castagnoli_reflects : CastagnoliReflects
unfolding reflect
castagnoli_reflects = refl

pub castagnoli_reflected : CastagnoliReflected
castagnoli_reflected = record { held = lit< tt; ends = lit≤ tt }

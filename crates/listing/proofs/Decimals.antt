-- Digits are the quotient's digits and then the remainder, so that they spell the number; and they stop where the
-- quotient is below ten, which is not 0 unless the number is. Assumes nothing.
use Prim.Native.Nat.{ℕ, zero, suc, ◌+◌, ◌-◌, ◌*◌, ◌/◌, ◌%◌, ◌^◌, ◌≤◌, ◌<◌}
use mathlib.Core.Path.{◌≡◌, refl, ◌∙◌}
use mathlib.Core.List.{List, [], ◌∷◌, ◌++◌}
use native.Mathlib.Omega.{arith}
use native.Mathlib.Decide.{dec_lt}
use native.Mathlib.Nat.{pow-succ'}
use lib.ListN.{get_or, length-append}
use Rattle.listing.specs.Text.{digits}
use Rattle.listing.specs.Statements.{spelled, AllDigits, Spells, Decimals}
use Rattle.listing.proofs.Digits.{digits_last, digits_more}

-- ---- one digit more

spelled_more : (before : ℕ) (text : List ℕ) (digit : ℕ) → spelled before (text ++ (digit ∷ [])) ≡ 10 * spelled before text + (digit - 48)
unfolding spelled
spelled_more before [] digit = refl
spelled_more before (x ∷ text) digit = spelled_more (10 * before + (x - 48)) text digit

all_more : (text : List ℕ) (digit : ℕ) → AllDigits text → 48 ≤ digit → digit ≤ 57 → AllDigits (text ++ (digit ∷ []))
unfolding AllDigits
all_more [] digit a h h' = (h, h', tt)
all_more (x ∷ text) digit (l, l', a) h h' = (l, l', all_more text digit a h h')

-- a first digit that is not 0 stays the first
front_more : (text : List ℕ) (digit : ℕ) → 48 < get_or text 0 0 → 48 < get_or (text ++ (digit ∷ [])) 0 0
front_more [] digit h = absurd (omega arith)
front_more (x ∷ text) digit h = h

one : (n : ℕ) → n < 10 → Spells ((48 + n) ∷ []) n
unfolding spelled AllDigits
one n h =
    record { value = omega arith; digits = (omega arith, omega arith, tt); some = omega arith; front = λ l. absurd (omega arith) }

-- the first digit of what is not 0 is not 0
front_digit : (text : List ℕ) (n : ℕ) → 0 < n → Spells text n → 48 < get_or text 0 0
unfolding spelled
front_digit [] n h s = absurd (omega (arith, s.some))
front_digit (x ∷ []) n h s = omega (arith, s.value)
front_digit (x ∷ y ∷ text) n h s = s.front (omega arith)

more : (text : List ℕ) (n : ℕ) → 10 ≤ n → Spells text (n / 10) → Spells (text ++ ((48 + n % 10) ∷ [])) n
more text n h s =
    record {
      value = spelled_more 0 text (48 + n % 10) ∙ omega (arith, s.value);
      digits = all_more text (48 + n % 10) s.digits (omega arith) (omega arith);
      some = simp length-append (omega arith);
      front = λ l. front_more text (48 + n % 10) (front_digit text (n / 10) (omega arith) s);
    }

-- ---- all of them

all_spelled : (k n : ℕ) → n < 10 ^ suc k → Spells (digits k n) n
all_spelled zero n h = rw (digits_last zero n h) (one n h)
all_spelled (suc k) n h =
    elim (dec_lt n 10) [
      | yes l ↦ rw (digits_last (suc k) n l) (one n l)
      | no g ↦
          rw (digits_more k n (omega arith))
          (more (digits k (n / 10)) n (omega arith) (all_spelled k (n / 10) (omega (arith, pow-succ' 10 (suc k)))))
    ]

pub decimals : Decimals
decimals n h = all_spelled 19 n (omega arith)

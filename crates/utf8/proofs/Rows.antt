-- What follows a first octet, row by row: the rows do not meet, so an octet within one is beyond those before it, and
-- each octet is within one, between two or beyond them all. Assumes nothing.
use Prim.Native.Nat.{ℕ, ◌≤◌, ◌<◌}
use mathlib.Core.Path.{◌≡◌, refl, sym, subst}
use mathlib.Core.Bool.{Bool, true, false}
use mathlib.Core.Option.{Option, none, some}
use mathlib.Core.List.{List, [], ◌∷◌}
use native.Mathlib.Omega.{arith}
use borrow.Author.Tests.{le-leb, lt-leb}
use lib.Dec.{leb, ltb, T, ltb→lt}
use Rattle.numbers.specs.Pick.{pick}
use Rattle.utf8.specs.Grammar.{Within}
use Rattle.utf8.specs.Judgement.{Range, holds, from, tail, after}
use Rattle.utf8.proofs.Bounds.{up_to}

-- ---- an octet within, below and above a range

pub inside : (r : Range) (a : ℕ) → r.first ≤ a → a ≤ r.last → holds r a ≡ true
inside r a h k = rw (le-leb _ _ h, le-leb _ _ k)

below : (r : Range) (a : ℕ) → a < r.first → holds r a ≡ false
below r a h = rw (lt-leb _ _ h)

above : (r : Range) (a : ℕ) → r.last < a → holds r a ≡ false
above r a h = by (leb r.first a) (lt-leb _ _ h)
  where
    by : (t : Bool) {u : Bool} → u ≡ false → pick t u false ≡ false
    by true e = e
    by false e = refl

-- from a bound to a lower and to a higher one
lower : (k m a : ℕ) → m ≤ a → T (ltb k m) → k < a
lower k m a h t = omega (arith, ltb→lt k m t)

higher : (a m k : ℕ) → a ≤ m → T (ltb m k) → a < k
higher a m k h t = omega (arith, ltb→lt m k t)

ruleset sides = (inside, below, above, lower, higher, tt)

-- ---- the rows, and what lies between and beyond them

pub data Row (a : ℕ) : Option (List Range) → Type 0 where
  row_1 : Within 0x00 0x7F a → Row a (some [])
  between : Within 0x80 0xC1 a → Row a none
  row_2 : Within 0xC2 0xDF a → Row a (some (tail ∷ []))
  row_3_E0 : Within 0xE0 0xE0 a → Row a (some (from 0xA0 0xBF ∷ tail ∷ []))
  row_3_E1 : Within 0xE1 0xEC a → Row a (some (tail ∷ tail ∷ []))
  row_3_ED : Within 0xED 0xED a → Row a (some (from 0x80 0x9F ∷ tail ∷ []))
  row_3_EE : Within 0xEE 0xEF a → Row a (some (tail ∷ tail ∷ []))
  row_4_F0 : Within 0xF0 0xF0 a → Row a (some (from 0x90 0xBF ∷ tail ∷ tail ∷ []))
  row_4_F1 : Within 0xF1 0xF3 a → Row a (some (tail ∷ tail ∷ tail ∷ []))
  row_4_F4 : Within 0xF4 0xF4 a → Row a (some (from 0x80 0x8F ∷ tail ∷ tail ∷ []))
  beyond : 0xF5 ≤ a → Row a none

pub row_after : {a : ℕ} {o : Option (List Range)} → Row a o → after a ≡ o
unfolding after
row_after (row_1 w) = search sides
row_after (between w) = search sides
row_after (row_2 w) = search sides
row_after (row_3_E0 w) = search sides
row_after (row_3_E1 w) = search sides
row_after (row_3_ED w) = search sides
row_after (row_3_EE w) = search sides
row_after (row_4_F0 w) = search sides
row_after (row_4_F1 w) = search sides
row_after (row_4_F4 w) = search sides
row_after (beyond h) = search sides

in_some_row : (a : ℕ) → (o : Option (List Range)) × Row a o
in_some_row a =
    up_to 0x7F a (λ k. (_, row_1 (omega arith))) λ h.
    up_to 0xC1 a (λ k. (_, between (omega arith))) λ h.
    up_to 0xDF a (λ k. (_, row_2 (omega arith))) λ h.
    up_to 0xE0 a (λ k. (_, row_3_E0 (omega arith))) λ h.
    up_to 0xEC a (λ k. (_, row_3_E1 (omega arith))) λ h.
    up_to 0xED a (λ k. (_, row_3_ED (omega arith))) λ h.
    up_to 0xEF a (λ k. (_, row_3_EE (omega arith))) λ h.
    up_to 0xF0 a (λ k. (_, row_4_F0 (omega arith))) λ h.
    up_to 0xF3 a (λ k. (_, row_4_F1 (omega arith))) λ h.
    up_to 0xF4 a (λ k. (_, row_4_F4 (omega arith))) λ h.
    (_, beyond (omega arith))

pub after_row : (a : ℕ) → Row a (after a)
after_row a = let (o, r) = in_some_row a in subst (Row a) (sym (row_after r)) r

-- Every way that the tests before the marker or the records can go, as a type: a way says which tests were met and what
-- comes of it, so it tells what is judged, and every list goes one of them. Assumes nothing.
use Prim.Native.Nat.{ℕ, zero, suc, ◌+◌, ◌≤◌, ◌<◌}
use mathlib.Core.Path.{◌≡◌, refl, sym, ap, ◌∙◌, subst}
use mathlib.Core.Bool.{Bool, true, false}
use mathlib.Core.Logic.{◌⊎◌, inl, inr}
use mathlib.Core.List.{List}
use native.Mathlib.Omega.{arith}
use native.Mathlib.Decide.{ℕ_discrete, dec_lt}
use borrow.Author.Tests.{lt-ltb, le-ltb, eq-eqb, ne_eqb, eqb-true, eqb-false}
use lib.Dec.{ltb}
use lib.IntN.{ℤ, pos, negsuc}
use lib.ListN.{length}
use Rattle.numbers.specs.Pick.{pick}
use Rattle.primitives.specs.Step.{Step, ok, no}
use Rattle.layout.specs.Table.{table}
use Rattle.opening.specs.Judgement.{Judged, more, refused, accepted, number_in, attributes_in, is, below, total_at, count_from, count_of, opened_at}

-- ---- the batch's length and magic

pub data Totals (s : List ℕ) (at : ℕ) : Judged ℕ → Type 0 where
  few : length s < at + 12 → Totals s at (more 12)
  low : at + 12 ≤ length s → below 9 (number_in table.batch_length s at) ≡ true → Totals s at (refused 2)
  short : {n : ℕ} → at + 12 ≤ length s → number_in table.batch_length s at ≡ pos n → 9 ≤ n → length s < at + 17
      → Totals s at (more 17)
  unknown : {n : ℕ} → at + 17 ≤ length s → number_in table.batch_length s at ≡ pos n → 9 ≤ n
      → is 2 (number_in table.magic s at) ≡ false → Totals s at (refused 3)
  lacking : {n : ℕ} → at + 17 ≤ length s → number_in table.batch_length s at ≡ pos n → 9 ≤ n
      → number_in table.magic s at ≡ pos 2 → length s < at + (12 + n) → Totals s at (more (12 + n))
  there : {n : ℕ} → at + 17 ≤ length s → number_in table.batch_length s at ≡ pos n → 9 ≤ n
      → number_in table.magic s at ≡ pos 2 → at + (12 + n) ≤ length s → Totals s at (accepted (12 + n))

-- where the magic is there, it is tested, and then the bytes of the batch
magic_tested : (s : List ℕ) (at : ℕ) {n : ℕ} → at + 17 ≤ length s → number_in table.batch_length s at ≡ pos n → 9 ≤ n
    → total_at s at
    ≡ pick (is 2 (number_in table.magic s at)) (pick (ltb (length s) (at + (12 + n))) (more (12 + n)) (accepted (12 + n))) (refused 3)
unfolding total_at
magic_tested s at {n} h e f = rw (le-ltb (length s) (at + 12) (omega arith), e, le-ltb n 9 f, le-ltb (length s) (at + 17) h)

pub total_is : (s : List ℕ) (at : ℕ) (x : Judged ℕ) → Totals s at x → total_at s at ≡ x
unfolding total_at
total_is s at _ (few h) = rw (lt-ltb (length s) (at + 12) h)
total_is s at _ (low h e) = rw (le-ltb (length s) (at + 12) h, e)
total_is s at _ (short {n} h e f g) = rw (le-ltb (length s) (at + 12) h, e, le-ltb n 9 f, lt-ltb (length s) (at + 17) g)
total_is s at _ (unknown h e f m) = magic_tested s at h e f ∙ rw m
total_is s at _ (lacking {n} h e f m g) = magic_tested s at h e f ∙ rw (m, lt-ltb (length s) (at + (12 + n)) g)
total_is s at _ (there {n} h e f m g) = magic_tested s at h e f ∙ rw (m, le-ltb (length s) (at + (12 + n)) g)

pub is_true : (n : ℕ) (z : ℤ) → is n z ≡ true → z ≡ pos n
is_true n (pos m) e = ap pos (eqb-true m n e)
is_true n (negsuc k) e = cc

pub is_false : (n : ℕ) (z : ℤ) → is n z ≡ false → z ≡ pos n → ⊥
is_false n z e f = eqb-false n n (sym (ap (is n) f) ∙ e) refl

pub is_not : (n : ℕ) (z : ℤ) → (z ≡ pos n → ⊥) → is n z ≡ false
is_not n (pos m) f = ne_eqb m n (λ e. f (ap pos e))
is_not n (negsuc k) f = refl

module _ (s : List ℕ) (at : ℕ) where
  abbrev SomeTotal : Type 0
  SomeTotal = (x : Judged ℕ) × Totals s at x

  module _ {n : ℕ} (e : number_in table.batch_length s at ≡ pos n) (f : 9 ≤ n) where
    by_magic : at + 17 ≤ length s → (t : Bool) → is 2 (number_in table.magic s at) ≡ t → SomeTotal
    by_magic h true m =
        elim (dec_lt (length s) (at + (12 + n))) [
          | yes g ↦ (_, lacking h e f (is_true 2 _ m) g)
          | Dec.no g ↦ (_, there h e f (is_true 2 _ m) (omega arith))
        ]
    by_magic h false m = (_, unknown h e f m)

    enough : at + 12 ≤ length s → SomeTotal
    enough h =
        elim (dec_lt (length s) (at + 17)) [
          | yes g ↦ (_, short h e f g)
          | Dec.no g ↦ by_magic (omega arith) _ refl
        ]

  by_length : at + 12 ≤ length s → (z : ℤ) → number_in table.batch_length s at ≡ z → SomeTotal
  by_length h (pos n) e =
      elim (dec_lt n 9) [ yes f ↦ (_, low h (rw e (lt-ltb n 9 f))) | Dec.no f ↦ enough e (omega arith) h ]
  by_length h (negsuc k) e = (_, low h (rw e))

  some_total : SomeTotal
  some_total =
      elim (dec_lt (length s) (at + 12)) [ yes h ↦ (_, few h) | Dec.no h ↦ by_length (omega arith) _ refl ]

pub totals : (s : List ℕ) (at : ℕ) → Totals s at (total_at s at)
totals s at = let (x, t) = some_total s at in subst (Totals s at) (sym (total_is s at x t)) t

-- ---- what is met before the marker or the records

-- the number of records that the count says
abbrev pub Says : List ℕ → ℕ → ℕ → Type 0
Says s at n = (number_in table.count s at ≡ pos n) ⊎ ((number_in table.count s at ≡ negsuc 0) × (n ≡ 0))

pub data Openings (s : List ℕ) (at : ℕ) : Step ℕ ℕ → Type 0 where
  no_attributes : length s < at + 23 → Openings s at (no 8)
  unknown_codec : at + 23 ≤ length s → 5 ≤ (attributes_in s at).codec → Openings s at (no 5)
  no_fields : at + 23 ≤ length s → (attributes_in s at).codec ≤ 4 → length s < at + 61 → Openings s at (no 8)
  low_count : {k : ℕ} → at + 61 ≤ length s → (attributes_in s at).codec ≤ 4 → number_in table.count s at ≡ negsuc (suc k)
      → Openings s at (no 7)
  compressed : {n : ℕ} → at + 61 ≤ length s → 1 ≤ (attributes_in s at).codec → (attributes_in s at).codec ≤ 4 → Says s at n
      → Openings s at (no 6)
  wrong_count : {n : ℕ} → at + 61 ≤ length s → (attributes_in s at).codec ≡ 0 → (attributes_in s at).control ≡ true → Says s at n
      → (n ≡ 1 → ⊥) → Openings s at (no 7)
  opened : {n : ℕ} → at + 61 ≤ length s → (attributes_in s at).codec ≡ 0 → Says s at n
      → (((attributes_in s at).control ≡ true) × (n ≡ 1)) ⊎ ((attributes_in s at).control ≡ false) → Openings s at (ok n (at + 61))

module _ (s : List ℕ) (at : ℕ) where
  all_fields : at + 61 ≤ length s → (attributes_in s at).codec ≤ 4
      → opened_at s at ≡ count_of (attributes_in s at) (number_in table.count s at) (at + 61)
  unfolding opened_at
  all_fields h f =
      rw (le-ltb (length s) (at + 23) (omega arith), le-ltb 4 (attributes_in s at).codec f, le-ltb (length s) (at + 61) h)

  counted : {n : ℕ} → Says s at n
      → count_of (attributes_in s at) (number_in table.count s at) (at + 61) ≡ count_from (attributes_in s at) n (at + 61)
  counted (inl e) = rw e
  counted (inr (e, w)) = rw (e, w)

  said : {n : ℕ} → at + 61 ≤ length s → (attributes_in s at).codec ≤ 4 → Says s at n
      → opened_at s at ≡ count_from (attributes_in s at) n (at + 61)
  said h f w = all_fields h f ∙ counted w

pub opening_is : (s : List ℕ) (at : ℕ) (x : Step ℕ ℕ) → Openings s at x → opened_at s at ≡ x
unfolding opened_at
opening_is s at _ (no_attributes h) = rw (lt-ltb (length s) (at + 23) h)
opening_is s at _ (unknown_codec h f) = rw (le-ltb (length s) (at + 23) h, lt-ltb 4 (attributes_in s at).codec f)
opening_is s at _ (no_fields h f g) =
    rw (le-ltb (length s) (at + 23) h, le-ltb 4 (attributes_in s at).codec f, lt-ltb (length s) (at + 61) g)
opening_is s at _ (low_count h f e) = all_fields s at h f ∙ rw e
opening_is s at _ (compressed h c f w) = said s at h f w ∙ rw (lt-ltb 0 (attributes_in s at).codec c)
opening_is s at _ (wrong_count {n} h c t w f) = said s at h (omega (arith, c)) w ∙ rw (c, t, ne_eqb n 1 f)
opening_is s at _ (opened {n} h c w (inl (t, f))) = said s at h (omega (arith, c)) w ∙ rw (c, t, eq-eqb n 1 f)
opening_is s at _ (opened {n} h c w (inr t)) = said s at h (omega (arith, c)) w ∙ rw (c, t)

module _ (s : List ℕ) (at : ℕ) where
  abbrev SomeOpening : Type 0
  SomeOpening = (x : Step ℕ ℕ) × Openings s at x

  module _ (h : at + 61 ≤ length s) where
    by_control : {n : ℕ} → (attributes_in s at).codec ≡ 0 → Says s at n → (t : Bool) → (attributes_in s at).control ≡ t → SomeOpening
    by_control {n} c w true e =
        elim (ℕ_discrete n 1) [ yes f ↦ (_, opened h c w (inl (e, f))) | Dec.no f ↦ (_, wrong_count h c e w f) ]
    by_control c w false e = (_, opened h c w (inr e))

    module _ (f : (attributes_in s at).codec ≤ 4) where
      by_codec : {n : ℕ} → Says s at n → SomeOpening
      by_codec w =
          elim (dec_lt 0 (attributes_in s at).codec) [
            | yes c ↦ (_, compressed h c f w)
            | Dec.no c ↦ by_control (omega arith) w _ refl
          ]

      by_count : (z : ℤ) → number_in table.count s at ≡ z → SomeOpening
      by_count (pos n) e = by_codec (inl e)
      by_count (negsuc zero) e = by_codec (inr (e, refl))
      by_count (negsuc (suc k)) e = (_, low_count h f e)

  by_fields : at + 23 ≤ length s → (attributes_in s at).codec ≤ 4 → SomeOpening
  by_fields h f =
      elim (dec_lt (length s) (at + 61)) [
        | yes g ↦ (_, no_fields h f g)
        | Dec.no g ↦ by_count (omega arith) f _ refl
      ]

  by_attributes : at + 23 ≤ length s → SomeOpening
  by_attributes h =
      elim (dec_lt 4 (attributes_in s at).codec) [
        | yes c ↦ (_, unknown_codec h c)
        | Dec.no c ↦ by_fields h (omega arith)
      ]

  some_opening : SomeOpening
  some_opening =
      elim (dec_lt (length s) (at + 23)) [ yes h ↦ (_, no_attributes h) | Dec.no h ↦ by_attributes (omega arith) ]

pub openings : (s : List ℕ) (at : ℕ) → Openings s at (opened_at s at)
openings s at = let (x, t) = some_opening s at in subst (Openings s at) (sym (opening_is s at x t)) t

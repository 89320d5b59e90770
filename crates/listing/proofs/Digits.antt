-- The digits of a number, from the last to the first: those that stand at the end of twenty bytes, and those that are
-- still to come. Assumes nothing.
use Prim.Native.Nat.{ℕ, zero, suc, ◌+◌, ◌-◌, ◌/◌, ◌%◌, ◌^◌, ◌≤◌, ◌<◌}
use mathlib.Core.Path.{◌≡◌, refl, sym, ap, ◌∙◌}
use mathlib.Core.List.{List, [], ◌∷◌, ◌++◌, append_assoc}
use native.Mathlib.Omega.{arith}
use native.Mathlib.Decide.{dec_lt}
use native.Mathlib.Nat.{pow-succ'}
use borrow.Author.Tests.{lt-ltb, le-ltb}
use lib.ListN.{length, take, drop, set, length-append, length-drop, length-set}
use lib.Seq.{take_all}
use Rattle.std.proofs.lemmas.Grind.{drop-set_at}
use Rattle.listing.specs.Text.{digits, decimal}

pub digits_last : (k n : ℕ) → n < 10 → digits k n ≡ (48 + n) ∷ []
unfolding digits
digits_last zero n h = refl
digits_last (suc k) n h = simp (lt-ltb n 10 h)

pub digits_more : (k n : ℕ) → 10 ≤ n → digits (suc k) n ≡ digits k (n / 10) ++ ((48 + n % 10) ∷ [])
unfolding digits
digits_more k n h = simp (le-ltb n 10 h)

-- ---- the loop: so many digits are left, and the next one stands before those that are put

pub record Spelled (n : ℕ) (bytes : List ℕ) (left rest : ℕ) : Type 0 where
  pub is : digits (left - 1) rest ++ drop left bytes ≡ decimal n
  pub twenty : length bytes ≡ 20
  pub some : 1 ≤ left
  pub within : left ≤ 20
  pub small : rest < 10 ^ left

-- its end: the first digit alone is still to be put
pub record Ends (n : ℕ) (bytes : List ℕ) (start rest : ℕ) : Type 0 where
  pub is : ((48 + rest) ∷ []) ++ drop (start + 1) bytes ≡ decimal n
  pub twenty : length bytes ≡ 20
  pub within : start ≤ 19

pub put_first : {n : ℕ} {bytes : List ℕ} {start rest : ℕ} → Ends n bytes start rest
    → take (20 - start) (drop start (set bytes start (48 + rest))) ≡ decimal n
put_first {n = n} {bytes = bytes} {start = start} {rest = rest} x =
    take_all (20 - start) (drop start (set bytes start (48 + rest))) (simp (length-drop, length-set) (omega (arith, x.twenty)))
    ∙ drop-set_at bytes start start (48 + rest) refl (omega (arith, x.twenty, x.within))
    ∙ x.is

module _ {n : ℕ} {bytes : List ℕ} {left rest : ℕ} (s : Spelled n bytes left rest) where
  stored : (b : ℕ) → drop (left - 1) (set bytes (left - 1) b) ≡ b ∷ drop left bytes
  stored b =
      let e : left - 1 + 1 ≡ left = omega (arith, s.some) in
      drop-set_at bytes (left - 1) (left - 1) b refl (omega (arith, s.twenty, s.some, s.within))
      ∙ ap (λ (k : ℕ). b ∷ drop k bytes) e

  pub again : 1 < left → 10 ≤ rest → Spelled n (set bytes (left - 1) (48 + rest % 10)) (left - 1) (rest / 10)
  again m h =
      let e : left - 1 ≡ suc (left - 1 - 1) = omega arith in
      let f : left ≡ suc (left - 1) = omega arith in
      let d = 48 + rest % 10 in
      record {
        is =
            ap (λ (l : List ℕ). digits (left - 1 - 1) (rest / 10) ++ l) (stored d)
            ∙ sym (append_assoc (digits (left - 1 - 1) (rest / 10)) (d ∷ []) (drop left bytes))
            ∙ ap (λ (l : List ℕ). l ++ drop left bytes) (sym (digits_more (left - 1 - 1) rest h) ∙ ap (λ (k : ℕ). digits k rest) (sym e))
            ∙ s.is;
        twenty = length-set bytes (left - 1) d ∙ s.twenty;
        some = omega arith;
        within = omega (arith, s.within);
        small = omega (arith, rw (f, pow-succ') at s.small);
      }

  -- it ends at the first digit, and at the twentieth whatever is left
  pub ends : (start : ℕ) → start ≡ left - 1 → rest < 10 → Ends n bytes start rest
  ends start e h =
      let f : left ≡ start + 1 = omega (arith, s.some) in
      record {
        twenty = s.twenty;
        within = omega (arith, s.within, s.some);
        is = ap (λ (l : List ℕ). l ++ drop (start + 1) bytes) (sym (digits_last start rest h))
            ∙ (λ i. digits (e i) rest ++ drop (sym f i) bytes)
            ∙ s.is;
      }

  pub ends_full : (start : ℕ) → start ≡ 0 → left ≤ 1 → Ends n bytes start rest
  ends_full start z h =
      let e : left ≡ 1 = omega (arith, s.some) in
      ends start (omega arith) (omega (arith, rw e at s.small))

-- ---- how long they are

pub digits_length : (k n : ℕ) → length (digits k n) ≤ suc k
unfolding digits
digits_length zero n = omega arith
digits_length (suc k) n =
    elim (dec_lt n 10) [
      | yes l ↦ rw (lt-ltb n 10 l) (omega arith)
      | no g ↦ rw (le-ltb n 10 (omega arith)) (simp length-append (omega (arith, digits_length k (n / 10))))
    ]

-- A number of varying length is refused as past the end exactly where the list ends inside one, since then its bytes so
-- far all have their top bit set and a last byte of 0 makes them one; and as beyond its limits exactly where nothing
-- after the list makes its bytes one, since more bytes change no such refusal. Assumes nothing.
use Rattle.std.proofs.Common.{◌≡◌, ℕ, zero, suc, ◌+◌, ◌-◌, ◌*◌, ◌/◌, ◌<◌, ◌≤◌, false, ltb, ◌⊎◌, List, [], ◌∷◌, ◌++◌, length, get_or, ℤ, sym, refl, ap, ◌∙◌, subst, inl, inr, append-nil, arith, length-append}
use native.Mathlib.Decide.{dec_lt}
use lib.ListN.{get_or-append}
use lib.Seq.{get_or-append_seam}
use Rattle.numbers.specs.Bytes.{Bytes}
use Rattle.numbers.specs.Format.{groups, zigzag, Varies}
use Rattle.numbers.proofs.AllBytes.{joined_bytes}
use Rattle.primitives.specs.Step.{Step, ok, no, map_step}
use Rattle.primitives.specs.Stands.{Stands}
use Rattle.primitives.specs.Reading.{byte_at, code_at, full, limit, unzigzag, varint_at}
use Rattle.primitives.specs.Faults.{Cut, Hopeless, NumberWrong}
use Rattle.primitives.specs.Statements.{NumberFaults}
use Rattle.primitives.proofs.Steps.{ok_not_no, map_no}
use Rattle.primitives.proofs.Refusing.{RefusedBy, refused_by_lem, and_then_refused, map_refused, pick_refused}
use Rattle.primitives.proofs.Places.{byte, after}
use Rattle.primitives.proofs.Codes.{past_is, last_is, beyond_is, end_is, more_is}
use Rattle.primitives.proofs.Varints.{limit_some, varint_sound, varint_complete}

-- ---- refusals

other_number : {P A X : Type 0} {m n : ℕ} → ◌≡◌ {A = Step P A} (no m) (no n) → (m ≡ n → ⊥) → X
other_number {m = m} {n} e f = let w : m ≡ n = cc in absurd (f w)

-- ---- a code

-- inside the list, or past its end
by_place : (s : List ℕ) (at : ℕ) {X : Type 0} → (at < length s → X) → (length s ≤ at → X) → X
by_place s at inside past =
    elim (dec_lt at (length s)) [
      | yes h ↦ inside h
      | Dec.no g ↦ past (omega arith)
    ]

module _ (limit : ℕ) (s t : List ℕ) where
  same_byte : (at : ℕ) → at < length s → get_or (s ++ t) at 0 ≡ get_or s at 0
  same_byte at h = get_or-append s t 0 at h

  further : (at : ℕ) → at < length s → at < length (s ++ t)
  further at h = omega (arith, length-append s t)

  -- what is beyond the limits stays so, whatever comes after
  code_stays : (k at : ℕ) → code_at k limit s at ≡ no 9 → code_at k limit (s ++ t) at ≡ no 9
  code_stays zero at e =
      by_place s at
      (λ h.
      elim (dec_lt (get_or s at 0) limit) [
        | yes l ↦ ok_not_no (sym (last_is limit s at h l) ∙ e)
        | Dec.no g ↦ beyond_is limit (s ++ t) at (further at h) (rw (same_byte at h) (omega arith))
      ])
      (λ g. other_number (sym (past_is zero limit s at g) ∙ e) (λ w. omega arith))
  code_stays (suc k) at e =
      by_place s at
      (λ h.
      elim (dec_lt (get_or s at 0) 128) [
        | yes l ↦ ok_not_no (sym (end_is limit s at h k l) ∙ e)
        | Dec.no g ↦
            more_is limit (s ++ t) at (further at h) k (rw (same_byte at h) (omega arith))
            ∙ ap (map_step _) (code_stays k (at + 1) (map_no _ (code_at k limit s (at + 1)) (sym (more_is limit s at h k (omega arith)) ∙ e)))
      ])
      (λ g. other_number (sym (past_is (suc k) limit s at g) ∙ e) (λ w. omega arith))

  -- a code that ends past the list's end is cut off
  code_cut : (k at : ℕ) {q : ℕ} (more c : ℕ) → Stands (s ++ t) at q (groups more c) → more ≤ k → length s < q
      → code_at k limit s at ≡ no 8
  unfolding groups
  code_cut k at zero c x m l = by_place s at (λ h. absurd (omega (arith, x.end))) (past_is k limit s at)
  code_cut zero at (suc more) c x m l = absurd (omega arith)
  code_cut (suc k) at (suc more) c x m l =
      by_place s at
      (λ h.
      more_is limit s at h k (rw (← same_byte at h, byte x) (omega arith))
      ∙ ap (map_step (λ d. get_or s at 0 - 128 + 128 * d)) (code_cut k (at + 1) more (c / 128) (after x) (omega arith) l))
      (past_is (suc k) limit s at)

-- one that is cut off is one with a last byte of 0
module _ (limit : ℕ) (some : 0 < limit) (s : List ℕ) where
  abbrev longer : List ℕ
  longer = s ++ (0 ∷ [])

  zero_there : (at : ℕ) → at ≡ length s → get_or longer at 0 ≡ 0
  zero_there at e = rw e (get_or-append_seam s 0 [] 0)

  code_more : (k at : ℕ) → at ≤ length s → code_at k limit s at ≡ no 8 → (c : ℕ) × (code_at k limit longer at ≡ ok c (length s + 1))
  code_more zero at b e =
      by_place s at
      (λ h.
      elim (dec_lt (get_or s at 0) limit) [
        | yes l ↦ ok_not_no (sym (last_is limit s at h l) ∙ e)
        | Dec.no g ↦ other_number (sym (beyond_is limit s at h (omega arith)) ∙ e) (λ w. omega arith)
      ])
      (λ g.
      let z = zero_there at (omega arith) in
      let i : at + 1 ≡ length s + 1 = omega arith in
      (get_or longer at 0, last_is limit longer at (omega (arith, length-append s (0 ∷ []))) (rw z some) ∙ ap (ok (get_or longer at 0)) i))
  code_more (suc k) at b e =
      by_place s at
      (λ h.
      elim (dec_lt (get_or s at 0) 128) [
        | yes l ↦ ok_not_no (sym (end_is limit s at h k l) ∙ e)
        | Dec.no g ↦
            let f = map_no _ (code_at k limit s (at + 1)) (sym (more_is limit s at h k (omega arith)) ∙ e) in
            let (c, w) = code_more k (at + 1) (omega arith) f in (
              _,
              more_is limit longer at (further limit s (0 ∷ []) at h) k (rw (same_byte limit s (0 ∷ []) at h) (omega arith))
                  ∙ ap (map_step (λ d. get_or longer at 0 - 128 + 128 * d)) w,
            )
      ])
      (λ g.
      let z = zero_there at (omega arith) in
      let i : at + 1 ≡ length s + 1 = omega arith in
      (get_or longer at 0, end_is limit longer at (omega (arith, length-append s (0 ∷ []))) k (rw z (omega arith)) ∙ ap (ok (get_or longer at 0)) i))

-- ---- a number is refused by no number but these two

module _ (N : ℕ → Type 0) (eight : N 8) (nine : N 9) where
  byte_refused : (s : List ℕ) (p : ℕ) → RefusedBy N (byte_at s p)
  unfolding byte_at
  byte_refused s p = pick_refused N (ltb p (length s)) (ok _ _) (no 8) tt eight

  code_refused : (k limit : ℕ) (s : List ℕ) (p : ℕ) → RefusedBy N (code_at k limit s p)
  unfolding code_at
  code_refused zero limit s p =
      and_then_refused N (byte_at s p) _ (byte_refused s p) (λ b m. pick_refused N (ltb b limit) (ok b m) (no 9) tt nine)
  code_refused (suc k) limit s p =
      and_then_refused N (byte_at s p) _ (byte_refused s p)
      (λ b m. pick_refused N (ltb b 128) (ok b m) _ tt (map_refused N _ (code_at k limit s m) (code_refused k limit s m)))

  pub varint_refused : (w : ℕ) (s : List ℕ) (p : ℕ) → RefusedBy N (varint_at w s p)
  unfolding varint_at
  varint_refused w s p = map_refused N unzigzag (code_at (full w) (limit w) s p) (code_refused (full w) (limit w) s p)

abbrev numbers : ℕ → Type 0
numbers n = (n ≡ 8) ⊎ (n ≡ 9)

-- ---- a number

zero_bytes : (s : List ℕ) → Bytes s → Bytes (s ++ (0 ∷ []))
zero_bytes s b = joined_bytes s (0 ∷ []) b (λ i. elim i as (λ k. get_or (0 ∷ []) k 0 < 256) [ zero ↦ omega arith | suc j ↦ omega arith ])

module _ (w : ℕ) (h : 0 < w) (s : List ℕ) (p : ℕ) where
  number_stays : (t : List ℕ) → varint_at w s p ≡ no 9 → varint_at w (s ++ t) p ≡ no 9
  unfolding varint_at
  number_stays t e = ap (map_step unzigzag) (code_stays (limit w) s t (full w) p (map_no unzigzag (code_at (full w) (limit w) s p) e))

  number_hopeless : varint_at w s p ≡ no 9 → Hopeless (Varies w false) s p
  number_hopeless e t q z x =
      ok_not_no (sym (varint_complete w false (s ++ t) p q x.bytes z h x.stands x.encodes) ∙ number_stays t e)

  cut_refused : Cut (Varies w false) s p → varint_at w s p ≡ no 8
  unfolding varint_at
  cut_refused x =
      let g = x.stands.encodes in
      let y = subst (Stands (s ++ x.more) p x.end) g.is x.stands.stands in
      ap (map_step unzigzag) (code_cut (limit w) s x.more (full w) p g.more (zigzag x.value) y (omega (arith, g.short)) x.past)

  number_cut : Bytes s → p ≤ length s → varint_at w s p ≡ no 8 → Cut (Varies w false) s p
  unfolding varint_at
  number_cut b l e =
      let (c, is) = code_more (limit w) (limit_some w) s (full w) p l (map_no unzigzag (code_at (full w) (limit w) s p) e) in
      record {
        more = 0 ∷ [];
        end = length s + 1;
        value = unzigzag c;
        stands = varint_sound w (s ++ (0 ∷ [])) p (unzigzag c) (length s + 1) h (zero_bytes s b) (ap (map_step unzigzag) is);
        past = omega arith;
      }

  number_refused : RefusedBy numbers (varint_at w s p)
  number_refused = varint_refused numbers (inl refl) (inr refl) w s p

  -- what has no hope is refused so: it is not there, and the list does not end inside it
  hopeless_by : Bytes s → p ≤ length s → Hopeless (Varies w false) s p → (x : Step ℕ ℤ) → varint_at w s p ≡ x → RefusedBy numbers x → x ≡ no 9
  hopeless_by b l none (ok z q) e r =
      let t = varint_sound w s p z q h b e in
      absurd (none [] q z (rw append-nil t))
  hopeless_by b l none (no n) e (inl i) =
      let c = number_cut b l (e ∙ ap no i) in absurd (none c.more c.end c.value c.stands)
  hopeless_by b l none (no n) e (inr i) = ap no i

  hopeless_refused : Bytes s → p ≤ length s → Hopeless (Varies w false) s p → varint_at w s p ≡ no 9
  hopeless_refused b l none = hopeless_by b l none (varint_at w s p) refl number_refused

  by_number : Bytes s → p ≤ length s → (n : ℕ) → varint_at w s p ≡ no n → numbers n → NumberWrong w s p n
  by_number b l n e (inl i) = subst (NumberWrong w s p) (sym i) (NumberWrong.past (number_cut b l (e ∙ ap no i)))
  by_number b l n e (inr i) = subst (NumberWrong w s p) (sym i) (NumberWrong.beyond (number_hopeless (e ∙ ap no i)))

  number_is : Bytes s → p ≤ length s → {n : ℕ} → NumberWrong w s p n → varint_at w s p ≡ no n
  number_is b l (NumberWrong.past c) = cut_refused c
  number_is b l (NumberWrong.beyond none) = hopeless_refused b l none

pub number_faults : NumberFaults
number_faults w s p n h b l = (
  λ e. by_number w h s p b l n e (refused_by_lem numbers (number_refused w h s p) e),
  λ f. number_is w h s p b l f,
)

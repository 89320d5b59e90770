-- Numbers of one byte, and of more: how they are told apart, and what is put of them. Assumes nothing.
use Prim.Native.Nat.{ℕ, ◌+◌, ◌-◌, ◌*◌, ◌/◌, ◌≤◌, ◌<◌}
use mathlib.Core.Path.{◌≡◌, refl, sym, ap, ◌∙◌, subst}
use mathlib.Core.Bool.{Bool, true, false}
use mathlib.Core.List.{List, [], ◌∷◌}
use native.Mathlib.Omega.{arith}
use native.Mathlib.Decide.{dec_lt}
use native.Mathlib.Numerals.{add-one}
use borrow.Author.Tests.{ltb-true, ltb-false, lt-ltb, le-ltb}
use lib.Dec.{T, ltb}
use lib.IntN.{ℤ, pos, negsuc}
use lib.ListN.{length, take, drop, get_or, set, drop_of_length-le}
use lib.Seq.{drop-cons, get_or-take, length-take-le}
use lib.Signed.{lt_z}
use mir.Syntax.{w64}
use mir.Val.{SFits, to_z, of_z}
use mir.ValLaws.{to_z-of_z}
use Rattle.std.proofs.lemmas.Slice.{between_is}
use Rattle.numbers.specs.declared.Encoded.{Encoded}
use Rattle.numbers.specs.Answers.{in_ten}
use Rattle.numbers.specs.Format.{zigzag, shortest}
use Rattle.numbers.specs.Pen.{Pen, pen, emit}
use Rattle.numbers.proofs.Pens.{put_past, put_emits, emit_emit, emit_nothing}
use Rattle.numbers.proofs.Shortest.{fewest_last, fewest_more, fewest_groups, groups_length}
use Rattle.sizes.proofs.Lengths.{number_small}
use Rattle.writing.proofs.Pens.{encoded_inside, encoded_taken}

-- ---- the test

module _ (z : ℤ) (fits : SFits w64 z) where
  pub far_below : lt_z (to_z w64 (of_z w64 z)) (negsuc 63) ≡ true → false ≡ ltb (zigzag z) 128
  far_below t = go z (rw (to_z-of_z w64 z fits) at t)
    where
      go : (y : ℤ) → lt_z y (negsuc 63) ≡ true → false ≡ ltb (zigzag y) 128
      go (pos n) e = absurd (subst T (sym e) tt)
      go (negsuc k) e = sym (le-ltb (2 * k + 1) 128 (omega (arith, ltb-true 63 k e)))

  pub not_far_below : lt_z (to_z w64 (of_z w64 z)) (negsuc 63) ≡ false → lt_z (to_z w64 (of_z w64 z)) (pos 64) ≡ ltb (zigzag z) 128
  not_far_below t = rw (to_z-of_z w64 z fits) (go z (rw (to_z-of_z w64 z fits) at t))
    where
      go : (y : ℤ) → lt_z y (negsuc 63) ≡ false → lt_z y (pos 64) ≡ ltb (zigzag y) 128
      go (pos n) e =
          elim (dec_lt n 64) [
            | yes l ↦ lt-ltb n 64 l ∙ sym (lt-ltb (2 * n) 128 (omega arith))
            | no g ↦ le-ltb n 64 (omega arith) ∙ sym (le-ltb (2 * n) 128 (omega arith))
          ]
      go (negsuc k) e = sym (lt-ltb (2 * k + 1) 128 (omega (arith, ltb-false 63 k e)))

pub told_short : (c : ℕ) (t : Bool) → t ≡ ltb c 128 → t ≡ true → c < 128
told_short c t e f = ltb-true c 128 (sym e ∙ f)

pub told_long : (c : ℕ) (t : Bool) → t ≡ ltb c 128 → t ≡ false → 128 ≤ c
told_long c t e f = ltb-false c 128 (sym e ∙ f)

-- ---- a byte

module _ (b : ℕ) (out : List ℕ) (at : ℕ) where
  pub byte_past : length out ≤ at → pen (length out) out ≡ emit (b ∷ []) (pen at out)
  byte_past h = put_emits at out (b ∷ []) (length out) out (put_past (b ∷ []) out at h)

  pub byte_put : at < length out → pen (at + 1) (set out at b) ≡ emit (b ∷ []) (pen at out)
  byte_put h = put_emits at out (b ∷ []) (at + 1) (set out at b) (record { next = omega arith; output = refl })

-- ---- a number

-- what is passed on, y, is the number
module _ (y z : ℤ) (same : y ≡ z) (p q : Pen) where
  pub passed_put : q ≡ emit (shortest y) p → q ≡ emit (shortest z) p
  passed_put e = e ∙ ap (λ (n : ℤ). emit (shortest n) p) same

  pub short_put : (b : ℕ) → zigzag y < 128 → b ≡ zigzag y → q ≡ emit (b ∷ []) p → q ≡ emit (shortest z) p
  unfolding shortest
  short_put b h e f =
      passed_put (f ∙ ap (λ (x : ℕ). emit (x ∷ []) p) e ∙ ap (λ (bs : List ℕ). emit bs p) (sym (fewest_last 9 (zigzag y) h)))

-- the bytes in use are two at least, and ten at most
pub record Long (z : ℤ) (e : Encoded) : Type 0 where
  pub two : 2 ≤ e.len
  pub ten : e.len ≤ 10
  pub inside : e.len ≤ length e.bytes
  pub taken : take e.len e.bytes ≡ shortest z

long_size : (z : ℤ) → 128 ≤ zigzag z → 2 ≤ length (shortest z)
unfolding shortest
long_size z h =
    let f = fewest_groups 8 (zigzag z / 128) in
    rw (fewest_more 8 (zigzag z) h, f.is) (simp groups_length (omega arith))

pub long_is : (z : ℤ) (e : Encoded) → e ≡ in_ten (shortest z) → 128 ≤ zigzag z → Long z e
long_is z e is h =
    let size : e.len ≡ length (shortest z) = ap (λ (x : Encoded). x.len) is in
    record {
      two = omega (arith, long_size z h, size);
      ten = omega (arith, number_small z, size);
      inside = encoded_inside z e is;
      taken = encoded_taken z e is;
    }

-- one byte of several
pub long_turn : (bs : List ℕ) (i : ℕ) (p q : Pen) → i < length bs → q ≡ emit (get_or bs i 0 ∷ []) p → emit (drop (i + 1) bs) q ≡ emit (drop i bs) p
long_turn bs i p q h f =
    ap (emit (drop (i + 1) bs)) f ∙ emit_emit (get_or bs i 0 ∷ []) (drop (i + 1) bs) p
    ∙ ap (λ (l : List ℕ). emit l p) (rw (add-one i, drop-cons bs i 0 h) refl)

module _ (z : ℤ) (e : Encoded) (l : Long z e) (p₀ p₁ p₂ : Pen) (first : p₁ ≡ emit (get_or e.bytes 0 0 ∷ []) p₀)
    (second : p₂ ≡ emit (get_or e.bytes 1 0 ∷ []) p₁) where
  -- all of them, after the first two
  pub long_done : (bs : List ℕ) → bs ≡ take (e.len - 2) (drop 2 e.bytes) → (i at : ℕ) (out : List ℕ) → length bs ≤ i
      → emit (drop i bs) (pen at out) ≡ emit bs p₂ → pen at out ≡ emit (shortest z) p₀
  long_done bs is i at out h f =
      let used = take e.len e.bytes in
      let size : length used ≡ e.len = length-take-le e.len e.bytes l.inside in
      let two = l.two in
      let here : (j : ℕ) → j < 2 → get_or used j 0 ≡ get_or e.bytes j 0 = λ j g. get_or-take e.len e.bytes j 0 (omega arith) in
      let rest : drop 2 used ≡ bs = sym (between_is e.bytes 2 e.len) ∙ sym is in
      sym (ap (λ (xs : List ℕ). emit xs (pen at out)) (drop_of_length-le bs h) ∙ emit_nothing at out)
      ∙ f
      ∙ ap (λ (xs : List ℕ). emit xs p₂) (sym rest)
      ∙ long_turn used 1 p₁ p₂ (omega arith) (rw (here 1 (omega arith)) second)
      ∙ long_turn used 0 p₀ p₁ (omega arith) (rw (here 0 (omega arith)) first)
      ∙ ap (λ (xs : List ℕ). emit xs p₀) l.taken

-- What the methods that read an integer return, over the width: the number of the bytes there, by their sign. The
-- premises have the form in which a proof finds them. Assumes nothing.
use Rattle.std.proofs.Common.{◌≡◌, ℕ, zero, suc, ◌+◌, ◌-◌, ◌*◌, ◌^◌, ◌<◌, ◌≤◌, Bool, true, false, nat_le, List, length, take, drop, get_or, get_or-take, get_or-drop, take_all, length-drop, zero-add, ℤ, sym, refl, ap, ◌∙◌, arith, w8, w16, w32, w64, to_z, of_z, lt-ltb, le-ltb, le-leb}
use native.Mathlib.Decide.{dec_lt}
use borrow.Author.Tests.{lt-leb}
use lib.Signed.{mag}
use mir.Syntax.{Width, w128}
use mir.Val.{bytes, bits, hbits}
use mir.ValLaws.{to_z-of_z}
use Rattle.numbers.specs.Pick.{pick}
use Rattle.numbers.proofs.Widths.{sign_bit}
use Rattle.primitives.specs.Step.{ok, no, map_step}
use Rattle.primitives.specs.Reading.{big, unsigned_at, signed_by, integer_at}
use Rattle.primitives.specs.Words.{window_at}
use Rattle.primitives.proofs.Integers.{signed_low, signed_high}
use Rattle.primitives.proofs.Steps.{map_map}

-- ---- bytes that are there, or not

module _ (n : ℕ) (s : List ℕ) (at : ℕ) where
  pub window_there : (bs rest : List ℕ) → bs ≡ take n rest → rest ≡ take (length s - at) (drop at s) → at ≤ length s → n ≤ length rest
      → ok bs (at + n) ≡ window_at n s at
  unfolding window_at
  window_there bs rest e f h k =
      let all : rest ≡ drop at s = f ∙ take_all (length s - at) (drop at s) (omega (arith, length-drop at s)) in
      let l : at + n ≤ length s = omega (arith, k, ap (λ (xs : List ℕ). length xs) all, length-drop at s) in
      rw (le-leb (at + n) (length s) l, e, all)

  pub window_gone : length s < at + n → no 8 ≡ window_at n s at
  unfolding window_at
  window_gone h = rw (lt-leb (at + n) (length s) h)

-- ---- bytes and their number

-- a byte of the window is the list's
big_window : (k n : ℕ) (s : List ℕ) (at : ℕ) → k ≤ n → big k (take n (drop at s)) 0 ≡ big k s at
unfolding big
big_window zero n s at h = refl
big_window (suc k) n s at h =
    let e : get_or (take n (drop at s)) k 0 ≡ get_or s (at + k) 0 = get_or-take n (drop at s) k 0 (omega arith) ∙ get_or-drop at s k 0 in
    let z : get_or (take n (drop at s)) (0 + k) 0 ≡ get_or (take n (drop at s)) k 0 = ap (λ (i : ℕ). get_or (take n (drop at s)) i 0) (zero-add k) in
    omega (arith, z, e, big_window k n s at (omega arith))

map_pick : {P A B : Type 0} (t : Bool) (f : A → B) (a : A) (b : B) (p : P) (n : ℕ) → f a ≡ b
    → pick t (ok b p) (no n) ≡ map_step f (pick t (ok a p) (no n))
map_pick true f a b p n e = ap (λ x. ok x p) (sym e)
map_pick false f a b p n e = refl

pub unsigned_window : (n : ℕ) (s : List ℕ) (at : ℕ) → unsigned_at n s at ≡ map_step (λ bs. big n bs 0) (window_at n s at)
unfolding unsigned_at window_at
unsigned_window n s at =
    map_pick (nat_le (at + n) (length s)) (λ bs. big n bs 0) (take n (drop at s)) (big n s at) (at + n) 8 (big_window n n s at (omega arith))

pub integer_window : (n : ℕ) (s : List ℕ) (at : ℕ)
    → integer_at n s at ≡ map_step (λ bs. signed_by (2 ^ (8 * n - 1)) (big n bs 0)) (window_at n s at)
unfolding integer_at
integer_window n s at =
    ap (map_step (signed_by (2 ^ (8 * n - 1)))) (unsigned_window n s at)
    ∙ map_map (signed_by (2 ^ (8 * n - 1))) (λ bs. big n bs 0) (window_at n s at)

-- ---- the sign of a type is that of its width

pub twice_half : (w : Width) → 2 ^ bits w ≡ 2 * 2 ^ hbits w
twice_half w8 = refl
twice_half w16 = refl
twice_half w32 = refl
twice_half w64 = refl
twice_half w128 = refl

pub signed_is : (w : Width) (v : ℕ) → to_z w v ≡ signed_by (2 ^ (8 * bytes w - 1)) v
signed_is w v =
    rw sign_bit
    (elim (dec_lt v (2 ^ hbits w)) [
      | yes l ↦ rw (lt-ltb v (2 ^ hbits w) l, signed_low (2 ^ hbits w) v l)
      | Dec.no g ↦ rw (le-ltb v (2 ^ hbits w) (omega arith), signed_high (2 ^ hbits w) v (omega arith), twice_half w)
    ])

module _ (w : Width) (s : List ℕ) (at : ℕ) (bs : List ℕ) (q : ℕ) (e : ok bs q ≡ window_at (bytes w) s at) where
  pub unsigned_got : (v : ℕ) → v ≡ big (bytes w) bs 0 → ok v q ≡ unsigned_at (bytes w) s at
  unsigned_got v f = rw (unsigned_window, ← e, f)

  pub integer_got : (z : ℤ) → mag z < 2 ^ hbits w → (v : ℕ) → z ≡ to_z w v → v ≡ big (bytes w) bs 0
      → ok (to_z w (of_z w z)) q ≡ integer_at (bytes w) s at
  integer_got z fits v f g =
      rw (integer_window, ← e)
      (ap (λ (x : ℤ). ok x q) (to_z-of_z w z (record { sfits = fits }) ∙ f ∙ signed_is w v ∙ ap (signed_by (2 ^ (8 * bytes w - 1))) g))

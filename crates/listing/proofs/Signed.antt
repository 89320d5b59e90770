-- A signed number in a line: a minus where it is negative, and the digits of its size. The premises have the form in
-- which a proof finds them. Assumes nothing.
use Prim.Native.Nat.{ℕ}
use mathlib.Core.Path.{◌≡◌, sym, ap, subst, ◌∙◌}
use mathlib.Core.Bool.{true, false}
use mathlib.Core.List.{[], ◌∷◌, ◌++◌}
use native.Mathlib.Numerals.{add-one}
use native.Mathlib.Omega.{arith}
use borrow.Author.Tests.{ltb-true}
use lib.Dec.{T}
use lib.IntN.{ℤ, pos, negsuc, nat_abs}
use lib.Signed.{lt_z}
use mir.Syntax.{w64}
use mir.Val.{SFits, to_z, of_z}
use mir.ValLaws.{to_z-of_z}
use Rattle.listing.specs.declared.Line.{Line}
use Rattle.listing.specs.Text.{spaced, decimal, signed_decimal}
use Rattle.listing.specs.Writing.{pushed, written}
use Rattle.listing.proofs.Lines.{onto_byte}

module _ (l : Line) (n : ℤ) (fits : SFits w64 n) (m : ℕ) (size : m ≡ nat_abs (to_z w64 (of_z w64 n))) (l' r : Line)
    (w : r ≡ written l' (decimal m ++ (32 ∷ []))) where
  sized : m ≡ nat_abs n
  sized = size ∙ ap nat_abs (to_z-of_z w64 n fits)

  pub with_minus : lt_z (to_z w64 (of_z w64 n)) (pos 0) ≡ true → l' ≡ pushed l 45 → r ≡ written l (spaced (signed_decimal n))
  with_minus t e = go n sized (rw (to_z-of_z w64 n fits) at t)
    where
      go : (x : ℤ) → (m ≡ nat_abs x) → lt_z x (pos 0) ≡ true → r ≡ written l (spaced (signed_decimal x))
      go (pos k) s t = absurd (omega (arith, ltb-true k 0 t))
      go (negsuc k) s t = onto_byte _ _ _ e w ∙ ap (λ (m : ℕ). written l (45 ∷ (decimal m ++ (32 ∷ [])))) (s ∙ sym (add-one k))

  pub without : lt_z (to_z w64 (of_z w64 n)) (pos 0) ≡ false → l' ≡ l → r ≡ written l (spaced (signed_decimal n))
  without t e = go n sized (rw (to_z-of_z w64 n fits) at t)
    where
      go : (x : ℤ) → (m ≡ nat_abs x) → lt_z x (pos 0) ≡ false → r ≡ written l (spaced (signed_decimal x))
      go (pos k) s t = w ∙ (λ i. written (e i) (decimal (s i) ++ (32 ∷ [])))
      go (negsuc k) s t = absurd (subst T t tt)

-- Tests of signed numbers: what the machine compares are their bits. Assumes nothing.
use Prim.Native.Nat.{ℕ, ◌<◌, ◌^◌}
use mathlib.Core.Path.{◌≡◌, refl, sym, ap, ◌∙◌}
use mathlib.Core.Bool.{false}
use borrow.Author.Tests.{ne_eqb}
use lib.IntN.{ℤ, pos, negsuc}
use mir.Syntax.{Width}
use mir.Val.{SFits, to_z, of_z, hbits}
use mir.ValLaws.{to_z_pos, to_z-of_z}
use Rattle.opening.specs.Judgement.{is}

is_other : (n : ℕ) (z : ℤ) → (z ≡ pos n → ⊥) → is n z ≡ false
is_other n (pos m) h = ne_eqb m n (λ e. h (ap pos e))
is_other n (negsuc k) h = refl

module _ (w : Width) (n : ℕ) (z : ℤ) where
  pub bits_number : n < 2 ^ hbits w → SFits w z → of_z w z ≡ n → z ≡ pos n
  bits_number h f e = sym (to_z-of_z w z f) ∙ ap (to_z w) e ∙ to_z_pos w n h

  pub bits_other : (of_z w z ≡ n → ⊥) → is n z ≡ false
  bits_other h = is_other n z (λ e. h (ap (of_z w) e))

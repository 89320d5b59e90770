-- Numbers as the machine tests them, and the mode by its number. Assumes nothing.
use Prim.Native.Nat.{ℕ, suc, ◌-◌, ◌<◌, ◌^◌}
use mathlib.Core.Path.{◌≡◌, refl, sym, ◌∙◌}
use mathlib.Core.Bool.{true}
use native.Mathlib.Omega.{arith}
use borrow.Author.Tests.{eq-eqb, ne_eqb}
use lib.Dec.{eqb}
use lib.IntN.{ℤ, pos, negsuc}
use mir.Syntax.{w64}
use mir.Val.{SFits, of_z}
use Rattle.layout.specs.declared.ControlMode.{ControlMode}
use Rattle.opening.specs.Judgement.{is}
use Rattle.oddrafisk.specs.Entries.{mode_of}

-- ---- the mode

pub mode_keyed : (n : ℕ) → n ≡ 1 → ControlMode.Keyed ≡ mode_of n
mode_keyed n e = rw (eq-eqb n 1 e) refl

pub mode_bare : (n : ℕ) → (n ≡ 1 → ⊥) → ControlMode.Bare ≡ mode_of n
mode_bare n e = rw (ne_eqb n 1 e) refl

-- ---- which number

module _ (z : ℤ) (fits : SFits w64 z) where
  -- as a small number of its bits
  pub bits_test : (m : ℕ) → m < 2 ^ 63 → eqb (of_z w64 z) m ≡ is m z
  bits_test m h = go z fits
    where
      go : (y : ℤ) → SFits w64 y → eqb (of_z w64 y) m ≡ is m y
      go (pos n) f = refl
      go (negsuc j) f = ne_eqb (2 ^ 64 - suc j) m (λ e. omega (arith, f.sfits, e))

  pub is_so : (m : ℕ) → m < 2 ^ 63 → of_z w64 z ≡ m → is m z ≡ true
  is_so m h e = sym (bits_test m h) ∙ eq-eqb (of_z w64 z) m e

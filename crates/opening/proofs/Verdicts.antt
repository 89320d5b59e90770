-- More bytes, a refusal and an acceptance are told apart, and what is accepted is known. Assumes nothing.
use Prim.Native.Nat.{ℕ}
use mathlib.Core.Path.{◌≡◌}
use native.Mathlib.Omega.{arith}
use Rattle.opening.specs.Judgement.{Judged, more, refused, accepted}

module _ {A X : Type 0} where
  pub more_not_accepted : {n : ℕ} {a : A} → more n ≡ accepted a → X
  more_not_accepted e = let z : ◌≡◌ {A = ℕ} 0 1 = cc in absurd (omega arith)

  pub refused_not_accepted : {n : ℕ} {a : A} → refused n ≡ accepted a → X
  refused_not_accepted e = let z : ◌≡◌ {A = ℕ} 0 1 = cc in absurd (omega arith)

  pub more_not_refused : {m n : ℕ} → ◌≡◌ {A = Judged A} (more m) (refused n) → X
  more_not_refused e = let z : ◌≡◌ {A = ℕ} 0 1 = cc in absurd (omega arith)

pub same_accepted : {A : Type 0} {a b : A} → accepted a ≡ accepted b → a ≡ b
same_accepted e = cc

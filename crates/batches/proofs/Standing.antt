-- What the numbers of refusals that stand are not. Assumes nothing.
use Prim.Native.Nat.{ℕ, ◌≤◌}
use mathlib.Core.Path.{◌≡◌}
use mathlib.Core.Logic.{inl, inr}
use native.Mathlib.Omega.{arith}
use Rattle.batches.specs.Answers.{Standing}

pub standing_apart : {n : ℕ} → Standing n → (2 ≤ n) × (n ≡ 14 → ⊥)
standing_apart (inl (l, h)) = (l, λ e. omega arith)
standing_apart (inr i) = (omega arith, λ e. omega arith)

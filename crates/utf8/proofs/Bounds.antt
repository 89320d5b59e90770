-- A number lies up to a bound or beyond it. Assumes nothing.
use Prim.Native.Nat.{ℕ, ◌≤◌, ◌<◌}
use native.Mathlib.Decide.{dec_le}
use native.Mathlib.Omega.{arith}

pub up_to : {A : Type 0} (n a : ℕ) → (a ≤ n → A) → (n < a → A) → A
up_to n a f g = elim (dec_le a n) [ yes h ↦ f h | no h ↦ g (omega arith) ]

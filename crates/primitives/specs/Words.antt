-- Words of private contracts: none of them stands in a promise.
use Rattle.std.specs.Prelude.{ℕ, ◌+◌, ◌*◌, ◌^◌, ◌<◌, ◌≤◌, List, length, take, drop, nat_le}
use Rattle.numbers.specs.Pick.{pick}
use Rattle.primitives.specs.Step.{Step, ok, no}

-- n bytes from a place on
unfoldable pub window_at : ℕ → List ℕ → ℕ → Step ℕ (List ℕ)
window_at n s at = pick (nat_le (at + n) (length s)) (ok (take n (drop at s)) (at + n)) (no 8)

-- what the private functions may count on: a code that fits 64 bits
pub record Holds (full limit : ℕ) : Type 0 where
  pub some : 1 < limit
  pub fits : 128 ^ full * limit ≤ 2 ^ 64

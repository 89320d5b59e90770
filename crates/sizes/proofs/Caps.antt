-- A size that stops at the limit in one of its parts is the whole size stopped there. Assumes nothing.
use Prim.Native.Nat.{ℕ, ◌<◌}
use mathlib.Core.Path.{◌≡◌, refl}
use native.Mathlib.Omega.{arith}
use native.Mathlib.Decide.{dec_lt}
use Rattle.sizes.specs.Sizes.{span_size, cap, capped}

pub capped_span : (m : ℕ) → capped (span_size (capped m)) ≡ capped (span_size m)
unfolding span_size
capped_span m = go (dec_lt m cap)
  where
    go : Dec (m < cap) → capped (span_size (capped m)) ≡ capped (span_size m)
    go (yes l) = let e : capped m ≡ m = omega arith in rw e refl
    go (Dec.no g) = let e : capped m ≡ cap = omega arith in omega arith

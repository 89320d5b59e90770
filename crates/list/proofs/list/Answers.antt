-- `list::list` meets its contract: it is safe, and it ends since each turn but the last goes further on. Assumes
-- nothing.
use mathlib.Core.Path.{◌≡◌, refl, sym, subst}
use native.Mathlib.Omega.{arith}
use Rattle.std.specs.Prelude.{ℕ, suc, ◌-◌, ◌<◌, ◌≤◌, List, length, Some, None}
use Rattle.std.specs.Prelude as std
use Rattle.listing.proofs.Listed.{forward}
use Rattle.list.proofs.list.Invariants.{left}
use Rattle.list.proofs.list.Goals as goal

fewer : (s : List ℕ) (place : ℕ) (now next : std.Option ℕ) → now ≡ Some place → ((n : ℕ) → next ≡ Some n → (place < n) × (n ≤ length s))
    → left s next < left s now
fewer s place now next is further = subst (λ (o : std.Option ℕ). left s next < left s o) (sym is) (go next further)
  where
    go : (next : std.Option ℕ) → ((n : ℕ) → next ≡ Some n → (place < n) × (n ≤ length s)) → left s next < suc (length s - place)
    go None h = omega arith
    go (Some n) h = let (a, b) = h n refl in omega arith

pub loop-next-smaller : goal.loop-next-smaller
loop-next-smaller g c = fewer c.args.bytes.now _ _ _ c.in-Some.is (λ n e. forward _ _ _ _ n c.list_at-entry.ensures e)

-- By which numbers steps are refused: what is made of steps is refused by the number of one of them. Assumes nothing.
use Rattle.std.proofs.Common.{◌≡◌, ℕ, zero, suc, Bool, true, false, subst}
use Rattle.numbers.specs.Pick.{pick}
use Rattle.primitives.specs.Step.{Step, ok, no, and_then, map_step, times}

module _ (N : ℕ → Type 0) where
  -- a refusal is by a number of which N holds
  abbrev pub RefusedBy : {P A : Type 0} → Step P A → Type 0
  RefusedBy (ok a p) = Unit {0}
  RefusedBy (no n) = N n

  pub refused_by_lem : {P A : Type 0} {x : Step P A} {n : ℕ} → RefusedBy x → x ≡ no n → N n
  refused_by_lem w e = subst RefusedBy e w

  module _ {P A B : Type 0} where
    pub and_then_refused : (x : Step P A) (f : A → P → Step P B) → RefusedBy x → ((a : A) (p : P) → RefusedBy (f a p))
        → RefusedBy (and_then x f)
    and_then_refused (ok a p) f w each = each a p
    and_then_refused (no n) f w each = w

    pub map_refused : (f : A → B) (x : Step P A) → RefusedBy x → RefusedBy (map_step f x)
    map_refused f (ok a p) w = tt
    map_refused f (no n) w = w

  module _ {P A : Type 0} where
    pub pick_refused : (t : Bool) (x y : Step P A) → RefusedBy x → RefusedBy y → RefusedBy (pick t x y)
    pick_refused true x y v w = v
    pick_refused false x y v w = w

    pub times_refused : (f : P → Step P A) → ((p : P) → RefusedBy (f p)) → (k : ℕ) (p : P) → RefusedBy (times f k p)
    unfolding times
    times_refused f each zero p = tt
    times_refused f each (suc k) p =
        and_then_refused (f p) _ (each p) (λ a m. map_refused _ (times f k m) (times_refused f each k m))

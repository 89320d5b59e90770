-- Something in front of the bytes: what reading then gives.
use Rattle.std.specs.Prelude.{◌≡◌, ℕ, ◌+◌, List, ◌++◌, length}
use Rattle.std.proofs.Math.Option.{Option, none, some}
use Rattle.primitives.specs.Step.{Step, ok, no}
use Rattle.primitives.specs.Reading.{Span}

-- k bytes in front move a start by k; null has none
abbrev pub moved_span : ℕ → Span → Span
moved_span k x = record { start = k + x.start; len = x.len }

abbrev pub moved_nullable : ℕ → Option Span → Option Span
moved_nullable k none = none
moved_nullable k (some x) = some (moved_span k x)

-- a number has no start
abbrev pub same : {A : Type 0} → ℕ → A → A
same k a = a

-- the same answer with its places moved; a refusal has none
abbrev pub moved_step : {A : Type 0} → (A → A) → ℕ → Step ℕ A → Step ℕ A
moved_step move k (ok a p) = ok (move a) (k + p)
moved_step move k (no n) = no n

-- A list with something in front, read that much further on, gives the same answer with its places moved, where `move`
-- is what becomes of the value.
abbrev pub Shifted : {A : Type 0} → (ℕ → A → A) → (List ℕ → ℕ → Step ℕ A) → Type 0
Shifted move f =
    (front s : List ℕ) (p : ℕ) → f (front ++ s) (length front + p) ≡ moved_step (move (length front)) (length front) (f s p)

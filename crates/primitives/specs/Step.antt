-- What reading at a place gives: a value with the place after it, or the number of document 01 by which it is refused.
-- A place is a number of bytes in reading, and may be anything that can be gone on from.
use Rattle.std.specs.Prelude.{ℕ, zero, suc, List, [], ◌∷◌}

pub data Step (P A : Type 0) : Type 0 where
  ok : A → P → Step P A
  no : ℕ → Step P A

-- one thing and then the next, from the place after the first; the first refusal is the answer
abbrev pub and_then : {P A B : Type 0} → Step P A → (A → P → Step P B) → Step P B
and_then (ok a p) next = next a p
and_then (no n) next = no n

-- the same step, its value put in another form
abbrev pub map_step : {P A B : Type 0} → (A → B) → Step P A → Step P B
map_step f (ok a p) = ok (f a) p
map_step f (no n) = no n

-- k things of one kind, one after the other
unfoldable pub times : {P A : Type 0} → (P → Step P A) → ℕ → P → Step P (List A)
times f zero at = ok [] at
times f (suc k) at = and_then (f at) (λ a p. map_step (λ rest. a ∷ rest) (times f k p))

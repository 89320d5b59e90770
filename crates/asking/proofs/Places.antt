-- What numbers of a row ask for is the same at another place. Assumes nothing.
use Prim.Native.Nat.{ℕ, zero, suc, ◌+◌}
use mathlib.Core.Path.{◌≡◌, refl}
use mathlib.Core.Bool.{Bool, true, false}
use mathlib.Core.Option.{none, some}
use lib.Dec.{eqb, leb}
use lib.IntN.{ℤ, pos, negsuc}
use Rattle.numbers.specs.Pick.{pick}
use Rattle.primitives.specs.Step.{Step, ok, no, map_step}
use Rattle.primitives.specs.Reading.{Span}
use Rattle.asking.specs.Asked.{asked_bytes, asked_nullable, asked_count}

abbrev pub placed : {A : Type 0} → ℕ → Step ℕ A → Step ℕ A
placed p (ok a q) = ok a p
placed p (no n) = no n

place_picked : {A : Type 0} (b : Bool) (a : A) (p : ℕ) → pick b (ok a p) (no 21) ≡ placed p (pick b (ok a 0) (no 21))
place_picked true a p = refl
place_picked false a p = refl

pub bytes_placed : (size : ℕ) (a n : ℤ) (p : ℕ) → asked_bytes size a n p ≡ placed p (asked_bytes size a n 0)
bytes_placed size (pos a) (pos n) p = place_picked (leb (a + n) size) (record { start = a; len = n }) p
bytes_placed size (pos a) (negsuc k) p = refl
bytes_placed size (negsuc k) n p = refl

pub nullable_placed : (size : ℕ) (a n : ℤ) (p : ℕ) → asked_nullable size a n p ≡ placed p (asked_nullable size a n 0)
nullable_placed size (pos a) (pos n) p = go (leb (a + n) size)
  where
    x : Span
    x = record { start = a; len = n }

    go : (b : Bool) → map_step some (pick b (ok x p) (no 21)) ≡ placed p (map_step some (pick b (ok x 0) (no 21)))
    go true = refl
    go false = refl
nullable_placed size (pos a) (negsuc zero) p = place_picked (eqb a 0) none p
nullable_placed size (pos a) (negsuc (suc k)) p = refl
nullable_placed size (negsuc k) n p = refl

pub count_placed : (rows first : ℕ) (a n : ℤ) (p : ℕ) → asked_count rows first a n p ≡ placed p (asked_count rows first a n 0)
count_placed rows first (pos a) (pos n) p = go (eqb a first)
  where
    go : (b : Bool) → pick b (pick (leb (first + n) rows) (ok n p) (no 21)) (no 21)
        ≡ placed p (pick b (pick (leb (first + n) rows) (ok n 0) (no 21)) (no 21))
    go true = place_picked (leb (first + n) rows) n p
    go false = refl
count_placed rows first (pos a) (negsuc k) p = refl
count_placed rows first (negsuc k) n p = refl

-- A rule of a list's entries, proved at all of them by one test that is computed, entry after entry. Assumes nothing.
use Prim.Native.Nat.{ℕ, zero, suc, ◌+◌, ◌<◌}
use native.Mathlib.Nat.{add-zero, zero-add, add-suc, suc-add, le_of_suc-le-suc, not-suc-le-zero}
use mathlib.Core.Path.{◌∙◌, subst, sym}
use mathlib.Core.Bool.{Bool, true, false}
use mathlib.Core.List.{List, [], ◌∷◌}
use lib.Dec.{T}
use lib.ListN.{length, get_or}

abbrev pub both : Bool → Bool → Bool
both true b = b
both false b = false

both_first : (a b : Bool) → T (both a b) → T a
both_first true b t = tt
both_first false b t = t

both_second : (a b : Bool) → T (both a b) → T b
both_second true b t = t
both_second false b t = absurd t

-- the test passes at each entry and its place, counted from i
abbrev pub every : (ℕ → ℕ → Bool) → ℕ → List ℕ → Bool
every test i [] = true
every test i (x ∷ xs) = both (test i x) (every test (suc i) xs)

passed_from : (test : ℕ → ℕ → Bool) (xs : List ℕ) (i : ℕ) → T (every test i xs) → (k : ℕ) → k < length xs → T (test (i + k) (get_or xs k 0))
passed_from test [] i t k h = absurd (not-suc-le-zero h)
passed_from test (x ∷ xs) i t zero h =
    subst (λ (m : ℕ). T (test m x)) (sym (add-zero i)) (both_first (test i x) (every test (suc i) xs) t)
passed_from test (x ∷ xs) i t (suc k) h =
    subst (λ (m : ℕ). T (test m (get_or xs k 0))) (suc-add i k ∙ sym (add-suc i k))
    (passed_from test xs (suc i) (both_second (test i x) (every test (suc i) xs) t) k (le_of_suc-le-suc h))

pub passed : (test : ℕ → ℕ → Bool) (xs : List ℕ) → T (every test 0 xs) → (k : ℕ) → k < length xs → T (test k (get_or xs k 0))
passed test xs t k h = subst (λ (m : ℕ). T (test m (get_or xs k 0))) (zero-add k) (passed_from test xs 0 t k h)

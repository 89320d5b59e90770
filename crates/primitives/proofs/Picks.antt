-- Steps that a test picks: by cases on the test. Assumes nothing.
use Rattle.std.proofs.Common.{◌≡◌, ℕ, Bool, true, false, ◌⊎◌, sym, refl, inl, inr}
use Rattle.numbers.specs.Pick.{pick}
use Rattle.primitives.specs.Step.{Step, ok, no, and_then}
use Rattle.primitives.proofs.Steps.{ok_not_no}

-- ---- which way a test went

pub picked : {P A : Type 0} (t : Bool) (x : Step P A) (n : ℕ) {a : A} {p : P} → pick t x (no n) ≡ ok a p → (t ≡ true) × (x ≡ ok a p)
picked true x n e = (refl, e)
picked false x n e = ok_not_no (sym e)

pub passed_over : {P A : Type 0} (t : Bool) (x : Step P A) (n : ℕ) {a : A} {p : P} → pick t (no n) x ≡ ok a p → (t ≡ false) × (x ≡ ok a p)
passed_over true x n e = ok_not_no (sym e)
passed_over false x n e = (refl, e)

pub pick_no : {P A : Type 0} (t : Bool) (a : A) (p : P) (m : ℕ) {n : ℕ} → pick t (ok a p) (no m) ≡ no n → (t ≡ false) × (m ≡ n)
pick_no true a p m e = ok_not_no e
pick_no false a p m e = (refl, cc)

-- a refusal is that of what is picked, or of the test
pub pick_either : {P A : Type 0} (t : Bool) (x : Step P A) (m : ℕ) {n : ℕ} → pick t x (no m) ≡ no n
    → ((t ≡ true) × (x ≡ no n)) ⊎ ((t ≡ false) × (m ≡ n))
pick_either true x m e = inl (refl, e)
pick_either false x m e = inr (refl, cc)

-- ---- what follows

pub and_then_pick : {P A B : Type 0} (t : Bool) (x y : Step P A) (f : A → P → Step P B)
    → and_then (pick t x y) f ≡ pick t (and_then x f) (and_then y f)
and_then_pick true x y f = refl
and_then_pick false x y f = refl

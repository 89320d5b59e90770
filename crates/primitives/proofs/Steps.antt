-- What a step came from, and how a counted loop turns: by cases on the step and on the count. Assumes nothing.
use Rattle.std.proofs.Common.{◌≡◌, ℕ, zero, suc, ◌-◌, ◌<◌, Bool, true, false, ◌⊎◌, List, [], ◌∷◌, ◌++◌, length, take, sym, refl, ap, ◌∙◌, subst, inl, inr, arith}
use Rattle.numbers.specs.Pick.{pick}
use Rattle.primitives.specs.Step.{Step, ok, no, and_then, map_step, times}

-- ---- what a step came from

pub ok_not_no : {P A X : Type 0} {a : A} {p : P} {n : ℕ} → ok a p ≡ no n → X
ok_not_no e = let z : ◌≡◌ {A = ℕ} 0 1 = cc in absurd (omega arith)

module _ {P A B : Type 0} where
  pub and_then_ok : (x : Step P A) (f : A → P → Step P B) {b : B} {q : P} → and_then x f ≡ ok b q
      → (a : A) × (p : P) × (x ≡ ok a p) × (f a p ≡ ok b q)
  and_then_ok (ok a p) f e = (a, p, refl, e)
  and_then_ok (no n) f e = ok_not_no (sym e)

  -- a refusal is that of the one or of the other
  pub and_then_no : (x : Step P A) (f : A → P → Step P B) {n : ℕ} → and_then x f ≡ no n
      → (x ≡ no n) ⊎ ((a : A) × (p : P) × (x ≡ ok a p) × (f a p ≡ no n))
  and_then_no (ok a p) f e = inr (a, p, refl, e)
  and_then_no (no m) f {n} e = let w : m ≡ n = cc in inl (ap no w)

  pub map_ok : (f : A → B) (x : Step P A) {b : B} {q : P} → map_step f x ≡ ok b q → (a : A) × (x ≡ ok a q) × (f a ≡ b)
  map_ok f (ok a p) {b} {q} e = let w : p ≡ q = cc in (a, ap (ok a) w, cc)
  map_ok f (no n) e = ok_not_no (sym e)

  pub map_no : (f : A → B) (x : Step P A) {n : ℕ} → map_step f x ≡ no n → x ≡ no n
  map_no f (ok a p) e = ok_not_no e
  map_no f (no m) {n} e = let w : m ≡ n = cc in ap no w

pub pick_ok : {P A : Type 0} (t : Bool) (a : A) (p : P) (m : ℕ) {b : A} {q : P} → pick t (ok a p) (no m) ≡ ok b q
    → (t ≡ true) × (a ≡ b) × (p ≡ q)
pick_ok true a p m e = (refl, cc, cc)
pick_ok false a p m e = ok_not_no (sym e)

-- ---- steps of steps

pub and_then_and_then : {P A B C : Type 0} (x : Step P A) (f : A → P → Step P B) (g : B → P → Step P C)
    → and_then (and_then x f) g ≡ and_then x (λ a p. and_then (f a p) g)
and_then_and_then (ok a p) f g = refl
and_then_and_then (no n) f g = refl

pub map_and_then : {P A B C : Type 0} (h : A → B) (x : Step P A) (g : B → P → Step P C)
    → and_then (map_step h x) g ≡ and_then x (λ a p. g (h a) p)
map_and_then h (ok a p) g = refl
map_and_then h (no n) g = refl

pub map_map : {P A B C : Type 0} (g : B → C) (f : A → B) (x : Step P A) → map_step g (map_step f x) ≡ map_step (λ a. g (f a)) x
map_map g f (ok a p) = refl
map_map g f (no n) = refl

-- ---- things one after the other

module _ {P A : Type 0} (f : P → Step P A) where
  -- one more is the first and then the others
  pub times_first : (k : ℕ) (p : P) {xs : List A} {q : P} → times f (suc k) p ≡ ok xs q
      → (a : A) × (m : P) × (rest : List A) × (f p ≡ ok a m) × (times f k m ≡ ok rest q) × (a ∷ rest ≡ xs)
  unfolding times
  times_first k p e =
      let (a, m, is, e') = and_then_ok (f p) (λ a m. map_step (λ rest. a ∷ rest) (times f k m)) e in
      let (rest, others, w) = map_ok (λ rest. a ∷ rest) (times f k m) e' in
      (a, m, rest, is, others, w)

  pub times_onto : (k : ℕ) (p : P) {a : A} {m : P} {rest : List A} {q : P} → f p ≡ ok a m → times f k m ≡ ok rest q
      → times f (suc k) p ≡ ok (a ∷ rest) q
  unfolding times
  times_onto k p is others = rw (is, others)

-- what holds of none, and of one more in front of others, holds of all
module _ {P A : Type 0} (f : P → Step P A) (Holds : P → List A → P → Type 0) (none_left : (p : P) → Holds p [] p)
    (one_more : (p : P) (a : A) (m : P) (rest : List A) (q : P) → f p ≡ ok a m → Holds m rest q → Holds p (a ∷ rest) q) where
  pub times_each : (k : ℕ) (p : P) {xs : List A} {q : P} → times f k p ≡ ok xs q → Holds p xs q
  unfolding times
  times_each zero p {xs} {q} e =
      let v : [] ≡ xs = cc in
      let w : p ≡ q = cc in
      rw (← v, ← w) (none_left p)
  times_each (suc k) p {q = q} e =
      let (a, m, rest, was, others, w) = times_first f k p e in
      subst (λ xs. Holds p xs q) w (one_more p a m rest q was (times_each k m others))

-- the n-th of them is read from the place to which the n before it lead
module _ {P A : Type 0} (f : P → Step P A) where
  abbrev pub Nth : ℕ → P → List A → Type 0
  Nth n p xs =
      (at : P) × (a : A) × (next : P) × (after : List A)
      × (times f n p ≡ ok (take n xs) at) × (f at ≡ ok a next) × (xs ≡ take n xs ++ (a ∷ after))

  pub times_nth : (k : ℕ) (p : P) {xs : List A} {q : P} (n : ℕ) → times f k p ≡ ok xs q → n < k → Nth n p xs
  unfolding times
  times_nth zero p n e h = absurd (omega arith)
  times_nth (suc k) p zero e h =
      let (a, next, rest, is, _, w) = times_first f k p e in
      subst (Nth zero p) w (p, a, next, rest, refl, is, refl)
  times_nth (suc k) p (suc n) e h =
      let (b, m, rest, is, others, w) = times_first f k p e in
      let (at, a, next, after, before, reads, split) = times_nth k m n others (omega arith) in
      subst (Nth (suc n) p) w (at, a, next, after, times_onto f n p is before, reads, ap (λ (l : List A). b ∷ l) split)

-- ---- a counted loop; g puts what is still to come onto what the loop has

module _ {P A : Type 0} (f : P → Step P A) where
  module _ {B : Type 0} (g : List A → B) where
    pub times_again : (k : ℕ) (at : P) {a : A} {p : P} → 0 < k → f at ≡ ok a p
        → map_step g (times f k at) ≡ map_step (λ rest. g (a ∷ rest)) (times f (k - 1) p)
    unfolding times
    times_again zero at h e = absurd (omega arith)
    times_again (suc k) at h e = let d : suc k - 1 ≡ k = omega arith in rw (d, e, map_map)

    pub times_stop : (k : ℕ) (at : P) {n : ℕ} → 0 < k → f at ≡ no n → map_step g (times f k at) ≡ no n
    unfolding times
    times_stop zero at h e = absurd (omega arith)
    times_stop (suc k) at h e = rw e

    pub times_done : (k : ℕ) (at : P) → k ≡ 0 → map_step g (times f k at) ≡ ok (g []) at
    unfolding times
    times_done k at e = rw e

  pub times_count : (k : ℕ) (at : P) {xs : List A} {p : P} → times f k at ≡ ok xs p → length xs ≡ k
  unfolding times
  times_count zero at {xs} e = let w : [] ≡ xs = cc in ap length (sym w)
  times_count (suc k) at e =
      let (_, p, _, _, others, w) = times_first f k at e in
      ap length (sym w) ∙ ap suc (times_count k p others)

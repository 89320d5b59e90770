-- The first fault of things one after the other is the reading's first refusal: what is right is read and what is read
-- is right, so both get to the same place. Assumes nothing.
use Prim.Native.Nat.{ℕ, zero, suc, ◌+◌, ◌≤◌, ◌<◌}
use mathlib.Core.Path.{◌≡◌, sym, ◌∙◌, subst}
use mathlib.Core.Logic.{inl, inr}
use mathlib.Core.List.{List, [], ◌∷◌, ◌++◌}
use native.Mathlib.Omega.{arith}
use native.Mathlib.Nat.{add-zero}
use lib.ListN.{length}
use Rattle.numbers.specs.Exactly.{Exactly}
use Rattle.primitives.specs.Step.{Step, ok, no, and_then, map_step, times}
use Rattle.primitives.specs.Stands.{Stands, Encoding}
use Rattle.primitives.specs.Faults.{Wrong}
use Rattle.primitives.proofs.Steps.{ok_not_no, and_then_no, map_no}
use Rattle.primitives.proofs.Places.{nothing, joined, first, second}
use Rattle.records.specs.Format.{Run}
use Rattle.records.specs.Faults.{First, Among}

-- ---- a step that reads by a grammar, and refuses by its faults

pub record Judges {A R : Type 0} (G : List ℕ → A → Type 0) (W : Wrong) (show : R → A) (s : List ℕ) (f : ℕ → Step ℕ R) : Type 0 where
  pub finds : (p : ℕ) (x : R) (q : ℕ) → f p ≡ ok x q → Encoding G s p q (show x)
  pub reads : (p q : ℕ) (a : A) → Encoding G s p q a → (x : R) × (f p ≡ ok x q) × (show x ≡ a)
  pub refuses : (p n : ℕ) → p ≤ length s → Exactly (f p ≡ no n) (W s p n)

-- it and what comes after it
module _ {A R B : Type 0} {G : List ℕ → A → Type 0} {W : Wrong} {show : R → A} {s : List ℕ} {f : ℕ → Step ℕ R}
    (j : Judges G W show s f) (After : A → Wrong) (g : R → ℕ → Step ℕ B) (p n : ℕ) (l : p ≤ length s)
    (rest : (x : R) (q : ℕ) → q ≤ length s → Exactly (g x q ≡ no n) (After (show x) s q n)) where
  first_fault : and_then (f p) g ≡ no n → First G W After s p n
  first_fault e =
      elim (and_then_no (f p) g e) [
        | inl i ↦ First.own ((j.refuses p n l).0 i)
        | inr w ↦
            let (x, q, i, k) = w in
            let t = j.finds p x q i in
            First.later t ((rest x q t.stands.within).0 k)
      ]

  first_is : First G W After s p n → and_then (f p) g ≡ no n
  first_is (First.own x) = rw ((j.refuses p n l).1 x)
  first_is (First.later {a} {q} t y) =
      let (x, i, w) = j.reads p q a t in
      rw i ((rest x q t.stands.within).1 (subst (λ (c : A). After c s q n) (sym w) y))

  pub first_exactly : Exactly (and_then (f p) g ≡ no n) (First G W After s p n)
  first_exactly = (first_fault, first_is)

-- as many of them
module _ {A R : Type 0} {G : List ℕ → A → Type 0} {W : Wrong} {show : R → A} {s : List ℕ} {f : ℕ → Step ℕ R}
    (j : Judges G W show s f) (n : ℕ) where
  among_none : (k p : ℕ) → p ≤ length s → W s p n → Among G W (suc k) s p n
  among_none k p l x =
      record {
        before = [];
        place = p;
        right = record { bytes = []; stands = nothing s p l; encodes = Run.ended };
        fewer = omega arith;
        wrong = x;
      }

  among_more : (k p q : ℕ) {a : A} → Encoding G s p q a → Among G W k s q n → Among G W (suc k) s p n
  among_more k p q {a} t x =
      record {
        before = a ∷ x.before;
        place = x.place;
        right =
            record {
              bytes = t.bytes ++ x.right.bytes;
              stands = joined t.stands x.right.stands;
              encodes = Run.more t.encodes x.right.encodes;
            };
        fewer = omega (arith, x.fewer);
        wrong = x.wrong;
      }

  among_fault : (k p : ℕ) → p ≤ length s → times f k p ≡ no n → Among G W k s p n
  unfolding times
  among_fault zero p l e = ok_not_no e
  among_fault (suc k) p l e =
      elim (and_then_no (f p) _ e) [
        | inl i ↦ among_none k p l ((j.refuses p n l).0 i)
        | inr w ↦
            let (x, q, i, m) = w in
            let t = j.finds p x q i in
            among_more k p q t (among_fault k q t.stands.within (map_no _ (times f k q) m))
      ]

  among_run : (k : ℕ) {p at : ℕ} {bs : List ℕ} {before : List A} → Run G bs before → Stands s p at bs → length before < k → W s at n
      → times f k p ≡ no n
  unfolding times
  among_run zero g z h x = absurd (omega arith)
  among_run (suc k) {p} {at} Run.ended z h x =
      let e : at ≡ p = z.end ∙ add-zero p in
      rw ((j.refuses p n (rw e at z.within)).1 (rw e at x))
  among_run (suc k) {p} (Run.more {x} {y} {a} g others) z h w =
      let (v, i, _) = j.reads p (p + length x) a (record { bytes = x; stands = first x y z; encodes = g }) in
      rw (i, among_run k others (second x y z) (omega arith) w)

  pub among_exactly : (k p : ℕ) → p ≤ length s → Exactly (times f k p ≡ no n) (Among G W k s p n)
  among_exactly k p l = (among_fault k p l, λ x. among_run k x.right.encodes x.right.stands x.fewer x.wrong)

-- ---- one refusal for another

-- the same step
pub by_path : {P A : Type 0} {x y : Step P A} {n : ℕ} {X : Type 0} → x ≡ y → Exactly (y ≡ no n) X → Exactly (x ≡ no n) X
by_path e (a, b) = (λ i. a (sym e ∙ i), λ x. e ∙ b x)

-- its value in another form
pub by_map : {P A B : Type 0} (h : A → B) (x : Step P A) {n : ℕ} {X : Type 0} → Exactly (x ≡ no n) X → Exactly (map_step h x ≡ no n) X
by_map h x (a, b) = (λ e. a (map_no h x e), λ y. rw (b y))

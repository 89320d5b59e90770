-- Something in front of the bytes moves the places at which the primitive layer reads, and nothing else: each byte,
-- each end and each test of a place is found that much further on. Assumes nothing.
use Rattle.std.proofs.Common.{◌≡◌, ℕ, zero, suc, ◌+◌, Bool, true, false, eqb, ltb, leb, List, ◌++◌, map, length, ℤ, pos, negsuc, refl, ap, ◌∙◌, add_assoc, add-suc, suc-add, zero-add, length-append, get_or-append-add}
use Prim.Native.Nat.compare
use Prim.Native.Nat.{compare}
use mathlib.Core.Option.{Option, none, some}
use lib.Dec.{is_le, compare_is_eq}
use Rattle.numbers.specs.Pick.{pick}
use Rattle.primitives.specs.Step.{Step, ok, no, and_then, map_step, times}
use Rattle.primitives.specs.Reading.{big, unsigned_at, integer_at, byte_at, code_at, varint_at, length_of, length_at, span_of, span_at}
use Rattle.primitives.specs.Shifted.{moved_nullable, same, moved_step, Shifted}
use Rattle.primitives.specs.Statements.{IntegerShifted, VarintShifted, SpanShifted}

-- ---- tests of places that are moved alike

compare_add : (k a b : ℕ) → compare (k + a) (k + b) ≡ compare a b
compare_add zero a b = rw (zero-add a, zero-add b)
compare_add (suc k) a b = rw (suc-add k a, suc-add k b) (compare.suc-suc (k + a) (k + b) ∙ compare_add k a b)

leb_add : (k a b : ℕ) → leb (k + a) (k + b) ≡ leb a b
leb_add k a b = ap is_le (compare_add k a b)

pub ltb_add : (k a b : ℕ) → ltb (k + a) (k + b) ≡ ltb a b
ltb_add k a b = rw (← add-suc k a) (leb_add k (suc a) b)

pub eqb_add : (k a b : ℕ) → eqb (k + a) (k + b) ≡ eqb a b
eqb_add k a b = ap compare_is_eq (compare_add k a b)

-- ---- a moved step and what is made of it

module _ {A B : Type 0} where
  pub and_then_moved : (move : A → A) (k : ℕ) (x : Step ℕ A) (f : A → ℕ → Step ℕ B)
      → and_then (moved_step move k x) f ≡ and_then x (λ a p. f (move a) (k + p))
  and_then_moved move k (ok a p) f = refl
  and_then_moved move k (no n) f = refl

  pub moved_and_then : (move : B → B) (k : ℕ) (x : Step ℕ A) (f : A → ℕ → Step ℕ B)
      → moved_step move k (and_then x f) ≡ and_then x (λ a p. moved_step move k (f a p))
  moved_and_then move k (ok a p) f = refl
  moved_and_then move k (no n) f = refl

  pub map_and_then : (f : A → B) (x : Step ℕ A) → map_step f x ≡ and_then x (λ a p. ok (f a) p)
  map_and_then f (ok a p) = refl
  map_and_then f (no n) = refl

pub moved_pick : {A : Type 0} (move : A → A) (k : ℕ) (t : Bool) (x y : Step ℕ A)
    → moved_step move k (pick t x y) ≡ pick t (moved_step move k x) (moved_step move k y)
moved_pick move k true x y = refl
moved_pick move k false x y = refl

pub ruleset moved = (map_and_then, and_then_moved, moved_and_then, moved_pick)

-- ---- what is read with something in front

pub times_shifted : {A : Type 0} (move : ℕ → A → A) (f : List ℕ → ℕ → Step ℕ A) → Shifted move f
    → (n : ℕ) → Shifted (λ k. map (move k)) (λ s p. times (f s) n p)
unfolding times
times_shifted move f each zero front s p = refl
times_shifted move f each (suc n) front s p = simp (each, times_shifted move f each n, moved)

pub big_shifted : (n : ℕ) (front s : List ℕ) (p : ℕ) → big n (front ++ s) (length front + p) ≡ big n s p
unfolding big
big_shifted zero front s p = refl
big_shifted (suc n) front s p = simp (big_shifted n, add_assoc, get_or-append-add)

unsigned_shifted : (n : ℕ) → Shifted same (unsigned_at n)
unfolding unsigned_at
unsigned_shifted n front s p = simp (big_shifted, add_assoc, length-append, leb_add, moved)

pub integer_shifted : IntegerShifted
unfolding integer_at
integer_shifted n front s p = simp (unsigned_shifted, moved)

byte_shifted : Shifted same byte_at
unfolding byte_at
byte_shifted front s p = simp (length-append, ltb_add, get_or-append-add, add_assoc, moved)

code_shifted : (k limit : ℕ) → Shifted same (code_at k limit)
unfolding code_at
code_shifted zero limit front s p = simp (byte_shifted, moved)
code_shifted (suc k) limit front s p = simp (byte_shifted, code_shifted k limit, moved)

pub varint_shifted : VarintShifted
unfolding varint_at
varint_shifted w front s p = simp (code_shifted, moved)

length_of_moved : (nullable : Bool) (n : ℤ) (k p : ℕ)
    → length_of nullable n (k + p) ≡ moved_step (same k) k (length_of nullable n p)
length_of_moved nullable (pos n) k p = refl
length_of_moved true (negsuc zero) k p = refl
length_of_moved false (negsuc zero) k p = refl
length_of_moved nullable (negsuc (suc n)) k p = refl

pub length_shifted : (nullable : Bool) → Shifted same (length_at nullable)
unfolding length_at
length_shifted nullable front s p = simp (varint_shifted, length_of_moved, moved)

span_of_shifted : (n : Option ℕ) → Shifted moved_nullable (λ s p. span_of s n p)
span_of_shifted none front s p = refl
span_of_shifted (some n) front s p = simp (add_assoc, length-append, leb_add, moved)

pub span_shifted : SpanShifted
unfolding span_at
span_shifted nullable front s p = simp (length_shifted, span_of_shifted, moved)

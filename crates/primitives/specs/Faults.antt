-- The first fault of a field, said by the format alone: which of document 01's numbers it has, at a place of a list
-- that ends where the bytes end. It knows nothing of reading.
use Rattle.std.specs.Prelude.{ℕ, zero, suc, ◌+◌, ◌<◌, Bool, true, false, List, ◌++◌, length, ℤ, pos, negsuc}
use Rattle.numbers.specs.Format.{Varies}
use Rattle.primitives.specs.Stands.{Encoding}

-- what should stand from the place p of s on is wrong, first by the number n
abbrev pub Wrong : Type 1
Wrong = (s : List ℕ) (p n : ℕ) → Type 0

-- The list ends inside the field: with more bytes after the list one would stand there, and end among them.
pub record Cut {A : Type 0} (G : List ℕ → A → Type 0) (s : List ℕ) (p : ℕ) : Type 0 where
  pub more : List ℕ
  pub end : ℕ
  pub value : A
  pub stands : Encoding G (s ++ more) p end value
  pub past : length s < end

-- Whatever comes after the list, none stands there.
abbrev pub Hopeless : {A : Type 0} → (List ℕ → A → Type 0) → List ℕ → ℕ → Type 0
Hopeless {A} G s p = (more : List ℕ) (end : ℕ) (value : A) → Encoding G (s ++ more) p end value → ⊥

-- document 01, Reader's numbers, 8: an integer of k bytes
pub data IntegerWrong (k : ℕ) (s : List ℕ) (p : ℕ) : ℕ → Type 0 where
  past : length s < p + k → IntegerWrong k s p 8

-- document 01, Reader's numbers, 8 and 9: a number of w bits
pub data NumberWrong (w : ℕ) (s : List ℕ) (p : ℕ) : ℕ → Type 0 where
  past : Cut (Varies w false) s p → NumberWrong w s p 8
  beyond : Hopeless (Varies w false) s p → NumberWrong w s p 9

-- below what its place allows: negative, but for the -1 that is null where null is allowed
abbrev pub TooLow : (nullable : Bool) → ℤ → Type 0
TooLow nullable (pos n) = ⊥
TooLow true (negsuc zero) = ⊥
TooLow false (negsuc zero) = Unit {0}
TooLow nullable (negsuc (suc k)) = Unit {0}

-- document 01, Reader's numbers, 10: a length or a count, after the faults of its number
pub data LengthWrong (nullable : Bool) (s : List ℕ) (p : ℕ) : ℕ → Type 0 where
  number : {n : ℕ} → NumberWrong 32 s p n → LengthWrong nullable s p n
  low : {z : ℤ} {q : ℕ} → Encoding (Varies 32 false) s p q z → TooLow nullable z → LengthWrong nullable s p 10

-- a length or a count that is right, and not null
abbrev pub CountBytes : List ℕ → ℕ → Type 0
CountBytes bs n = Varies 32 false bs (pos n)

-- document 01, Reader's numbers, 8: bytes after their length, whose own fault comes first
pub data BytesWrong (nullable : Bool) (s : List ℕ) (p : ℕ) : ℕ → Type 0 where
  size : {n : ℕ} → LengthWrong nullable s p n → BytesWrong nullable s p n
  past : {m q : ℕ} → Encoding CountBytes s p q m → length s < q + m → BytesWrong nullable s p 8

-- Bytes that stand at a place of a list.
use Rattle.std.specs.Prelude.{◌≡◌, ℕ, ◌+◌, ◌≤◌, List, ◌++◌, length, drop}

-- from the place p up to the place q of s stand the bytes bs
pub record Stands (s : List ℕ) (p q : ℕ) (bs : List ℕ) : Type 0 where
  pub split : drop p s ≡ bs ++ drop q s
  pub end : q ≡ p + length bs
  pub within : q ≤ length s

-- from p up to q of s stands an encoding of a, by the grammar G
pub record Encoding {A : Type 0} (G : List ℕ → A → Type 0) (s : List ℕ) (p q : ℕ) (a : A) : Type 0 where
  pub bytes : List ℕ
  pub stands : Stands s p q bytes
  pub encodes : G bytes a

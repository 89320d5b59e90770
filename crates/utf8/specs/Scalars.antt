-- RFC 3629, section 3: the octets of a character by its number.
use Rattle.std.specs.Prelude.{ℕ, ◌+◌, ◌/◌, ◌%◌, ◌≤◌, ◌<◌, ◌⊎◌, List, [], ◌∷◌, ltb}
use Rattle.numbers.specs.Pick.{pick}

-- The numbers of characters: up to 10FFFF, without the surrogates D800 to DFFF.
pub record Scalar (v : ℕ) : Type 0 where
  pub most : v ≤ 0x10FFFF
  pub no_surrogate : (v < 0xD800) ⊎ (0xDFFF < v)

-- The fewest octets that hold the number: 7, 11, 16 or 21 bits, six of them in each tail.
unfoldable pub octets_of : ℕ → List ℕ
octets_of v =
    pick (ltb v 0x80) (v ∷ [])
    (pick (ltb v 0x800) ((0xC0 + v / 64) ∷ (0x80 + v % 64) ∷ [])
    (pick (ltb v 0x10000) ((0xE0 + v / 4096) ∷ (0x80 + v / 64 % 64) ∷ (0x80 + v % 64) ∷ [])
    ((0xF0 + v / 262144) ∷ (0x80 + v / 4096 % 64) ∷ (0x80 + v / 64 % 64) ∷ (0x80 + v % 64) ∷ [])))

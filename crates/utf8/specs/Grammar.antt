-- RFC 3629, section 4, syntax of UTF-8 byte sequences: from characters to octets, row by row and with the RFC's names.
use Rattle.std.specs.Prelude.{ℕ, ◌≤◌, List, [], ◌∷◌, ◌++◌}

-- An octet from `first` to `last`, both included.
pub record Within (first last octet : ℕ) : Type 0 where
  pub least : first ≤ octet
  pub most : octet ≤ last

abbrev pub Tail : ℕ → Type 0
Tail octet = Within 0x80 0xBF octet

-- UTF8-char: UTF8-1, UTF8-2, one of the four rows of UTF8-3, or one of the three of UTF8-4.
pub data Char : List ℕ → Type 0 where
  utf8_1 : {a : ℕ} → Within 0x00 0x7F a → Char (a ∷ [])
  utf8_2 : {a b : ℕ} → Within 0xC2 0xDF a → Tail b → Char (a ∷ b ∷ [])
  utf8_3_E0 : {a b c : ℕ} → Within 0xE0 0xE0 a → Within 0xA0 0xBF b → Tail c → Char (a ∷ b ∷ c ∷ [])
  utf8_3_E1 : {a b c : ℕ} → Within 0xE1 0xEC a → Tail b → Tail c → Char (a ∷ b ∷ c ∷ [])
  utf8_3_ED : {a b c : ℕ} → Within 0xED 0xED a → Within 0x80 0x9F b → Tail c → Char (a ∷ b ∷ c ∷ [])
  utf8_3_EE : {a b c : ℕ} → Within 0xEE 0xEF a → Tail b → Tail c → Char (a ∷ b ∷ c ∷ [])
  utf8_4_F0 : {a b c d : ℕ} → Within 0xF0 0xF0 a → Within 0x90 0xBF b → Tail c → Tail d → Char (a ∷ b ∷ c ∷ d ∷ [])
  utf8_4_F1 : {a b c d : ℕ} → Within 0xF1 0xF3 a → Tail b → Tail c → Tail d → Char (a ∷ b ∷ c ∷ d ∷ [])
  utf8_4_F4 : {a b c d : ℕ} → Within 0xF4 0xF4 a → Within 0x80 0x8F b → Tail c → Tail d → Char (a ∷ b ∷ c ∷ d ∷ [])

-- UTF8-octets: any number of characters.
pub data Octets : List ℕ → Type 0 where
  none : Octets []
  more : {c s : List ℕ} → Char c → Octets s → Octets (c ++ s)

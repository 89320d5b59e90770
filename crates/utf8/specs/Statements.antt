-- The laws of UTF-8, each in words and then as a statement. What proves each stands in proofs/ under the statement's
-- name in small letters: `utf8_sound : Utf8Sound`.
use Rattle.std.specs.Prelude.{ℕ, ◌≡◌, true, List, ◌++◌}
use Rattle.utf8.specs.Grammar.{Char, Octets}
use Rattle.utf8.specs.Scalars.{Scalar, octets_of}
use Rattle.utf8.specs.Judgement.{is_utf8}

-- ---- the judgement is the grammar's

-- What is judged to be UTF-8 is a sequence of characters by the grammar, and every such sequence is so judged.
abbrev pub Utf8Sound : Type 0
Utf8Sound = (s : List ℕ) → is_utf8 s ≡ true → Octets s

abbrev pub Utf8Complete : Type 0
Utf8Complete = (s : List ℕ) → Octets s → is_utf8 s ≡ true

-- A character in front changes nothing.
abbrev pub CharInFront : Type 0
CharInFront = (c s : List ℕ) → Char c → is_utf8 (c ++ s) ≡ is_utf8 s

-- No character is a proper beginning of another: octets are read as characters in one way only.
abbrev pub CharUnambiguous : Type 0
CharUnambiguous = (c d s t : List ℕ) → Char c → Char d → c ++ s ≡ d ++ t → c ≡ d

-- ---- the grammar's rows are the characters: no surrogates, no longer forms, nothing above 10FFFF

-- What the rows hold are the octets of the characters, each by the fewest octets that hold its number, and of nothing
-- else.
abbrev pub ScalarChar : Type 0
ScalarChar = (v : ℕ) → Scalar v → Char (octets_of v)

abbrev pub CharScalar : Type 0
CharScalar = (c : List ℕ) → Char c → (v : ℕ) × Scalar v × (c ≡ octets_of v)

-- Two characters do not share their octets.
abbrev pub ScalarUnambiguous : Type 0
ScalarUnambiguous = (v w : ℕ) → Scalar v → Scalar w → octets_of v ≡ octets_of w → v ≡ w

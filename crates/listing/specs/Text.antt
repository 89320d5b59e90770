-- Text, as bytes of ASCII: words, and numbers in decimal.
use Prim.Native.Char.{code}
use Rattle.std.specs.Prelude.{ℕ, zero, suc, ◌+◌, ◌/◌, ◌%◌, List, [], ◌∷◌, ◌++◌, ltb, ℤ, pos, negsuc}
use Prim.Native.String.{String, [] as noText, ◌∷◌ as ◌before◌}
use Rattle.numbers.specs.Pick.{pick}

-- the codes of a text's characters
unfoldable pub ascii : String → List ℕ
ascii noText = []
ascii (c before rest) = code c ∷ ascii rest

-- a word and what separates it from the next: a space, or after the last word of a line the newline
abbrev pub spaced : List ℕ → List ℕ
spaced word = word ++ (32 ∷ [])

abbrev pub ended : List ℕ → List ℕ
ended word = word ++ (10 ∷ [])

-- the digits of a number, without zeros in front: at most k of them before the last
unfoldable pub digits : ℕ → ℕ → List ℕ
digits zero n = (48 + n) ∷ []
digits (suc k) n = pick (ltb n 10) ((48 + n) ∷ []) (digits k (n / 10) ++ ((48 + n % 10) ∷ []))

-- twenty digits hold every number of 64 bits
abbrev pub decimal : ℕ → List ℕ
decimal n = digits 19 n

-- a minus in front of a negative number; `negsuc k` is -(k + 1)
abbrev pub signed_decimal : ℤ → List ℕ
signed_decimal (pos n) = decimal n
signed_decimal (negsuc k) = 45 ∷ decimal (k + 1)

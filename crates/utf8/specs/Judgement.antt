-- Whether octets are UTF-8, octet by octet.
use Rattle.std.specs.Prelude.{ℕ, Bool, true, false, List, [], ◌∷◌, leb}
use Rattle.std.proofs.Math.Option.{Option, none, some}
use Rattle.numbers.specs.Pick.{pick}

-- The octets from `first` to `last`.
pub record Range : Type 0 where
  pub first : ℕ
  pub last : ℕ

abbrev pub holds : Range → ℕ → Bool
holds r b = pick (leb r.first b) (leb b r.last) false

abbrev pub from : ℕ → ℕ → Range
from m n = record { first = m; last = n }

abbrev pub tail : Range
tail = from 0x80 0xBF

-- What has to follow an octet that begins a character: the ranges of the octets after it, or none where no character
-- begins with it.
unfoldable pub after : ℕ → Option (List Range)
after a =
    pick (holds (from 0x00 0x7F) a) (some [])
    (pick (holds (from 0xC2 0xDF) a) (some (tail ∷ []))
    (pick (holds (from 0xE0 0xE0) a) (some (from 0xA0 0xBF ∷ tail ∷ []))
    (pick (holds (from 0xE1 0xEC) a) (some (tail ∷ tail ∷ []))
    (pick (holds (from 0xED 0xED) a) (some (from 0x80 0x9F ∷ tail ∷ []))
    (pick (holds (from 0xEE 0xEF) a) (some (tail ∷ tail ∷ []))
    (pick (holds (from 0xF0 0xF0) a) (some (from 0x90 0xBF ∷ tail ∷ tail ∷ []))
    (pick (holds (from 0xF1 0xF3) a) (some (tail ∷ tail ∷ tail ∷ []))
    (pick (holds (from 0xF4 0xF4) a) (some (from 0x80 0x8F ∷ tail ∷ tail ∷ [])) none))))))))

-- Whether octets, the first of which are to lie in the ranges of a character that has begun, end that character and go
-- on with whole characters to their end.
unfoldable pub goes_on : List Range → List ℕ → Bool
goes_on [] [] = true
goes_on [] (a ∷ s) = elim (after a) [ none ↦ false | some rs ↦ goes_on rs s ]
goes_on (r ∷ rs) [] = false
goes_on (r ∷ rs) (b ∷ s) = pick (holds r b) (goes_on rs s) false

abbrev pub is_utf8 : List ℕ → Bool
is_utf8 s = goes_on [] s

-- Words of private contracts: none of them stands in a promise.
use Rattle.std.specs.Prelude.{ℕ, ◌-◌, ◌<◌, ◌≡◌, false, List, ◌∷◌, length, replicate, Option, MatchOption}
use Rattle.std.specs.Borrow.{Bor}
use Rattle.utf8.specs.Judgement.{Range, from, tail, goes_on, is_utf8}

-- What follows the character that `s` begins with, or that one and more, where of it the octets `t`, the first of which
-- are to lie in `rs`, are still to be judged; or None where `s` begins with none.
abbrev pub Judged : List Range → List ℕ → List ℕ → Option (Bor (List ℕ)) → Type 0
Judged rs t s r = MatchOption r (goes_on rs t ≡ false) (λ rest. (length rest.now < length s) × (goes_on rs t ≡ is_utf8 rest.now))

-- What has to follow the first of `n` octets: one from `least` to `most`, and tails.
abbrev pub following : ℕ → ℕ → ℕ → List Range
following n least most = from least most ∷ replicate (n - 2) tail

-- What the public function promises of its result, for every input. Lent bytes are lent to be read: it cannot change
-- them, so the outcome is the result alone.
use Rattle.std.specs.Prelude.{ℕ, ◌≡◌, Bool, List}
use Rattle.utf8.specs.Judgement.{is_utf8}

-- is_utf8
abbrev pub IsUtf8Promise : List ℕ → Bool → Type 0
IsUtf8Promise s r = r ≡ is_utf8 s

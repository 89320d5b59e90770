-- What the table holds: 16 rows of 16 entries. Row r has what 4 * (r + 1) steps make of each half byte.
-- Words of private contracts; no promise names them.
use Rattle.std.specs.Prelude.{ℕ, ◌+◌, ◌*◌, ◌/◌, ◌%◌, ◌<◌, ◌≡◌, List, get_or}
use Rattle.crc32c.specs.Crc.{steps, castagnoli}

pub record IsTable (t : List ℕ) : Type 0 where
  pub entry : (k : ℕ) → k < 256 → get_or t k 0 ≡ steps castagnoli (4 * (k / 16 + 1)) (k % 16)

-- The first fault of a batch after its checksum, numbers 8 to 13 and 41, said by the format alone: its fixed part, its
-- marker or its records.
use Rattle.std.specs.Prelude.{ℕ, ◌+◌, ◌<◌, ◌≤◌, ◌≡◌, true, false, ◌⊎◌, List, take}
use Rattle.primitives.specs.Faults.{Wrong}
use Rattle.records.specs.Faults.{RecordsWrong}
use Rattle.opening.specs.Judgement.{attributes_in}
use Rattle.batches.specs.Statements.{Checked, codec, CountIs}

-- for any way in which a marker may be wrong
pub data BatchWrong (MarkerWrong : Wrong) (s : List ℕ) : ℕ → Type 0 where
  -- its bytes end before the attributes do; or before the fixed fields do, the codec being known
  fixed : {n : ℕ} → Checked s n → (n < 11) ⊎ ((n < 49) × (codec s ≤ 4)) → BatchWrong MarkerWrong s 8
  marker : {n k : ℕ} → Checked s n → 49 ≤ n → codec s ≡ 0 → (attributes_in s 0).control ≡ true → CountIs s 1
      → MarkerWrong (take (12 + n) s) 61 k → BatchWrong MarkerWrong s k
  records : {n m k : ℕ} → Checked s n → 49 ≤ n → codec s ≡ 0 → (attributes_in s 0).control ≡ false → CountIs s m
      → RecordsWrong m (take (12 + n) s) 61 k → BatchWrong MarkerWrong s k

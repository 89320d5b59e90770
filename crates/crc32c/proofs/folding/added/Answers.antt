-- `crc32c::folding::added` meets its contract. Assumes nothing.
use Rattle.crc32c.proofs.Folds.{front_is}
use Rattle.crc32c.proofs.folding.added.Goals as goal

pub returns : goal.returns
returns c = front_is _ _ _

-- `oddrafisk::oddrafisk_read` meets its contract. Assumes nothing.
use Rattle.oddrafisk.proofs.Saying.{read_fits}
use Rattle.oddrafisk.proofs.oddrafisk_read.Goals as goal

pub said_of-number-requires : goal.said_of-number-requires
said_of-number-requires c = read_fits _ _ _ _ c.read-found.ensures

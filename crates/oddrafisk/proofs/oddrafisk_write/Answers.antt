-- `oddrafisk::oddrafisk_write` meets its contract. Assumes nothing.
use Rattle.oddrafisk.proofs.Asking.{write_fits}
use Rattle.oddrafisk.proofs.oddrafisk_write.Goals as goal

pub length_of-requires : goal.length_of-requires
length_of-requires c = write_fits _ _ _ _ _ _ _ c.write_asked-written.ensures

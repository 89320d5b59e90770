-- `oddrafisk::oddrafisk_convert` meets its contract. Assumes nothing.
use Rattle.oddrafisk.proofs.Telling.{convert_fits}
use Rattle.oddrafisk.proofs.oddrafisk_convert.Goals as goal

pub told_of-requires : goal.told_of-requires
told_of-requires c = convert_fits _ _ _ c.convert-converted.ensures

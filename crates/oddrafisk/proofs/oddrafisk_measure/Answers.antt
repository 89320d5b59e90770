-- `oddrafisk::oddrafisk_measure` meets its contract. Assumes nothing.
use borrow.Author.Rules.{rules}
use Rattle.oddrafisk.proofs.Asking.{measure_fits}
use Rattle.oddrafisk.proofs.oddrafisk_measure.Goals as goal

pub length_of-requires : goal.length_of-requires
length_of-requires c = search (measure_fits, rules)

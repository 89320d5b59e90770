-- `oddrafisk::oddrafisk_check` meets its contract. Assumes nothing.
use borrow.Author.Rules.{rules}
use Rattle.oddrafisk.proofs.Saying.{check_fits}
use Rattle.oddrafisk.proofs.oddrafisk_check.Goals as goal

pub said_of-number-requires : goal.said_of-number-requires
said_of-number-requires c = check_fits _ _ _ c.check.ensures c.map_err-found.result (search rules)

-- `oddrafisk::asked::batch_asked` meets its contract. Assumes nothing.
use borrow.Author.Rules.{rules}
use Rattle.oddrafisk.proofs.Asking.{asks_by, asks_for_none}
use Rattle.oddrafisk.proofs.asked.batch_asked.Goals as goal

pub returns-in-Some : goal.returns-in-Some
returns-in-Some c = asks_by c.args.mode _ _ c.ranges.codec c.if-codec-ne0.false _ c.in-Some.ensures

pub returns-in-None : goal.returns-in-None
returns-in-None c = asks_for_none c.args.mode _ _ c.ranges.codec c.if-codec-ne0.false c.in-None.ensures (search rules) _ c.entries_fault.ensures

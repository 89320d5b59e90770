-- `converting::copy` meets its contract. Assumes nothing.
use Rattle.converting.proofs.Giving.{copy_short, copy_done}
use borrow.Author.Rules.{rules}
use Rattle.converting.proofs.copy.Goals as goal

pub returns-then-output-n : goal.returns-then-output-n
returns-then-output-n c = search (copy_short, rules)

pub returns : goal.returns
returns c = search (copy_done, rules)

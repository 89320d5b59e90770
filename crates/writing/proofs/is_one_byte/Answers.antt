-- `writing::is_one_byte` meets its contract. Assumes nothing.
use borrow.Author.Rules.{rules}
use Rattle.writing.proofs.Short.{far_below, not_far_below}
use Rattle.writing.proofs.is_one_byte.Goals as goal

pub returns-then-n-ltminus64 : goal.returns-then-n-ltminus64
returns-then-n-ltminus64 c = search (far_below, rules)

pub returns : goal.returns
returns c = search (not_far_below, rules)

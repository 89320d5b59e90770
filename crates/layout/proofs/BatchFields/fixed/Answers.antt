-- `layout::BatchFields::fixed` meets its contract: the three parts fill the 61 bytes. Assumes nothing.
use borrow.Author.Rules.{rules}
use Rattle.layout.proofs.Putting.{fixed_put}
use Rattle.layout.proofs.BatchFields.fixed.Goals as goal

pub returns : goal.returns
returns c = search (fixed_put, rules)

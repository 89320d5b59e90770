-- `batches::finish` meets its contract. Assumes nothing.
use Rattle.batches.proofs.Putting.{finish_put}
use borrow.Author.Rules.{rules}
use Rattle.batches.proofs.finish.Goals as goal

pub returns : goal.returns
returns c = search (finish_put, rules)

-- `converting::put_rekeyed` meets its contract. Assumes nothing.
use Rattle.opening.proofs.Judging.{cut_length}
use Rattle.converting.proofs.Copying.{rekeyed_put}
use borrow.Author.Rules.{rules}
use Rattle.converting.proofs.put_rekeyed.Goals as goal

pub slice_bounds-put-end : goal.slice_bounds-put-end
slice_bounds-put-end c = search (cut_length, rules)

pub returns : goal.returns
returns c = search (rekeyed_put, rules)

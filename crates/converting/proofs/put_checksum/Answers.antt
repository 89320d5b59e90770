-- `converting::put_checksum` meets its contract. Assumes nothing.
use Rattle.converting.proofs.Copying.{checksum_put}
use borrow.Author.Rules.{rules}
use Rattle.converting.proofs.put_checksum.Goals as goal

pub returns : goal.returns
returns c = search (checksum_put, rules)

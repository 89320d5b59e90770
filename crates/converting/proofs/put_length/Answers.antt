-- `converting::put_length` meets its contract. Assumes nothing.
use Rattle.converting.proofs.Copying.{length_put_lem}
use Rattle.converting.proofs.put_length.Goals as goal

pub returns : goal.returns
returns c = search length_put_lem

-- `writing::put_length` meets its contract. Assumes nothing.
use Rattle.writing.proofs.Pens.{length_put_lem}
use Rattle.writing.proofs.put_length.Goals as goal

pub returns : goal.returns
returns c = length_put_lem _ _ _ c.requires c.put_varlong.ensures

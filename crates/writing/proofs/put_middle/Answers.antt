-- `writing::put_middle` meets its contract. Assumes nothing.
use Rattle.writing.proofs.Pens.{three}
use Rattle.writing.proofs.put_middle.Goals as goal

pub returns : goal.returns
returns c =
    three _ _ _ _ _ _ _ c.put_shown-at_value.ensures c.put_shown-at_count.ensures c.put_length.ensures

-- `writing::put_header` meets its contract. Assumes nothing.
use Rattle.writing.proofs.Pens.{two}
use Rattle.writing.proofs.put_header.Goals as goal

pub returns : goal.returns
returns c =
    two _ _ _ _ _ c.put_span-next.ensures c.put_span.ensures

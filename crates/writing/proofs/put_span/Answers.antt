-- `writing::put_span` meets its contract. Assumes nothing.
use Rattle.writing.proofs.Pens.{span_put}
use Rattle.writing.proofs.put_span.Goals as goal

pub returns : goal.returns
returns c =
    span_put _ _ _ _ _ _ _ _ c.requires c.put_length-next.ensures c.put.ensures

-- `writing::put_start` meets its contract. Assumes nothing.
use Rattle.writing.proofs.Pens.{start_put}
use Rattle.writing.proofs.put_start.Goals as goal

pub returns : goal.returns
returns c =
    start_put _ _ _ c.ranges.timestamp_delta c.ranges.offset_delta _ _ _ _ _
    c.put_length-at_attributes.ensures c.put_byte-at_timestamp.ensures c.put_varlong-at_offset.ensures c.put_varint.ensures

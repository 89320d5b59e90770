-- `layout::BatchFields::put_frame` meets its contract. Assumes nothing.
use Rattle.std.proofs.Common.{rules}
use Rattle.numbers.proofs.Pens.{known_put}
use Rattle.layout.specs.Fixed.{view_batch_fields}
use Rattle.layout.proofs.Putting.{frame_put}
use Rattle.layout.proofs.BatchFields.put_frame.Goals as goal

pub returns : goal.returns
returns c =
    frame_put (view_batch_fields c.args.self) _ _ _ _ _ _ _ _ (search rules) (search rules)
    (known_put _ _ _ _ _ _ c.to_be_bytes.ensures c.put-at_length.ensures) (known_put _ _ _ _ _ _ c.to_be_bytes-2.ensures c.put-at_epoch.ensures)
    (known_put _ _ _ _ _ _ c.to_be_bytes-3.ensures c.put-at_magic.ensures) (known_put _ _ _ _ _ _ c.to_be_bytes-4.ensures c.put-at_crc.ensures)
    (known_put _ _ _ _ _ _ c.to_be_bytes-5.ensures c.put.ensures)

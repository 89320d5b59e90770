-- `layout::BatchFields::put_producer` meets its contract. Assumes nothing.
use Rattle.std.proofs.Common.{rules}
use Rattle.numbers.proofs.Pens.{known_put}
use Rattle.layout.specs.Fixed.{view_batch_fields}
use Rattle.layout.proofs.Putting.{producer_put}
use Rattle.layout.proofs.BatchFields.put_producer.Goals as goal

pub returns : goal.returns
returns c =
    producer_put (view_batch_fields c.args.self) _ _ _ _ _ _ (search rules) (search rules) (search rules)
    (known_put _ _ _ _ _ _ c.to_be_bytes.ensures c.put-at_epoch.ensures) (known_put _ _ _ _ _ _ c.to_be_bytes-2.ensures c.put-at_sequence.ensures)
    (known_put _ _ _ _ _ _ c.to_be_bytes-3.ensures c.put-at_count.ensures) (known_put _ _ _ _ _ _ c.to_be_bytes-4.ensures c.put.ensures)

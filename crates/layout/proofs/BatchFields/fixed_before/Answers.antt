-- `layout::BatchFields::fixed_before` meets its contract: another checksum changes four bytes and nothing else. Assumes
-- nothing.
use Rattle.numbers.proofs.Pens.{known_put}
use Rattle.layout.specs.Fixed.{view_batch_fields}
use Rattle.layout.proofs.Putting.{before_put}
use Rattle.layout.proofs.BatchFields.fixed_before.Goals as goal

pub returns : goal.returns
returns c =
    before_put (view_batch_fields c.args.self) _ _ _ _ _ _ _ _ _ c.fixed-bytes.ensures c.crc32c-checked.ensures c.update.ensures
    (known_put _ _ _ _ _ _ c.to_be_bytes.ensures c.put.ensures)

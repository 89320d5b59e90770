-- `layout::BatchFields::record_time` meets its contract. Assumes nothing.
use Rattle.std.proofs.Common.{rules}
use Rattle.layout.specs.Time.{record_time}
use Rattle.layout.proofs.Sums.{time_is}
use Rattle.layout.proofs.BatchFields.record_time.Goals as goal

pub returns : goal.returns
unfolding record_time
returns c = time_is _ c.args.delta (search rules) c.ranges.delta _ c.checked_add.ensures

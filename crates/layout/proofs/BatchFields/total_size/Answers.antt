-- `layout::BatchFields::total_size` meets its contract. Assumes nothing.
use lib.Dec.{lit≤}
use Rattle.layout.proofs.Sums.{total_widens, total_fits, total_back}
use Rattle.layout.proofs.BatchFields.total_size.Goals as goal

pub overflow_cast-result-2 : goal.overflow_cast-result-2
overflow_cast-result-2 c = total_widens c.args.batch_length c.ranges.batch_length

pub overflow_add-result : goal.overflow_add-result
overflow_add-result c = total_fits c.args.batch_length c.ranges.batch_length _ (lit≤ tt)

pub returns : goal.returns
returns c = total_back c.args.batch_length c.ranges.batch_length

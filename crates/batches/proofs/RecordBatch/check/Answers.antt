-- `batches::RecordBatch::check` meets its contract. Assumes nothing.
use Rattle.batches.proofs.Handed.{check_lent}
use Rattle.batches.proofs.RecordBatch.check.Goals as goal

pub returns : goal.returns
returns c = search check_lent

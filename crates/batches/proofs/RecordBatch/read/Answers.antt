-- `batches::RecordBatch::read` meets its contract. Assumes nothing.
use Rattle.batches.proofs.Handed.{read_lent}
use Rattle.batches.proofs.RecordBatch.read.Goals as goal

pub returns : goal.returns
returns c = search read_lent

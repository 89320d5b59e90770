-- `batches::RecordBatch::record_time` meets its contract. Assumes nothing.
use Rattle.batches.proofs.Handed.{time_same}
use borrow.Author.Rules.{rules}
use Rattle.batches.proofs.RecordBatch.record_time.Goals as goal

pub returns : goal.returns
returns c = search (time_same, rules)

-- `batches::RecordBatch::total_size` meets its contract. Assumes nothing.
use Rattle.batches.proofs.Handed.{total_same}
use borrow.Author.Rules.{rules}
use Rattle.batches.proofs.RecordBatch.total_size.Goals as goal

pub returns : goal.returns
returns c = search (total_same, rules)

-- `batches::RecordBatch::write` meets its contract. Assumes nothing.
use borrow.Author.Rules.{rules}
use Rattle.batches.proofs.Handed.{write_handed}
use Rattle.batches.proofs.Giving.{write_codec, write_bare, write_marked, write_asked}
use Rattle.batches.proofs.RecordBatch.write.Goals as goal

pub returns-then-codec-ne0 : goal.returns-then-codec-ne0
returns-then-codec-ne0 c = search (write_handed, write_codec)

pub returns-in-Bare : goal.returns-in-Bare
returns-in-Bare c = search (write_handed, write_bare, rules)

pub returns-in-Keyed : goal.returns-in-Keyed
returns-in-Keyed c = search (write_handed, write_marked, rules)

pub returns-in-Records : goal.returns-in-Records
returns-in-Records c = search (write_handed, write_asked)

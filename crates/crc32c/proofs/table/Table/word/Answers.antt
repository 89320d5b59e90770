-- `crc32c::table::Table::word` meets its contract, by its four bytes. Assumes nothing.
use borrow.Author.Rules.{rules}
use Rattle.crc32c.proofs.Halves.{word_bytes}
use Rattle.crc32c.proofs.table.Table.word.Goals as goal

pub returns : goal.returns
returns c = search (word_bytes, rules)

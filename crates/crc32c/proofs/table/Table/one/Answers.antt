-- `crc32c::table::Table::one` meets its contract: the byte is added to the lowest of the register, and the others move
-- down. Assumes nothing.
use borrow.Author.Rules.{rules}
use Rattle.crc32c.proofs.Division.{byte_split}
use Rattle.crc32c.proofs.table.Table.one.Goals as goal

pub returns : goal.returns
returns c = search (byte_split, rules)

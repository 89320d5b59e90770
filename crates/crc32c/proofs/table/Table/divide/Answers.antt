-- `crc32c::table::Table::divide` meets its contract: what the eights leave goes on byte by byte. Assumes nothing.
use Rattle.crc32c.specs.Crc.{castagnoli}
use Rattle.crc32c.proofs.Halves.{chunks_over}
use Rattle.crc32c.proofs.table.Table.divide.Goals as goal

pub returns : goal.returns
returns c =
    let e = c.as_chunks.ensures in
    chunks_over castagnoli _ _ _ 8 _ c.args.s.now (rw e.front at c.by_eights.ensures) (rw e.back at c.by_ones.ensures)

-- `crc32c::crc32c` meets its contract: nothing came before. Assumes nothing.
use Rattle.crc32c.proofs.Joined.{first_part}
use Rattle.crc32c.proofs.crc32c.Goals as goal

pub returns : goal.returns
returns c = search first_part

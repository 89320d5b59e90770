-- `crc32c::update` meets its contract: short bytes are divided as they stand, and long ones by what they fold into.
-- Assumes nothing.
use Rattle.crc32c.proofs.Joined.{complemented, folded}
use Rattle.crc32c.proofs.update.Goals as goal

pub returns-then-s-lt-LONG : goal.returns-then-s-lt-LONG
returns-then-s-lt-LONG c = search complemented

pub returns : goal.returns
returns c = search folded

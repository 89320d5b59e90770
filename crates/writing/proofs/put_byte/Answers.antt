-- `writing::put_byte` meets its contract. Assumes nothing.
use Rattle.writing.proofs.Short.{byte_past, byte_put}
use Rattle.writing.proofs.put_byte.Goals as goal

pub returns-then-room-at : goal.returns-then-room-at
returns-then-room-at c = byte_past _ _ _ c.if-room-at.true

pub returns : goal.returns
returns c = byte_put _ _ _ c.if-room-at.false

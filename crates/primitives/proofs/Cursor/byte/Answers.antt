-- `primitives::Cursor::byte` meets its contract. Assumes nothing.
use Rattle.std.proofs.Common.{◌∙◌}
use Rattle.primitives.proofs.Turns.{byte_is, byte_is_not}
use Rattle.primitives.proofs.Cursor.byte.Goals as goal

pub returns-in_default : goal.returns-in_default
returns-in_default c = byte_is_not _ _ c.in_default.ensures.lookup.0

pub returns : goal.returns
returns c = byte_is _ _ _ _ c.in-Some.ensures.lookup.0 (c.from.ensures ∙ c.in-Some.ensures.lookup.1)

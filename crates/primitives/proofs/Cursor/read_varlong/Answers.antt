-- `primitives::Cursor::read_varlong` meets its contract. Assumes nothing.
use Rattle.std.proofs.Common.{w64}
use Rattle.primitives.specs.Reading.{varint_at}
use Rattle.primitives.proofs.Exits.{refused_only}
use Rattle.primitives.proofs.Numbers.{number_got}
use Rattle.primitives.proofs.Cursor.read_varlong.Goals as goal

pub returns-in_err-c : goal.returns-in_err-c
unfolding varint_at
returns-in_err-c c = refused_only _ _ _ _ c.from_residual.ensures.1 c.in_err-c.ensures

pub returns : goal.returns
returns c = number_got 64 _ _ _ _ c.in_ok-c.ensures w64 _ c.decode_zigzag_64.type_inv c.decode_zigzag_64.ensures

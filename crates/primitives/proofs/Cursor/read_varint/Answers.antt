-- `primitives::Cursor::read_varint` meets its contract. Assumes nothing.
use Rattle.std.proofs.Common.{arith, w32}
use Rattle.primitives.specs.Reading.{varint_at}
use Rattle.primitives.proofs.Exits.{refused_only}
use Rattle.primitives.proofs.Numbers.{code_fits, number_got}
use Rattle.primitives.proofs.Cursor.read_varint.Goals as goal

pub returns-in_err-c : goal.returns-in_err-c
unfolding varint_at
returns-in_err-c c = refused_only _ _ _ _ c.from_residual.ensures.1 c.in_err-c.ensures

pub returns : goal.returns
returns c = number_got 32 _ _ _ _ c.in_ok-c.ensures w32 _ c.decode_zigzag_32.type_inv c.decode_zigzag_32.ensures

pub overflow_cast-c : goal.overflow_cast-c
overflow_cast-c c = omega (arith, code_fits 32 _ _ _ _ c.in_ok-c.ensures c.type_inv.s)

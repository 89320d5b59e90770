-- `primitives::Cursor::read_uint64` meets its contract. Assumes nothing.
use Rattle.std.proofs.Common.{arith, w64}
use Rattle.primitives.specs.Reading.{big}
use Rattle.primitives.proofs.Exits.{refused_only}
use Rattle.primitives.proofs.Fields.{unsigned_got, unsigned_window}
use Rattle.primitives.proofs.Cursor.read_uint64.Goals as goal

pub returns-in_err-bytes : goal.returns-in_err-bytes
returns-in_err-bytes c =
    rw unsigned_window (refused_only _ _ _ _ c.from_residual.ensures.1 c.in_err-bytes.ensures)

pub returns : goal.returns
unfolding big
returns c = unsigned_got w64 _ _ _ _ c.in_ok-bytes.ensures c.from_be_bytes.result (omega (arith, c.from_be_bytes.ensures))

-- `primitives::Cursor::read_int64` meets its contract. Assumes nothing.
use Rattle.std.proofs.Common.{arith, w64}
use Rattle.primitives.specs.Reading.{big}
use Rattle.primitives.proofs.Exits.{refused_only}
use Rattle.primitives.proofs.Fields.{integer_got, integer_window}
use Rattle.primitives.proofs.Cursor.read_int64.Goals as goal

pub returns-in_err-bytes : goal.returns-in_err-bytes
returns-in_err-bytes c =
    rw integer_window (refused_only _ _ _ _ c.from_residual.ensures.1 c.in_err-bytes.ensures)

pub returns : goal.returns
unfolding big
returns c =
    integer_got w64 _ _ _ _ c.in_ok-bytes.ensures c.from_be_bytes.result c.from_be_bytes.type_inv _ c.from_be_bytes.ensures (omega arith)

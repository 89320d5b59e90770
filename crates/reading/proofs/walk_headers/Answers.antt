-- `reading::walk_headers` meets its contract. Assumes nothing.
use Rattle.std.proofs.Common.{◌≡◌, ◌+◌, ◌-◌, arith}
use Rattle.reading.proofs.WalkSteps.{headers_turn}
use Rattle.reading.proofs.walk_headers.Goals as goal

pub loop-row-preserved : goal.loop-row-preserved
loop-row-preserved c =
    let fewer : c.args.first + c.args.count - (c.loop-row.row + 1) ≡ c.args.first + c.args.count - c.loop-row.row - 1 = omega arith in
    rw (c.put_header.ensures, fewer) (headers_turn _ _ _ _ _ _ c.loop-row.invariant _ _ (omega arith) c.in_ok-h.ensures)

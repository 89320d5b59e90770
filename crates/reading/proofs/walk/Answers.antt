-- `reading::walk` meets its contract. Assumes nothing.
use Rattle.std.proofs.Common.{◌≡◌, ◌+◌, ◌-◌, arith}
use Rattle.reading.proofs.Turns.{start}
use Rattle.reading.proofs.WalkSteps.{walked_moves, run_turn}
use Rattle.reading.proofs.walk.Goals as goal

pub loop-row-init : goal.loop-row-init
loop-row-init c = let all : c.args.count - 0 ≡ c.args.count = omega arith in (rw all (start _ _ _ _ _), omega arith, omega arith)

pub loop-row-preserved : goal.loop-row-preserved
loop-row-preserved c =
    let m = walked_moves _ _ _ _ _ c.in_ok-n.ensures in
    let fewer : c.args.count - (c.loop-row.row + 1) ≡ c.args.count - c.loop-row.row - 1 = omega arith in
    (rw fewer (run_turn _ _ _ _ _ _ _ _ c.loop-row.invariant.0 (omega arith) c.in_ok-n.ensures), omega (arith, m), omega (arith, m))

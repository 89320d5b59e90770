-- `canonical::canonical_records` meets its contract. Assumes nothing.
use Rattle.std.proofs.Common.{◌≡◌, ◌+◌, ◌-◌, arith}
use Rattle.canonical.proofs.StrictSteps.{run_stop, run_turn, run_done}
use Rattle.canonical.proofs.canonical_records.Goals as goal

pub returns-in_default : goal.returns-in_default
returns-in_default c = run_stop _ _ _ c.loop.invariant (omega arith) c.in_default.ensures

pub loop-preserved : goal.loop-preserved
loop-preserved c =
    let fewer : c.args.count - (c.loop.counter + 1) ≡ c.args.count - c.loop.counter - 1 = omega arith in
    rw fewer (run_turn _ _ _ c.loop.invariant _ (omega arith) c.in-Some.ensures)

pub returns : goal.returns
returns c = run_done _ _ _ c.loop.invariant (omega arith)

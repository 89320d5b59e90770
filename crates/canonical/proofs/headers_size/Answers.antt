-- `canonical::headers_size` meets its contract. Assumes nothing.
use Rattle.std.proofs.Common.{◌≡◌, ◌+◌, ◌-◌, arith}
use Rattle.canonical.proofs.SizeSteps.{headers_turn}
use Rattle.canonical.proofs.headers_size.Goals as goal

pub loop-preserved : goal.loop-preserved
loop-preserved c =
    let fewer : c.args.count - (c.loop.counter + 1) ≡ c.args.count - c.loop.counter - 1 = omega arith in (
      rw fewer (headers_turn _ _ _ _ _ c.loop.invariant.0 _ _ _ _ (omega arith) c.in_ok-h.ensures c.header_size.ensures c.capped-sum.ensures),
      omega arith,
    )

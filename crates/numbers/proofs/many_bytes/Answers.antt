-- `numbers::many_bytes` meets its contract, turn by turn as `Written` has it. Assumes nothing.
use native.Mathlib.Omega.{arith}
use Rattle.numbers.proofs.Written.{begin, again, done}
use Rattle.numbers.proofs.many_bytes.Goals as goal

pub loop-rest-init : goal.loop-rest-init
loop-rest-init c = begin c.args.c c.ranges.c.fits

pub bounds-bytes-n : goal.bounds-bytes-n
bounds-bytes-n c = omega (arith, c.loop-rest.invariant.within)

pub overflow_add-n : goal.overflow_add-n
overflow_add-n c = omega (arith, c.loop-rest.invariant.within)

pub loop-rest-preserved : goal.loop-rest-preserved
loop-rest-preserved c = again c.loop-rest.invariant c.loop-rest-test.true

pub bounds-bytes-n-2 : goal.bounds-bytes-n-2
bounds-bytes-n-2 c = omega (arith, c.loop-rest.invariant.within)

pub overflow_add-result : goal.overflow_add-result
overflow_add-result c = omega (arith, c.loop-rest.invariant.within)

pub returns : goal.returns
returns c = done c.loop-rest.invariant c.loop-rest-test.false

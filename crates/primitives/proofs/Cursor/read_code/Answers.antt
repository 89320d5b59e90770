-- `primitives::Cursor::read_code` meets its contract, turn by turn as `Turns` has it. Assumes nothing.
use Rattle.std.proofs.Common.{◌+◌, ◌-◌, ◌≡◌, sym, arith}
use Rattle.primitives.proofs.Exits.{refused}
use Rattle.primitives.proofs.Turns.{begin, past, byte_below, turn_fits, turn_grows, ends, again, last_fits, lasts, beyond}
use Rattle.primitives.proofs.Cursor.read_code.Goals as goal

pub loop-init : goal.loop-init
loop-init c = let e : c.args.full - 0 ≡ c.args.full = omega arith in rw e (begin _ _ _ _ c.requires)

pub returns-in_err-b : goal.returns-in_err-b
returns-in_err-b c = refused _ _ _ c.from_residual.ensures.1 (past c.loop.invariant c.in_err-b.ensures)

pub overflow_mul-result : goal.overflow_mul-result
overflow_mul-result c = omega (arith, turn_fits c.loop.invariant c.in_ok-b.ensures (omega arith) c.in_ok-b.b (omega arith))

pub overflow_add-result : goal.overflow_add-result
overflow_add-result c = omega (arith, turn_fits c.loop.invariant c.in_ok-b.ensures (omega arith) c.in_ok-b.b (omega arith))

pub returns-then-b-lt128 : goal.returns-then-b-lt128
returns-then-b-lt128 c = ends c.loop.invariant c.in_ok-b.ensures (omega arith) c.if-b-lt128.true

pub overflow_mul-v : goal.overflow_mul-v
overflow_mul-v c =
    let byte = byte_below _ _ c.type_inv.s c.in_ok-b.ensures in
    omega (arith, turn_fits c.loop.invariant c.in_ok-b.ensures (omega arith) (c.in_ok-b.b - 128) (omega (arith, byte)))

pub overflow_add-v : goal.overflow_add-v
overflow_add-v c =
    let byte = byte_below _ _ c.type_inv.s c.in_ok-b.ensures in
    omega (arith, turn_fits c.loop.invariant c.in_ok-b.ensures (omega arith) (c.in_ok-b.b - 128) (omega (arith, byte)))

pub overflow_mul-p : goal.overflow_mul-p
overflow_mul-p c = omega (arith, turn_grows c.loop.invariant c.in_ok-b.ensures (omega arith))

pub loop-preserved : goal.loop-preserved
loop-preserved c =
    let byte = byte_below _ _ c.type_inv.s c.in_ok-b.ensures in
    let e : c.args.full - c.loop.counter - 1 ≡ c.args.full - (c.loop.counter + 1) = omega arith in
    rw (sym e) (again c.loop.invariant c.in_ok-b.ensures (omega arith) c.if-b-lt128.false byte)

pub returns-in_err-b-2 : goal.returns-in_err-b-2
returns-in_err-b-2 c = refused _ _ _ c.from_residual-in_err-b-2.ensures.1 (past c.loop.invariant c.in_err-b-2.ensures)

pub overflow_mul-result-then-b-limit : goal.overflow_mul-result-then-b-limit
overflow_mul-result-then-b-limit c = omega (arith, last_fits c.loop.invariant c.in_ok-b-2.ensures (omega arith) c.if-b-limit.true)

pub overflow_add-result-then-b-limit : goal.overflow_add-result-then-b-limit
overflow_add-result-then-b-limit c = omega (arith, last_fits c.loop.invariant c.in_ok-b-2.ensures (omega arith) c.if-b-limit.true)

pub returns-then-b-limit : goal.returns-then-b-limit
returns-then-b-limit c = lasts c.loop.invariant c.in_ok-b-2.ensures (omega arith) c.if-b-limit.true

pub returns : goal.returns
returns c = beyond c.loop.invariant c.in_ok-b-2.ensures (omega arith) c.if-b-limit.false

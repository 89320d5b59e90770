-- `writing::one_byte` meets its contract, by the sign of the number. Assumes nothing.
use mathlib.Core.Path.{ap}
use native.Mathlib.Omega.{arith}
use mir.Syntax.{w64}
use Rattle.numbers.specs.Format.{zigzag}
use Rattle.numbers.proofs.Signs.{nonnegative, negative, negative_fits}
use Rattle.writing.proofs.one_byte.Goals as goal

pub overflow_cast-result : goal.overflow_cast-result
overflow_cast-result c =
    let u = nonnegative w64 c.args.n c.ranges.n c.if-n-ge0.true in
    (u.nonneg, omega arith)

pub overflow_mul-result : goal.overflow_mul-result
overflow_mul-result c =
    let u = nonnegative w64 c.args.n c.ranges.n c.if-n-ge0.true in
    omega arith

pub overflow_cast-result-then-n-ge0 : goal.overflow_cast-result-then-n-ge0
overflow_cast-result-then-n-ge0 c =
    let u = nonnegative w64 c.args.n c.ranges.n c.if-n-ge0.true in
    omega (arith, ap zigzag u.is)

pub returns-then-n-ge0 : goal.returns-then-n-ge0
returns-then-n-ge0 c =
    let u = nonnegative w64 c.args.n c.ranges.n c.if-n-ge0.true in
    omega (arith, ap zigzag u.is)

pub overflow_sub-result : goal.overflow_sub-result
overflow_sub-result c = negative_fits w64 c.args.n c.ranges.n c.if-n-ge0.false

pub overflow_cast-result-2 : goal.overflow_cast-result-2
overflow_cast-result-2 c =
    let u = negative w64 c.args.n c.ranges.n c.if-n-ge0.false in
    (u.nonneg, omega arith)

pub overflow_mul-result-2 : goal.overflow_mul-result-2
overflow_mul-result-2 c =
    let u = negative w64 c.args.n c.ranges.n c.if-n-ge0.false in
    omega arith

pub overflow_add-result : goal.overflow_add-result
overflow_add-result c =
    let u = negative w64 c.args.n c.ranges.n c.if-n-ge0.false in
    omega arith

pub overflow_cast-result-3 : goal.overflow_cast-result-3
overflow_cast-result-3 c =
    let u = negative w64 c.args.n c.ranges.n c.if-n-ge0.false in
    omega (arith, ap zigzag u.is)

pub returns : goal.returns
returns c =
    let u = negative w64 c.args.n c.ranges.n c.if-n-ge0.false in
    omega (arith, ap zigzag u.is)

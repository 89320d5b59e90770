-- `writing::put_long` meets its contract. Assumes nothing.
use mathlib.Core.Path.{refl, ◌∙◌}
use native.Mathlib.Omega.{arith}
use Rattle.writing.proofs.Short.{Long, long_is, long_turn, long_done}
use Rattle.writing.proofs.put_long.Goals as goal

pub bounds-e-0 : goal.bounds-e-0
bounds-e-0 c =
    let l : Long c.args.n.0 c.encode-e.result = long_is _ _ c.encode-e.ensures c.requires in
    omega (arith, l.two, l.inside)

pub bounds-e-1 : goal.bounds-e-1
bounds-e-1 c =
    let l : Long c.args.n.0 c.encode-e.result = long_is _ _ c.encode-e.ensures c.requires in
    omega (arith, l.two, l.inside)

pub slice_bounds-b-items-count : goal.slice_bounds-b-items-count
slice_bounds-b-items-count c =
    let l : Long c.args.n.0 c.encode-e.result = long_is _ _ c.encode-e.ensures c.requires in
    omega (arith, l.two)

pub slice_bounds-b-items-start : goal.slice_bounds-b-items-start
slice_bounds-b-items-start c =
    let l : Long c.args.n.0 c.encode-e.result = long_is _ _ c.encode-e.ensures c.requires in
    omega (arith, l.two)

pub slice_bounds-b-items-end : goal.slice_bounds-b-items-end
slice_bounds-b-items-end c =
    let l : Long c.args.n.0 c.encode-e.result = long_is _ _ c.encode-e.ensures c.requires in
    omega (arith, l.inside)

pub loop-b-init : goal.loop-b-init
loop-b-init c = refl

pub loop-b-preserved : goal.loop-b-preserved
loop-b-preserved c = long_turn _ _ _ _ c.loop-b-test.true c.put_byte-at-in-loop-b.ensures ∙ c.loop-b.invariant

pub returns : goal.returns
returns c =
    let l : Long c.args.n.0 c.encode-e.result = long_is _ _ c.encode-e.ensures c.requires in
    long_done _ _ l _ _ _ c.put_byte-second.ensures c.put_byte-at.ensures _ refl _ _ _ c.loop-b-test.false c.loop-b.invariant

-- `writing::Rows::size_headers` meets its contract. Assumes nothing.
use Prim.Native.Nat.{◌+◌, ◌-◌}
use mathlib.Core.Path.{◌≡◌, refl}
use native.Mathlib.Omega.{arith}
use Rattle.asking.proofs.Exits.{refused}
use Rattle.writing.proofs.Loops.{sizes_stop, sizes_turn, sizes_end}
use Rattle.writing.proofs.Rows.size_headers.Goals as goal

pub loop-row-init : goal.loop-row-init
loop-row-init c = let all : c.args.first + c.args.count - c.args.first ≡ c.args.count = omega arith in (rw all refl, c.requires.1)

pub returns-in_err-h : goal.returns-in_err-h
returns-in_err-h c =
    refused _ _ _ _ c.from_residual.ensures.1
    (sizes_stop _ _ _ _ _ _ c.loop-row.invariant.0 (omega arith) _ (omega arith) c.in_err-h.ensures)

pub overflow_add-sum : goal.overflow_add-sum
overflow_add-sum c = omega (arith, c.header_size.ensures)

pub loop-row-preserved : goal.loop-row-preserved
loop-row-preserved c = (
  sizes_turn _ _ _ _ _ _ c.loop-row.invariant.0 (omega arith) _ (omega arith) _ c.in_ok-h.ensures _ _ c.header_size.ensures c.capped-sum.ensures,
  omega (arith, c.capped-sum.ensures),
)

pub returns : goal.returns
returns c = sizes_end _ _ _ _ _ _ _ c.loop-row.invariant.0 (omega arith) c.loop-row.invariant.1 (omega arith)

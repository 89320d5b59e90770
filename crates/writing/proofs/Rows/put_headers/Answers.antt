-- `writing::Rows::put_headers` meets its contract. Assumes nothing.
use Prim.Native.Nat.{◌+◌, ◌-◌}
use mathlib.Core.Path.{◌≡◌, refl}
use native.Mathlib.Omega.{arith}
use Rattle.asking.proofs.Exits.{refused}
use Rattle.writing.proofs.Inside.{header_inside}
use Rattle.writing.proofs.Loops.{headers_stop, headers_turn, headers_end}
use Rattle.writing.proofs.Rows.put_headers.Goals as goal

pub loop-row-init : goal.loop-row-init
loop-row-init c = let all : c.args.first + c.args.count - c.args.first ≡ c.args.count = omega arith in rw all refl

pub returns-in_err-h : goal.returns-in_err-h
returns-in_err-h c =
    refused _ _ _ _ c.from_residual.ensures.1 (headers_stop _ _ _ _ _ _ c.loop-row.invariant (omega arith) _ (omega arith) c.in_err-h.ensures)

pub put_header-at-requires : goal.put_header-at-requires
put_header-at-requires c = header_inside _ _ _ (omega arith) _ c.in_ok-h.ensures

pub loop-row-preserved : goal.loop-row-preserved
loop-row-preserved c =
    headers_turn _ _ _ _ _ _ c.loop-row.invariant (omega arith) _ (omega arith) _ c.in_ok-h.ensures _ c.put_header-at.ensures

pub returns : goal.returns
returns c = headers_end _ _ _ _ _ _ _ _ c.loop-row.invariant (omega arith) (omega arith)

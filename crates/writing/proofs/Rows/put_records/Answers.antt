-- `writing::Rows::put_records` meets its contract. Assumes nothing.
use Prim.Native.Nat.{◌-◌}
use mathlib.Core.Path.{◌≡◌, refl}
use native.Mathlib.Omega.{arith}
use Rattle.asking.proofs.Exits.{refused}
use Rattle.writing.proofs.Loops.{records_turn, records_stop, records_end}
use Rattle.writing.proofs.Rows.put_records.Goals as goal

pub loop-row-init : goal.loop-row-init
loop-row-init c = let all : c.args.count - 0 ≡ c.args.count = omega arith in rw all refl

pub put_record-requires : goal.put_record-requires
put_record-requires c = omega arith

pub returns-in_err-at : goal.returns-in_err-at
returns-in_err-at c =
    refused _ _ _ _ c.from_residual.ensures.1
    (records_stop _ _ _ _ _ _ c.in_err-at.ensures _ _ c.loop-row.invariant (omega arith))

pub loop-row-preserved : goal.loop-row-preserved
loop-row-preserved c = records_turn _ _ _ _ _ _ _ c.in_ok-at.ensures _ _ c.loop-row.invariant _ (omega arith)

pub returns : goal.returns
returns c = records_end _ _ _ _ _ _ _ _ c.loop-row.invariant (omega arith)

-- `writing::Rows::size_records` meets its contract. Assumes nothing.
use Prim.Native.Nat.{◌-◌}
use mathlib.Core.Path.{◌≡◌}
use native.Mathlib.Omega.{arith}
use Rattle.asking.proofs.Exits.{refused}
use Rattle.writing.proofs.Loops.{record_sizes_start, record_size_small, record_sizes_turn, record_sizes_stop, record_sizes_end}
use Rattle.writing.proofs.Rows.size_records.Goals as goal

pub loop-row-init : goal.loop-row-init
loop-row-init c = let all : c.args.count - 0 ≡ c.args.count = omega arith in (rw all (record_sizes_start _ _ _ _), omega arith)

pub size_record-requires : goal.size_record-requires
size_record-requires c = omega arith

pub returns-in_err-bytes : goal.returns-in_err-bytes
returns-in_err-bytes c =
    refused _ _ _ _ c.from_residual.ensures.1
    (record_sizes_stop _ _ _ _ _ c.in_err-bytes.ensures _ _ _ c.loop-row.invariant.0 (omega arith))

pub overflow_add-sum : goal.overflow_add-sum
overflow_add-sum c = omega (arith, record_size_small _ _ _ _ _ _ c.in_ok-bytes.ensures)

pub loop-row-preserved : goal.loop-row-preserved
loop-row-preserved c = (
  record_sizes_turn _ _ _ _ _ _ c.in_ok-bytes.ensures _ _ _ c.loop-row.invariant.0 _ (omega arith) _ c.capped-sum.ensures,
  omega (arith, c.capped-sum.ensures),
)

pub returns : goal.returns
returns c = record_sizes_end _ _ _ _ _ _ _ c.loop-row.invariant.0 (omega arith) c.loop-row.invariant.1

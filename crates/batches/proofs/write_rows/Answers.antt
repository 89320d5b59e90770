-- `batches::write_rows` meets its contract: what was written of the records tells the length and the
-- count. Assumes nothing.
use native.Mathlib.Omega.{arith}
use Rattle.layout.specs.Fixed.{view_batch_fields}
use Rattle.batches.proofs.Giving.{rows_refused, rows_sizes, rows_written}
use Rattle.batches.proofs.write_rows.Goals as goal

pub returns-in_err-size : goal.returns-in_err-size
returns-in_err-size c = rows_refused _ _ _ _ _ _ _ c.in_err-size.ensures _ c.from_residual.ensures.1

pub overflow_add-end : goal.overflow_add-end
overflow_add-end c =
    let w = rows_sizes (view_batch_fields c.args.fields) _ _ _ _ _ _ c.in_ok-size.ensures in
    record { fits = omega (arith, w.short) }

pub overflow_cast-count : goal.overflow_cast-count
overflow_cast-count c = record { sfits = (rows_sizes (view_batch_fields c.args.fields) _ _ _ _ _ _ c.in_ok-size.ensures).many }

pub finish-requires : goal.finish-requires
finish-requires c =
    let w = rows_sizes (view_batch_fields c.args.fields) _ _ _ _ _ _ c.in_ok-size.ensures in
    (omega arith, omega (arith, w.short), w.room)

pub returns : goal.returns
returns c = rows_written _ _ _ _ _ _ _ c.in_ok-size.ensures _ c.finish.ensures

-- `batches::check_at` meets its contract. Assumes nothing.
use Rattle.opening.proofs.Judging.{cut_length}
use Rattle.batches.proofs.Answering.{opened_within, check_unopened, check_marker, check_records_as}
use native.Mathlib.Omega.{arith}
use Rattle.batches.proofs.check_at.Goals as goal

pub returns-in_err-opened : goal.returns-in_err-opened
returns-in_err-opened c = check_unopened _ _ _ _ _ c.from_residual.ensures.1 c.in_err-opened.ensures

pub overflow_add-s : goal.overflow_add-s
overflow_add-s c = omega (arith, opened_within _ _ _ c.in_ok-opened.ensures)

pub slice_bounds-s-end : goal.slice_bounds-s-end
slice_bounds-s-end c = cut_length _ _ (opened_within _ _ _ c.in_ok-opened.ensures)

pub returns-then-opened : goal.returns-then-opened
returns-then-opened c =
    check_marker _ _ _ _ c.in_ok-opened.ensures _ c.from-batch.ensures c.if-opened.true _ c.check_marker.ensures

pub returns : goal.returns
returns c =
    check_records_as _ _ _ _ c.in_ok-opened.ensures _ c.from-batch.ensures c.if-opened.false _ _ _ c.read_body-read.ensures _
    c.as_check.ensures

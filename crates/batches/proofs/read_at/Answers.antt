-- `batches::read_at` meets its contract. Assumes nothing.
use Rattle.opening.proofs.Judging.{cut_length}
use Rattle.batches.proofs.Answering.{opened_within, read_unopened, read_marker_got, read_marker_wrong, read_records_found, read_records_wrong}
use native.Mathlib.Omega.{arith}
use Rattle.batches.proofs.read_at.Goals as goal

pub returns-in_err-opened : goal.returns-in_err-opened
returns-in_err-opened c = read_unopened _ _ _ _ _ _ _ c.from_residual.ensures.1 c.in_err-opened.ensures

pub overflow_add-s : goal.overflow_add-s
overflow_add-s c = omega (arith, opened_within _ _ _ c.in_ok-opened.ensures)

pub slice_bounds-s-end : goal.slice_bounds-s-end
slice_bounds-s-end c = cut_length _ _ (opened_within _ _ _ c.in_ok-opened.ensures)

pub returns-in_err-check_marker : goal.returns-in_err-check_marker
returns-in_err-check_marker c =
    read_marker_wrong _ _ _ _ c.in_ok-opened.ensures _ c.from-batch.ensures c.if-opened.true _ c.in_err-check_marker.ensures _ _ _
    c.from_residual-in_err-check_marker.ensures.1

pub returns-then-opened : goal.returns-then-opened
returns-then-opened c =
    read_marker_got _ _ _ _ c.in_ok-opened.ensures _ c.from-batch.ensures c.if-opened.true _ c.in_ok-check_marker.ensures _ _

pub returns-in_err-found : goal.returns-in_err-found
returns-in_err-found c =
    read_records_wrong _ _ _ _ c.in_ok-opened.ensures _ c.from-batch.ensures c.if-opened.false _ _ _ _ c.in_err-found.ensures _
    c.from_residual-in_err-found.ensures.1

pub returns : goal.returns
returns c =
    read_records_found _ _ _ _ c.in_ok-opened.ensures _ c.from-batch.ensures c.if-opened.false _ _ _ _ c.in_ok-found.ensures

-- `writing::Rows::size_record` meets its contract. Assumes nothing.
use native.Mathlib.Omega.{arith}
use Rattle.writing.proofs.Exits.{row_exit}
use Rattle.writing.proofs.Fields.{head_sound, row_wrong, row_refused, row_sized}
use Rattle.writing.proofs.Rows.size_record.Goals as goal

pub returns-in_err-r : goal.returns-in_err-r
returns-in_err-r c = row_exit _ _ _ _ c.from_residual.ensures.1 (row_wrong _ _ _ _ c.requires _ _ c.in_err-r.ensures)

pub fields_size-requires : goal.fields_size-requires
fields_size-requires c = (head_sound _ _ _ _ c.requires _ c.in_ok-r.ensures).room

pub returns-in_err-size : goal.returns-in_err-size
returns-in_err-size c =
    row_exit _ _ _ _ c.from_residual-in_err-size.ensures.1
    (row_refused _ _ _ _ c.requires _ c.in_ok-r.ensures _ _ _ c.in_err-size.ensures)

pub overflow_add-result : goal.overflow_add-result
overflow_add-result c = omega (arith, (head_sound _ _ _ _ c.requires _ c.in_ok-r.ensures).room)

pub returns : goal.returns
returns c = row_sized _ _ _ _ c.requires _ c.in_ok-r.ensures _ _ c.in_ok-size.ensures _ c.span_size.ensures

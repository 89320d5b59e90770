-- `writing::Rows::put_record` meets its contract. Assumes nothing.
use native.Mathlib.Omega.{arith}
use Rattle.writing.proofs.Exits.{row_exit}
use Rattle.writing.proofs.Fields.{head_sound, fields_small, row_wrong, row_refused, row_put}
use Rattle.writing.proofs.Rows.put_record.Goals as goal

pub returns-in_err-r : goal.returns-in_err-r
returns-in_err-r c = row_exit _ _ _ _ c.from_residual.ensures.1 (row_wrong _ _ _ _ c.requires _ _ c.in_err-r.ensures)

pub fields_size-requires : goal.fields_size-requires
fields_size-requires c = (head_sound _ _ _ _ c.requires _ c.in_ok-r.ensures).room

pub returns-in_err-size : goal.returns-in_err-size
returns-in_err-size c =
    row_exit _ _ _ _ c.from_residual-in_err-size.ensures.1
    (row_refused _ _ _ _ c.requires _ c.in_ok-r.ensures _ _ _ c.in_err-size.ensures)

pub put_fields-requires : goal.put_fields-requires
put_fields-requires c =
    let sound = head_sound _ _ _ _ c.requires _ c.in_ok-r.ensures in
    let small = fields_small c.in_ok-r.r _ _ _ _ _ _ c.in_ok-size.ensures in
    (omega (arith, small), sound.room, sound.key, sound.value)

pub returns-in_err-next : goal.returns-in_err-next
returns-in_err-next c =
    row_exit _ _ _ _ c.from_residual-in_err-next.ensures.1
    (row_refused _ _ _ _ c.requires _ c.in_ok-r.ensures _ _ _ c.in_err-next.ensures)

pub overflow_add-result : goal.overflow_add-result
overflow_add-result c = omega (arith, (head_sound _ _ _ _ c.requires _ c.in_ok-r.ensures).room)

pub returns : goal.returns
returns c = row_put _ _ _ _ c.requires _ c.in_ok-r.ensures _ _ c.in_ok-size.ensures _ _ c.in_ok-next.ensures

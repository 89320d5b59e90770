-- The fixed fields are put in front of a body. Assumes nothing.
use Prim.Native.Nat.{ℕ, ◌+◌, ◌-◌, ◌≤◌}
use mathlib.Core.Path.{◌≡◌, ap, ◌∙◌}
use mathlib.Core.Bool.{Bool}
use mathlib.Core.List.{List, ◌++◌}
use native.Mathlib.Omega.{arith}
use lib.IntN.{ℤ, pos}
use lib.ListN.{length, take, drop}
use mir.Syntax.{w32}
use mir.Val.{to_z}
use mir.ValLaws.{to_z_pos}
use Rattle.numbers.specs.Promises.{PutPromise}
use Rattle.numbers.proofs.Pens.{put_emits, emit_inside}
use Rattle.layout.specs.declared.BatchFields.{BatchFields}
use Rattle.layout.specs.Table.{uncounted, fixed_part}
use Rattle.layout.specs.Format.{bit, attributes_for}
use Rattle.layout.specs.Fixed.{view_batch_fields, fixed_before}
use Rattle.layout.proofs.Putting.{fixed_length}
use Rattle.batches.specs.Writer.{most_length}

pub finish_put : (y : BatchFields) (is_control : Bool) (attributes count : ℤ) (out : List ℕ) (end : ℕ)
    (fixed : List ℕ) (next : ℕ) (output : List ℕ) → fixed_part ≤ end → end ≤ uncounted + most_length → end ≤ length out
    → attributes ≡ pos (attributes_for (view_batch_fields y) (bit is_control))
    → fixed ≡ fixed_before (view_batch_fields y) (to_z w32 (end - uncounted)) attributes count (take (end - fixed_part) (drop fixed_part out))
    → PutPromise fixed out 0 (record { next = next; output = output })
    → output
    ≡ fixed_before (view_batch_fields y) (pos (end - uncounted)) (pos (attributes_for (view_batch_fields y) (bit is_control))) count
    (take (end - fixed_part) (drop fixed_part out))
    ++ drop fixed_part out
finish_put y is_control attributes count out end fixed next output least most inside made is put =
    let body = take (end - fixed_part) (drop fixed_part out) in
    let long : length fixed ≡ fixed_part = ap length is ∙ fixed_length (view_batch_fields y) (to_z w32 (end - uncounted)) attributes count body in
    let place : 0 + length fixed ≡ fixed_part = omega arith in
    let counted = to_z_pos w32 (end - uncounted) (omega arith) in
    let fixed-is = is ∙ (λ i. fixed_before (view_batch_fields y) (counted i) (made i) count body) in
    emit_inside 0 out fixed next output (put_emits 0 out fixed next output put) (omega arith) ∙ (λ i. fixed-is i ++ drop (place i) out)

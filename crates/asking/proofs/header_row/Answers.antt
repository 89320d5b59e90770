-- `asking::header_row` meets its contract. Assumes nothing.
use native.Mathlib.Omega.{arith}
use Rattle.std.proofs.Common.{rules}
use Rattle.asking.proofs.Exits.{refused}
use Rattle.asking.proofs.HeaderRows.{key_wrong, value_wrong, key_inside, header_got, header_not_utf8}
use Rattle.asking.proofs.header_row.Goals as goal

pub returns-in_err-key : goal.returns-in_err-key
returns-in_err-key c = refused _ _ _ _ c.from_residual.ensures.1 (key_wrong _ _ _ (search rules) (search rules) _ c.in_err-key.ensures)

pub returns-in_err-value : goal.returns-in_err-value
returns-in_err-value c =
    refused _ _ _ _ c.from_residual-in_err-value.ensures.1
    (value_wrong _ _ _ (search rules) (search rules) _ c.in_ok-key.ensures (search rules) (search rules) _ c.in_err-value.ensures)

pub overflow_add-end : goal.overflow_add-end
overflow_add-end c = omega (arith, key_inside c.args.headers.now c.args.source.now c.args.row (search rules) (search rules) _ c.in_ok-key.ensures)

pub slice_bounds-is_utf8-end : goal.slice_bounds-is_utf8-end
slice_bounds-is_utf8-end c = omega (arith, key_inside c.args.headers.now c.args.source.now c.args.row (search rules) (search rules) _ c.in_ok-key.ensures)

pub returns-then-is_utf8 : goal.returns-then-is_utf8
returns-then-is_utf8 c =
    header_got _ _ _ (search rules) (search rules) _ c.in_ok-key.ensures (search rules) (search rules) _ c.in_ok-value.ensures _
    c.is_utf8.ensures c.if-is_utf8.true

pub returns-else-is_utf8 : goal.returns-else-is_utf8
returns-else-is_utf8 c =
    header_not_utf8 _ _ _ (search rules) (search rules) _ c.in_ok-key.ensures (search rules) (search rules) _ c.in_ok-value.ensures _
    c.is_utf8.ensures c.if-is_utf8.false

-- `asking::record_row` meets its contract. Assumes nothing.
use Rattle.std.proofs.Common.{rules}
use Rattle.asking.proofs.Exits.{refused}
use Rattle.asking.proofs.RecordRows.{offset_wide, key_wrong, value_wrong, count_wrong, record_got}
use Rattle.asking.proofs.record_row.Goals as goal

pub returns-in_err-offset_delta : goal.returns-in_err-offset_delta
returns-in_err-offset_delta c =
    refused _ _ _ _ c.from_residual.ensures.1 (offset_wide _ _ _ _ (search rules) c.in_err-offset_delta.ensures)

pub returns-in_err-key : goal.returns-in_err-key
returns-in_err-key c =
    refused _ _ _ _ c.from_residual-in_err-key.ensures.1
    (key_wrong _ _ _ _ (search rules) (search rules) _ c.in_ok-offset_delta.ensures (search rules) (search rules) _ c.in_err-key.ensures)

pub returns-in_err-value : goal.returns-in_err-value
returns-in_err-value c =
    refused _ _ _ _ c.from_residual-in_err-value.ensures.1
    (value_wrong _ _ _ _ (search rules) (search rules) _ c.in_ok-offset_delta.ensures (search rules) (search rules) _ c.in_ok-key.ensures
    (search rules) (search rules) _ c.in_err-value.ensures)

pub returns-in_err-headers : goal.returns-in_err-headers
returns-in_err-headers c =
    refused _ _ _ _ c.from_residual-in_err-headers.ensures.1
    (count_wrong _ _ _ _ (search rules) (search rules) _ c.in_ok-offset_delta.ensures (search rules) (search rules) _ c.in_ok-key.ensures
    (search rules) (search rules) _ c.in_ok-value.ensures (search rules) (search rules) _ c.in_err-headers.ensures)

pub returns : goal.returns
returns c =
    record_got _ _ _ _ (search rules) (search rules) _ c.in_ok-offset_delta.ensures (search rules) (search rules) _ c.in_ok-key.ensures
    (search rules) (search rules) _ c.in_ok-value.ensures (search rules) (search rules) _ c.in_ok-headers.ensures

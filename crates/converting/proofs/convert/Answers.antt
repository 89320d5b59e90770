-- `converting::convert` meets its contract. Assumes nothing.
use Rattle.opening.proofs.Judging.{cut_length}
use Rattle.converting.proofs.Giving.{consumed_within, convert_copied, convert_more, convert_refused, to_rekey}
use Rattle.std.proofs.Common.{Err, ap, ◌∙◌}
use borrow.Author.Rules.{rules}
use Rattle.converting.proofs.convert.Goals as goal

pub slice_bounds-copy-end : goal.slice_bounds-copy-end
slice_bounds-copy-end c = search (cut_length, consumed_within)

pub rekey-requires : goal.rekey-requires
rekey-requires c = search (to_rekey, rules)

pub returns-in-Ok : goal.returns-in-Ok
returns-in-Ok c = search convert_copied

pub returns-in-Err-MoreBytes : goal.returns-in-Err-MoreBytes
returns-in-Err-MoreBytes c =
    convert_more _ _ c.check.ensures _ _ (c.in-Err-MoreBytes.is ∙ ap Err c.in-Err-MoreBytes.field-0-is)

pub returns-in_default : goal.returns-in_default
returns-in_default c =
    convert_refused _ _ c.check.ensures _ _ (c.in-Err-Refused.is ∙ ap Err c.in-Err-Refused.field-0-is) c.in_default.not-BareMarker

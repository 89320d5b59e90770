-- `writing::Rows::put_fields` meets its contract. Assumes nothing.
use Rattle.std.proofs.Common.{rules}
use Rattle.writing.proofs.Fields.{fields_put}
use Rattle.writing.proofs.Rows.put_fields.Goals as goal

pub returns : goal.returns
returns c =
    fields_put _ _ _ _ c.args.r (search rules) (search rules) _ _ _ c.put_start-at_key.ensures c.put_middle-at_headers.ensures
    c.put_headers.ensures

-- `oddrafisk::asked::entries_asked` meets its contract. Assumes nothing.
use borrow.Author.Rules.{rules}
use Rattle.oddrafisk.proofs.Asking.{fields_wrong, kind_wrong, both_got}
use Rattle.oddrafisk.proofs.asked.entries_asked.Goals as goal

pub returns-in_err-batch : goal.returns-in_err-batch
returns-in_err-batch c = fields_wrong _ _ c.fields_asked.ensures c.in_err-batch.was c.from_residual.ensures

pub returns-in_err-kind : goal.returns-in_err-kind
returns-in_err-kind c = kind_wrong _ _ c.fields_asked.ensures _ c.in_ok-batch.was (search rules) (search rules) _ c.kind_asked.ensures c.in_err-kind.was c.from_residual-in_err-kind.ensures

pub returns : goal.returns
returns c = both_got _ _ c.fields_asked.ensures _ c.in_ok-batch.was (search rules) (search rules) _ c.kind_asked.ensures _ c.in_ok-kind.was

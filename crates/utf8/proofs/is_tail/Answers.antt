-- `utf8::is_tail` meets its contract, by the range that it asks. Assumes nothing.
use mathlib.Core.Path.{◌∙◌}
use Rattle.utf8.proofs.Turns.{contains_holds}
use Rattle.utf8.proofs.is_tail.Goals as goal

pub returns : goal.returns
returns c =
    let e = c.new.ensures in
    c.contains.ensures.value ∙ contains_holds c.new.result c.args.octet e.exhausted e.start e.end

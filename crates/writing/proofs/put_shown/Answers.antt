-- `writing::put_shown` meets its contract. Assumes nothing.
use Rattle.std.proofs.Common.{rules}
use Rattle.writing.proofs.Pens.{null_put, shown_put, shown_inside}
use Rattle.writing.proofs.put_shown.Goals as goal

pub put_span-requires : goal.put_span-requires
put_span-requires c = search (shown_inside, rules)

pub returns-in-None : goal.returns-in-None
returns-in-None c = search null_put

pub returns-in-Some : goal.returns-in-Some
returns-in-Some c = search shown_put

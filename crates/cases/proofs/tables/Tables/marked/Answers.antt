-- `cases::tables::Tables::marked` meets its contract: at each place stands what the closure gave there. Assumes nothing.
use Rattle.std.proofs.Common.{rules, pos}
use Rattle.cases.proofs.tables.Tables.marked.Goals as goal

pub returns-clause-records : goal.returns-clause-records
returns-clause-records c k h = search (rules, (c.from_fn.ensures.items.at k (pos 0) h).2)

pub returns-clause-headers : goal.returns-clause-headers
returns-clause-headers c k h = search (rules, (c.from_fn-2.ensures.items.at k (pos 0) h).2)

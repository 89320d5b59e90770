-- `batches::write_marker` meets its contract. Assumes nothing.
use Rattle.batches.proofs.Giving.{marker_short, marker_written}
use borrow.Author.Rules.{rules}
use Rattle.batches.proofs.write_marker.Goals as goal

pub returns-then-output-lt-MARKED : goal.returns-then-output-lt-MARKED
returns-then-output-lt-MARKED c = search (marker_short, rules)

pub returns : goal.returns
returns c = search (marker_written, rules)

-- `asking::bytes_asked` meets its contract. Assumes nothing.
use Rattle.asking.proofs.Asks.{bytes_wrong, bytes_got}
use Rattle.asking.proofs.Exits.{refused}
use Rattle.asking.proofs.bytes_asked.Goals as goal

pub returns-in_err-span_asked : goal.returns-in_err-span_asked
returns-in_err-span_asked c =
    refused _ _ _ _ c.from_residual.ensures.1 (bytes_wrong _ _ _ c.ranges.start c.ranges.len _ c.in_err-span_asked.ensures)

pub returns : goal.returns
returns c = bytes_got _ _ _ c.ranges.start c.ranges.len _ _ c.in_ok-span_asked.ensures c.ok_or.ensures.value

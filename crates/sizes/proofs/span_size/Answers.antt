-- `sizes::span_size` meets its contract. Assumes nothing.
use Rattle.sizes.proofs.Steps.{span_short, span_got}
use Rattle.sizes.proofs.span_size.Goals as goal

pub returns-then-len-lt64 : goal.returns-then-len-lt64
returns-then-len-lt64 c = search span_short

pub returns : goal.returns
returns c = search span_got

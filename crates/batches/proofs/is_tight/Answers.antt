-- `batches::is_tight` meets its contract: the tests, in their order. Assumes nothing.
use Rattle.batches.proofs.Strictly.{tight_first, tight_second, tight_third}
use Rattle.batches.proofs.is_tight.Goals as goal

pub returns-then-bytes-ne0 : goal.returns-then-bytes-ne0
returns-then-bytes-ne0 c = search tight_first

pub returns-then-bytes-ge64 : goal.returns-then-bytes-ge64
returns-then-bytes-ge64 c = search tight_second

pub returns : goal.returns
returns c = search tight_third

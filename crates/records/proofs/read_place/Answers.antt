-- `records::read_place` meets its contract. Assumes nothing.
use Rattle.std.proofs.Common.{arith}
use Rattle.records.proofs.FieldSteps.{place_is}
use Rattle.records.proofs.read_place.Goals as goal

pub returns : goal.returns
returns c = place_is _ _ _ _ c.in_ok-x.ensures (omega arith) _ c.from.ensures

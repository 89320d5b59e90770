-- `markers::ControlBatchRecord::read_bare` meets its contract. Assumes nothing.
use Rattle.std.proofs.Common.{rules}
use Rattle.primitives.proofs.Exits.{refused}
use Rattle.opening.specs.Judgement.{bare_marker_at}
use Rattle.markers.proofs.ControlBatchRecord.read_bare.Goals as goal

pub returns-in_err-marker : goal.returns-in_err-marker
unfolding bare_marker_at
returns-in_err-marker c = refused _ _ _ c.from_residual-in_err-marker.ensures.1 (search (c.in_err-marker.ensures, rules))

-- `markers::ControlBatchRecord::keyed_stands` meets its contract. Assumes nothing.
use Rattle.markers.proofs.Comparing.{unread_stands_not, read_stands}
use Rattle.markers.proofs.ControlBatchRecord.keyed_stands.Goals as goal

pub returns-in_default : goal.returns-in_default
returns-in_default c = unread_stands_not _ _ c.in_default.ensures

pub returns : goal.returns
returns c = read_stands _ _ _ _ c.in-Ok.ensures _ c.bytes-bytes.ensures _ c.stand.ensures

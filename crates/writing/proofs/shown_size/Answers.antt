-- `writing::shown_size` meets its contract. Assumes nothing.
use Rattle.writing.proofs.Sizing.{null_size, shown_sized}
use Rattle.writing.proofs.shown_size.Goals as goal

pub returns-in-None : goal.returns-in-None
returns-in-None c = null_size _ c.in-None.is

pub returns-in-Some : goal.returns-in-Some
returns-in-Some c = search shown_sized

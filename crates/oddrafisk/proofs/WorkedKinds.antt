-- The numbers of the kinds of the worked batches, by computation. Assumes nothing.
use mathlib.Core.Path.{refl}
use Rattle.oddrafisk.specs.Worked.{WorkedKinds}

pub worked_kinds : WorkedKinds
worked_kinds = (refl, refl)

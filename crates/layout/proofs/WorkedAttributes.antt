-- The attributes of the worked batches, by computation. Assumes nothing.
use mathlib.Core.Path.{refl}
use Rattle.layout.specs.Worked.{WorkedAttributes}

pub worked_attributes : WorkedAttributes
worked_attributes = refl

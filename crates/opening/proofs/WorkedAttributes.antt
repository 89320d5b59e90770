-- The attributes of the worked batches, by computation. Assumes nothing.
use mathlib.Core.Path.{refl}
use Rattle.primitives.specs.Reading.{big}
use Rattle.examples.specs.Examples.{digits, paired, hex}
use Rattle.opening.specs.Worked.{WorkedAttributes}

pub worked_attributes : WorkedAttributes
unfolding digits paired hex big
worked_attributes = refl

-- The sizes of the worked batches, by computation. Assumes nothing.
use mathlib.Core.Path.{refl}
use Rattle.examples.specs.Examples.{digits, paired, hex}
use Rattle.examples.specs.Statements.{Measured}

pub measured : Measured
unfolding digits paired hex
measured = (refl, refl, refl)

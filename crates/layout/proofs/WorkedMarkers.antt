-- The types of the markers of the worked batches, by computation. Assumes nothing.
use mathlib.Core.Path.{refl}
use Rattle.numbers.specs.Format.{big_endian}
use Rattle.examples.specs.Examples.{digits, paired, hex}
use Rattle.layout.specs.Worked.{WorkedMarkers}

pub worked_markers : WorkedMarkers
unfolding digits paired hex big_endian
worked_markers = refl

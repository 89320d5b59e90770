-- The markers of the worked batches, read and refused by computation. Assumes nothing.
use mathlib.Core.Path.{refl}
use Rattle.primitives.specs.Reading.{big, signed_by, unsigned_at, integer_at}
use Rattle.examples.specs.Examples.{digits, paired, hex}
use Rattle.opening.specs.Judgement.{bare_marker_at}
use Rattle.opening.specs.Worked.{WorkedMarkers}

pub worked_markers : WorkedMarkers
unfolding digits paired hex bare_marker_at integer_at unsigned_at big signed_by
worked_markers = (refl, refl)

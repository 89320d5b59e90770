-- That nothing stands twice in the batch in which a swap is to show, by computation. Assumes nothing.
use mathlib.Core.Path.{refl}
use Rattle.examples.specs.Examples.{text, digits, paired, hex}
use Rattle.examples.specs.Statements.{stands, repeats, header_sizes, sizes, deltas, Unlike}

pub unlike : Unlike
unfolding text digits paired hex stands repeats header_sizes sizes deltas
unlike = (refl, refl, refl)

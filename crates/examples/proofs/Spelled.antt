-- The spelling of bytes and numbers, by computation. Assumes nothing.
use mathlib.Core.Path.{refl}
use Rattle.examples.specs.Examples.{text, lines, digits, paired, hex}
use Rattle.examples.specs.Statements.{Spelled}

pub spelled : Spelled
unfolding text lines digits paired hex
spelled = (refl, refl, refl, refl)

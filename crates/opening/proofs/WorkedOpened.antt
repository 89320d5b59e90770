-- What is met before the records of the worked batches, and what is refused there, by computation. Assumes nothing.
use mathlib.Core.Path.{refl}
use Rattle.primitives.specs.Reading.{big, signed_by}
use Rattle.crc32c.specs.Crc.{bit_step, steps, over, checksum}
use Rattle.examples.specs.Examples.{digits, paired, hex}
use Rattle.opening.specs.Judgement.{total_at, opened_at}
use Rattle.opening.specs.Opened.{known_in}
use Rattle.opening.specs.Worked.{WorkedOpened, WorkedRefusals}

pub worked_opened : WorkedOpened
unfolding digits paired hex total_at known_in opened_at big signed_by checksum over steps bit_step
worked_opened = refl

pub worked_refusals : WorkedRefusals
unfolding digits paired hex total_at known_in opened_at big signed_by checksum over steps bit_step
worked_refusals = refl

-- The fixed fields of the worked batches, by computation. Assumes nothing.
use mathlib.Core.Path.{refl}
use Rattle.numbers.specs.Concat.{concat}
use Rattle.numbers.specs.Format.{big_endian}
use Rattle.crc32c.specs.Crc.{bit_step, steps, over, checksum}
use Rattle.examples.specs.Examples.{digits, paired, hex}
use Rattle.layout.specs.Fixed.{frame_bytes, times_bytes, producer_bytes, fixed_before}
use Rattle.layout.specs.Worked.{WorkedFixed}

pub worked_fixed : WorkedFixed
unfolding digits paired hex fixed_before frame_bytes times_bytes producer_bytes big_endian concat checksum over steps bit_step
worked_fixed = refl

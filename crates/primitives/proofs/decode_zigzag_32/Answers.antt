-- `primitives::decode_zigzag_32` meets its contract: the masked half is the number in two's complement. Assumes
-- nothing.
use Rattle.std.proofs.Common.{refl, arith, w32}
use Rattle.primitives.proofs.Mask.{unmasked_as}
use Rattle.primitives.proofs.decode_zigzag_32.Goals as goal

pub returns : goal.returns
returns c =
    unmasked_as w32 31 c.args.c _ _ refl c.ranges.c.fits (omega arith) (omega arith) refl c.cast_signed.type_inv
    c.cast_signed.ensures

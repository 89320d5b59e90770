-- `primitives::decode_zigzag_64` meets its contract: the masked half is the number in two's complement. Assumes
-- nothing.
use Rattle.std.proofs.Common.{refl, arith, w64}
use Rattle.primitives.proofs.Mask.{unmasked_as}
use Rattle.primitives.proofs.decode_zigzag_64.Goals as goal

pub returns : goal.returns
returns c =
    unmasked_as w64 63 c.args.c _ _ refl c.ranges.c.fits (omega arith) (omega arith) refl c.cast_signed.type_inv
    c.cast_signed.ensures

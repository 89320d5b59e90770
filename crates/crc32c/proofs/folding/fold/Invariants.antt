-- `crc32c::folding::fold` meets its contract: every turn leaves what was left, from the start to the end. Assumes
-- nothing.
use Prim.Native.Nat.{◌*◌}
use mathlib.Core.Path.{◌≡◌}
use Rattle.crc32c.specs.Crc.{over, castagnoli}
use Rattle.crc32c.specs.Folding.{window, left}
use Rattle.crc32c.proofs.folding.fold.Given as goal

abbrev pub invariant-loop-block : goal.invariant-loop-block
invariant-loop-block l = left l.s (l.block-index * 1024) (window l.w 0) ≡ over castagnoli l.register l.s

-- `crc32c::folding::take_off` meets its contract: each turn takes one byte off. Assumes nothing.
use native.Mathlib.Omega.{arith}
use borrow.Author.Rules.{rules}
use Rattle.crc32c.proofs.Kept.{taken_more}
use Rattle.crc32c.proofs.folding.take_off.Goals as goal

pub loop-j-preserved : goal.loop-j-preserved
loop-j-preserved c = taken_more _ _ c.loop-j.w _ _ (search rules) (search rules) c.requires (omega arith) c.added.ensures c.loop-j.invariant

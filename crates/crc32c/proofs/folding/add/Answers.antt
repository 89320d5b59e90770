-- `crc32c::folding::add` meets its contract: each turn stores one byte of the sum. Assumes nothing.
use native.Mathlib.Omega.{arith}
use mathlib.Core.Path.{◌≡◌, ◌∙◌}
use lib.ListN.{get_or, set, length-set}
use lib.Seq.{get_or-set_same, get_or-set_other}
use borrow.Author.Count.{below_more}
use Rattle.crc32c.specs.Folding.{front}
use Rattle.crc32c.proofs.folding.add.Goals as goal

pub loop-j-preserved : goal.loop-j-preserved
loop-j-preserved c =
    let r = c.loop-j.r in
    let j = c.loop-j.j in
    let v = c.added.result in (
      length-set r j v ∙ c.loop-j.invariant.0,
      below_more (λ k. get_or (set r j v) k 0 ≡ front (get_or c.args.end.now k 0) c.args.w.now k) j
          (λ i q. get_or-set_other r j i v 0 (λ z. omega arith) ∙ c.loop-j.invariant.1 i q)
          (get_or-set_same r j v 0 (omega arith) ∙ c.added.ensures),
    )

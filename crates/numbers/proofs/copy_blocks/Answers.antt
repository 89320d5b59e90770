-- `numbers::copy_blocks` meets its contract: the bytes before the next block are copied. Assumes nothing.
use Rattle.std.proofs.Common.{◌+◌, ◌-◌, length, take, refl, ap, ◌∙◌, arith}
use Rattle.numbers.proofs.Copies.{block_more, blocks_all}
use Rattle.numbers.proofs.copy_blocks.Goals as goal
use Rattle.numbers.proofs.copy_blocks.Goals.{else-loop-at-test, then-loop-at-test+else-last-at-gt8}

pub loop-at-preserved : goal.loop-at-preserved
loop-at-preserved c = (omega arith, block_more _ _ _ _ c.copy_block.ensures _ refl (omega arith) c.loop-at.invariant.1)

pub returns : goal.returns
returns c =
    let bytes = c.args.bytes.now in
    let at = c.loop-at.at in
    let stored = blocks_all c.loop-at-test.output bytes c.copy_block-2.new.output (length bytes - 8) c.copy_block-2.ensures in
    elim c.loop-at-test.branch [
      | else-loop-at-test w ↦ stored at (omega arith) (omega arith) (omega arith) (ap (take at) w.output-is ∙ c.loop-at.invariant.1)
      | then-loop-at-test+else-last-at-gt8 w ↦
          stored (at + 8) (omega arith) (omega arith) (omega arith)
          (ap (take (at + 8)) w.output-is ∙ block_more _ _ _ _ w.copy_block.ensures _ refl (omega arith) c.loop-at.invariant.1)
    ]

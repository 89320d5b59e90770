-- `crc32c::folding::alone` meets its contract: the window is copied to the start of zeros. Assumes nothing.
use native.Mathlib.Omega.{arith}
use mathlib.Core.Path.{ap, ◌∙◌}
use Prim.Native.Nat.{ℕ}
use mathlib.Core.List.{List}
use lib.ListN.{get_or}
use Rattle.crc32c.proofs.Copied.{window_copied, zeros_behind, at_front}
use Rattle.crc32c.proofs.folding.alone.Goals as goal

pub returns-clause-by_index : goal.returns-clause-by_index
returns-clause-by_index c = λ i h. zeros_behind _ 209 418 i (omega arith)

pub returns-clause-result_value : goal.returns-clause-result_value
returns-clause-result_value c =
    let a = c.copy_from_slice.new.self in
    let w = c.args.w.now in
    let k = c.args.k in
    window_copied a _ w k (omega arith) (λ i h. ap (λ (t : List ℕ). get_or t i 0) c.copy_from_slice.ensures.after ∙ at_front w k _ i (omega arith))

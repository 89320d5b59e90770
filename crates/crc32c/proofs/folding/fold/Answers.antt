-- `crc32c::folding::fold` meets its contract: every turn leaves what was left, from the start to the end. Assumes
-- nothing.
use Prim.Native.Nat.{ℕ, ◌+◌, ◌-◌, ◌*◌, ◌/◌}
use native.Mathlib.Omega.{arith}
use mathlib.Core.Path.{◌≡◌, ap, ap₂, ◌∙◌}
use mathlib.Core.List.{List}
use lib.ListN.{length, get_or}
use lib.Seq.{get_or-drop}
use borrow.Author.Rules.{rules}
use Rattle.numbers.specs.Bytes.{Bytes}
use Rattle.crc32c.specs.Folding.{front, left}
use Rattle.crc32c.proofs.Folds.{left_starts, left_ends}
use Rattle.crc32c.proofs.Kept.{block_lies, rest_lies}
use Rattle.crc32c.proofs.folding.fold.Goals as goal

pub loop-block-init : goal.loop-block-init
loop-block-init c = ap (left c.args.s.now 0) c.started-w.ensures ∙ left_starts c.args.s.now c.args.register (omega arith)

pub loop-block-preserved : goal.loop-block-preserved
loop-block-preserved c =
    let s = c.args.s.now in
    let i = c.loop-block.block-index in
    let b : Bytes s = search rules in
    let (lies, l) = block_lies s c.split_at.result.0.now (length s - 209) b (omega arith) c.split_at.ensures.front i c.as_chunks.ensures.front (omega (arith, c.as_chunks.ensures.front_len)) in
    let e : (i + 1) * 1024 ≡ i * 1024 + 1024 = omega arith in
    rw (e, c.slide.ensures) (rw l at (c.take_off.ensures s (i * 1024) lies) ∙ c.loop-block.invariant)

pub returns : goal.returns
returns c =
    let s = c.args.s.now in
    let m = length s - 209 in
    let k = c.loop-block.block-index in
    let u = c.alone.result in
    let b : Bytes u = search rules in
    let d : Bytes s = search rules in
    let l : length c.add.result ≡ 209 = search rules in
    let lies = rest_lies s c.split_at.result.0.now m d (omega arith) c.split_at.ensures.front c.as_chunks.ensures.back in
    let g : length c.split_at.result.0.now / 1024 ≡ k = omega (arith, c.as_chunks.ensures.front_len) in
    let e : m ≡ k * 1024 + length c.as_chunks.result.1.now = omega (arith, c.as_chunks.ensures.front_len, c.as_chunks.ensures.back_len, c.split_at.ensures.front_len) in
    left_ends s u c.add.result m b (omega arith) l c.alone.ensures.by_index
    (λ j h. c.add.ensures j h ∙ ap (λ (x : ℕ). front x u j) (ap (λ (t : List ℕ). get_or t j 0) c.split_at.ensures.back ∙ get_or-drop m s j 0))
    ∙ ap₂ (left s) e c.alone.ensures.result_value ∙ c.take_off-2.ensures s (k * 1024) (rw g at lies) ∙ c.loop-block.invariant

-- `utf8::ascii_blocks` meets its contract: each block that is counted is ASCII. Assumes nothing.
use Prim.Native.Nat.{ℕ, ◌<◌, ◌≤◌}
use mathlib.Core.Path.{◌≡◌}
use mathlib.Core.List.{[]}
use mathlib.Core.Bool.{true}
use native.Mathlib.Omega.{arith}
use borrow.Author.Rules.{rules}
use lib.ListN.{length, get_or}
use Rattle.std.proofs.lemmas.Grind.{common_steps}
use Rattle.utf8.proofs.Turns.{ascii, ascii_blocks}
use Rattle.utf8.proofs.ascii_blocks.Goals as goal

pub returns-clause-same : goal.returns-clause-same
returns-clause-same c =
    let e = c.as_chunks.ensures in
    let h : (k : ℕ) → k < c.count.result → ascii (get_or c.as_chunks.result.0.now k []) ≡ true = λ k h. grind (arith, common_steps) in
    let l : c.count.result ≤ length c.as_chunks.result.0.now = search rules in
    ascii_blocks _ c.count.result c.args.s.now (rw e.front_len at l) (rw e.front at h)

-- `utf8::after_ascii` meets its contract: each byte that is counted is ASCII. Assumes nothing.
use Prim.Native.Nat.{ℕ, ◌<◌, ◌≤◌, ◌-◌}
use mathlib.Core.Path.{◌≡◌, ◌∙◌, ap, sym}
use native.Mathlib.Omega.{arith}
use lib.ListN.{length, get_or, take, drop, length-drop}
use lib.Seq.{take_all}
use Rattle.std.proofs.lemmas.Grind.{common_steps}
use borrow.Author.Rules.{rules}
use Rattle.utf8.specs.Judgement.{is_utf8}
use Rattle.utf8.proofs.Turns.{ascii_run}
use Rattle.utf8.proofs.after_ascii.Goals as goal

pub returns-clause-same : goal.returns-clause-same
returns-clause-same c =
    let s = c.args.s.now in
    let n = c.ascii_blocks.result in
    let r = take (length s - n) (drop n s) in
    let h : (k : ℕ) → k < c.count-end.result → get_or r k 0 < 0x80 = λ k h. grind (arith, common_steps) in
    let e : r ≡ drop n s = take_all (length s - n) (drop n s) (simp length-drop (omega arith)) in
    let k = c.count-end.result in
    let m : k ≤ length r = search rules in
    c.ascii_blocks.ensures.same ∙ ap is_utf8 (sym e) ∙ ascii_run k r m h
    ∙ ap is_utf8 (sym (take_all (length r - k) (drop k r) (simp length-drop (omega arith))))

-- `utf8::after_longer` meets its contract: the first octet is in the row that each arm names, or in none. Assumes
-- nothing.
use Prim.Native.Nat.{◌≤◌}
use mathlib.Core.Logic.{◌⊎◌, inl, inr}
use mathlib.Core.Path.{◌∙◌}
use lib.ListN.{get_or}
use Rattle.std.proofs.lemmas.Grind.{common_steps}
use native.Mathlib.Omega.{arith}
use Rattle.utf8.proofs.Rows.{between, row_2, row_3_E0, row_3_E1, row_3_ED, row_3_EE, row_4_F0, row_4_F1, row_4_F4, beyond}
use Rattle.utf8.proofs.Turns.{begun, not_begun}
use Rattle.utf8.proofs.after_longer.Goals as goal

pub returns-in-224 : goal.returns-in-224
returns-in-224 c =
    let e = c.new.ensures in
    rw (begun c.args.s.now (omega arith) (row_3_E0 (omega arith))) (rw (e.start, e.end) at c.after_whole.ensures)

pub returns-in-237 : goal.returns-in-237
returns-in-237 c =
    let e = c.new-in-237.ensures in
    rw (begun c.args.s.now (omega arith) (row_3_ED (omega arith))) (rw (e.start, e.end) at c.after_whole-in-237.ensures)

pub returns-in-240 : goal.returns-in-240
returns-in-240 c =
    let e = c.new-in-240.ensures in
    rw (begun c.args.s.now (omega arith) (row_4_F0 (omega arith))) (rw (e.start, e.end) at c.after_whole-in-240.ensures)

pub returns-in-244 : goal.returns-in-244
returns-in-244 c =
    let e = c.new-in-244.ensures in
    rw (begun c.args.s.now (omega arith) (row_4_F4 (omega arith))) (rw (e.start, e.end) at c.after_whole-in-244.ensures)

pub returns-in_err-after_whole-in-194-to-223 : goal.returns-in_err-after_whole-in-194-to-223
returns-in_err-after_whole-in-194-to-223 c =
    let f = rw (c.new-in-194-to-223.ensures.start, c.new-in-194-to-223.ensures.end) at c.in_err-after_whole-in-194-to-223.ensures in
    rw (c.from_residual.ensures, begun c.args.s.now (omega arith) (row_2 (omega arith))) f

pub returns-in_ok-after_whole-in-194-to-223 : goal.returns-in_ok-after_whole-in-194-to-223
returns-in_ok-after_whole-in-194-to-223 c =
    let e = c.new-in-194-to-223.ensures in
    let (l, f) = c.in_ok-after_whole-in-194-to-223.ensures in
    let a = c.after_two_octets.ensures in
    (omega (arith, l, a.shorter), begun c.args.s.now (omega arith) (row_2 (omega arith)) ∙ (rw (e.start, e.end) at f) ∙ a.same)

pub returns-in-225-to-236 : goal.returns-in-225-to-236
returns-in-225-to-236 c =
    let e = c.new-in-225-to-236.ensures in
    rw (begun c.args.s.now (omega arith) (row_3_E1 (omega arith))) (rw (e.start, e.end) at c.after_whole-in-225-to-236.ensures)

pub returns-in-238-to-239 : goal.returns-in-238-to-239
returns-in-238-to-239 c =
    let e = c.new-in-238-to-239.ensures in
    rw (begun c.args.s.now (omega arith) (row_3_EE (omega arith))) (rw (e.start, e.end) at c.after_whole-in-238-to-239.ensures)

pub returns-in-241-to-243 : goal.returns-in-241-to-243
returns-in-241-to-243 c =
    let e = c.new-in-241-to-243.ensures in
    rw (begun c.args.s.now (omega arith) (row_4_F1 (omega arith))) (rw (e.start, e.end) at c.after_whole-in-241-to-243.ensures)

pub returns-in_default : goal.returns-in_default
returns-in_default c =
    let a = get_or c.args.s.now 0 0 in
    let h : (a ≤ 0xC1) ⊎ (0xF5 ≤ a) = grind (arith, common_steps) in
    elim h [ inl l ↦ not_begun c.args.s.now (omega arith) (between (omega arith)) | inr g ↦ not_begun c.args.s.now (omega arith) (beyond g) ]

-- `utf8::after_whole` meets its contract: too few octets end no character, and of enough the ranges decide. Assumes
-- nothing.
use Prim.Native.Nat.{◌-◌}
use mathlib.Core.Path.{◌≡◌, refl, ◌∙◌, ap}
use native.Mathlib.Omega.{arith}
use lib.ListN.{length, get_or, take, drop, length-drop}
use lib.Seq.{take_all}
use Rattle.std.specs.List.{list_all}
use Rattle.std.specs.Range.{range_inclusive_start, range_inclusive_end}
use Rattle.utf8.specs.Judgement.{from, tail, holds}
use Rattle.utf8.proofs.Turns.{contains_holds, whole, cut_off}
use Rattle.utf8.proofs.after_whole.Goals as goal
use Rattle.utf8.proofs.after_whole.Goals.{else-contains-via-then-contains+else-are_tails, else-contains-via-else-contains}

pub returns-in_err-octets : goal.returns-in_err-octets
returns-in_err-octets c = rw c.from_residual.ensures (cut_off c.args.n _ _ c.args.s.now c.in_err-octets.ensures.cases)

pub returns-then-are_tails : goal.returns-then-are_tails
returns-then-are_tails c =
    let o = c.in_ok-octets.octets.now in
    let (l, e, f, _, n) = c.in_ok-octets.ensures.cases in
    let a = c.args.seconds in
    let g : c.contains.result ≡ holds (from (range_inclusive_start a) (range_inclusive_end a)) (get_or o 1 0) =
    c.contains.ensures.value ∙ contains_holds a (get_or o 1 0) c.requires.fresh refl refl in
    let t = take (length o - 2) (drop 2 o) in
    let k : t ≡ drop 2 o = take_all (length o - 2) (drop 2 o) (simp length-drop (omega arith)) in
    let h = ap (list_all (holds tail)) k in
    (omega (arith, c.requires.n_bound, n), whole c.args.n _ _ c.args.s.now o _ c.requires.n_bound l e f ∙ rw (← g, ← h, ← c.are_tails.ensures, c.if-contains.true, c.if-are_tails.true))

pub returns-else-contains : goal.returns-else-contains
returns-else-contains c =
    let o = c.in_ok-octets.octets.now in
    let (l, e, f, _, n) = c.in_ok-octets.ensures.cases in
    let a = c.args.seconds in
    let g : c.contains.result ≡ holds (from (range_inclusive_start a) (range_inclusive_end a)) (get_or o 1 0) =
    c.contains.ensures.value ∙ contains_holds a (get_or o 1 0) c.requires.fresh refl refl in
    let t = take (length o - 2) (drop 2 o) in
    let k : t ≡ drop 2 o = take_all (length o - 2) (drop 2 o) (simp length-drop (omega arith)) in
    let h = ap (list_all (holds tail)) k in
    whole c.args.n _ _ c.args.s.now o _ c.requires.n_bound l e f
    ∙ elim c.else-contains.branch [
      | else-contains-via-then-contains+else-are_tails w ↦
          rw (← g, ← h, ← w.are_tails.ensures, w.if-contains.true, w.if-are_tails.false)
      | else-contains-via-else-contains w ↦ rw (← g, w.if-contains.false)
    ]

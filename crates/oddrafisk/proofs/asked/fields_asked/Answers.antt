-- `oddrafisk::asked::fields_asked` meets its contract. Assumes nothing.
use borrow.Author.Rules.{rules}
use mathlib.Core.Path.{refl, ap}
use mathlib.Core.List.{List}
use lib.IntN.{ℤ, pos}
use lib.ListN.{get_or}
use native.Mathlib.Omega.{arith}
use mir.Syntax.{w16, w32, w64}
use mir.Val.{of_z}
use mir.ValLaws.{to_z-of_z}
use Rattle.layout.specs.Fixed.{view_type}
use Rattle.oddrafisk.specs.Entries.{is0or1, type_of, flag_of}
use Rattle.oddrafisk.proofs.Fitting.{too_wide, narrow, none_told, some_told, fit, unfit, fields_same, fitting}
use Rattle.oddrafisk.proofs.Tests.{is_so}
use Rattle.opening.proofs.Tests.{is_true}
use Rattle.oddrafisk.proofs.asked.fields_asked.Goals.{then-entries-ne0-via-then-entries-ne0, then-entries-ne0-via-else-entries-ne0+then-entries-ne0-2}
use Rattle.oddrafisk.proofs.asked.fields_asked.Goals as goal

pub returns-then-entries-ne0 : goal.returns-then-entries-ne0
returns-then-entries-ne0 c = let e : List ℤ = c.args.entries.now in
    unfit e refl
    (λ h. elim c.then-entries-ne0.branch [
      | then-entries-ne0-via-then-entries-ne0 w ↦ w.if-entries-ne0.true (ap (of_z w64) (is_true 0 (get_or e 14 (pos 0)) (fit e h).first))
      | then-entries-ne0-via-else-entries-ne0+then-entries-ne0-2 w ↦ w.if-entries-ne0-2.true (ap (of_z w64) (is_true 0 (get_or e 15 (pos 0)) (fit e h).second))
    ])

pub returns-in_err-ok-2 : goal.returns-in_err-ok-2
returns-in_err-ok-2 c = let e : List ℤ = c.args.entries.now in
    unfit e c.from_residual-in_err-ok-2.ensures (λ h. too_wide w32 (get_or e 2 (pos 0)) (search rules) _ c.try_from-2.ensures _ c.ok-2.ensures.value c.in_err-ok-2.was (fit e h).delta)

pub returns-in_err-ok-3 : goal.returns-in_err-ok-3
returns-in_err-ok-3 c = let e : List ℤ = c.args.entries.now in
    unfit e c.from_residual-in_err-ok-3.ensures (λ h. too_wide w16 (get_or e 6 (pos 0)) (search rules) _ c.try_from-3.ensures _ c.ok-3.ensures.value c.in_err-ok-3.was (fit e h).producer)

pub returns-in_err-ok-4 : goal.returns-in_err-ok-4
returns-in_err-ok-4 c = let e : List ℤ = c.args.entries.now in
    unfit e c.from_residual-in_err-ok-4.ensures (λ h. too_wide w32 (get_or e 7 (pos 0)) (search rules) _ c.try_from-4.ensures _ c.ok-4.ensures.value c.in_err-ok-4.was (fit e h).sequence)

pub returns-in_err-flag_asked : goal.returns-in_err-flag_asked
returns-in_err-flag_asked c = let e : List ℤ = c.args.entries.now in
    unfit e c.from_residual-in_err-flag_asked.ensures (λ h. none_told _ is0or1 flag_of (get_or e 9 (pos 0)) (search rules) _ c.flag_asked.ensures c.in_err-flag_asked.was (fit e h).flag)

pub returns-in_err-type_asked : goal.returns-in_err-type_asked
returns-in_err-type_asked c = let e : List ℤ = c.args.entries.now in
    unfit e c.from_residual-in_err-type_asked.ensures (λ h. none_told view_type is0or1 type_of (get_or e 8 (pos 0)) (search rules) _ c.type_asked.ensures c.in_err-type_asked.was (fit e h).type)

pub returns : goal.returns
returns c = let e : List ℤ = c.args.entries.now in
    let (epoch, a1) = narrow w32 (get_or e 1 (pos 0)) (search rules) _ c.try_from.ensures _ c.ok.ensures.value _ c.in_ok-ok.was in
    let (delta, a2) = narrow w32 (get_or e 2 (pos 0)) (search rules) _ c.try_from-2.ensures _ c.ok-2.ensures.value _ c.in_ok-ok-2.was in
    let (producer, a6) = narrow w16 (get_or e 6 (pos 0)) (search rules) _ c.try_from-3.ensures _ c.ok-3.ensures.value _ c.in_ok-ok-3.was in
    let (sequence, a7) = narrow w32 (get_or e 7 (pos 0)) (search rules) _ c.try_from-4.ensures _ c.ok-4.ensures.value _ c.in_ok-ok-4.was in
    let (flag, a9) = some_told _ is0or1 flag_of (get_or e 9 (pos 0)) (search rules) _ c.flag_asked.ensures _ c.in_ok-flag_asked.was in
    let (type, a8) = some_told view_type is0or1 type_of (get_or e 8 (pos 0)) (search rules) _ c.type_asked.ensures _ c.in_ok-type_asked.was in
    fitting e _
    (fields_same (to_z-of_z w64 (get_or e 0 (pos 0)) (search rules)) a1 a2 (to_z-of_z w64 (get_or e 3 (pos 0)) (search rules))
    (to_z-of_z w64 (get_or e 4 (pos 0)) (search rules)) (to_z-of_z w64 (get_or e 5 (pos 0)) (search rules)) a6 a7 a8 a9)
    (record {
      epoch = epoch;
      delta = delta;
      producer = producer;
      sequence = sequence;
      type = type;
      flag = flag;
      first = is_so (get_or e 14 (pos 0)) (search rules) 0 (omega arith) c.if-entries-ne0.false;
      second = is_so (get_or e 15 (pos 0)) (search rules) 0 (omega arith) c.if-entries-ne0-2.false;
    })

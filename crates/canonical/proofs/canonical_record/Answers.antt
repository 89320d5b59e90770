-- `canonical::canonical_record` meets its contract. Assumes nothing.
use Rattle.std.proofs.Common.{◌≡◌, get_or, sym, ◌∙◌, rules, arith}
use Rattle.std.proofs.lemmas.Grind.{common_steps}
use Rattle.canonical.proofs.SizeSteps.{count_size}
use Rattle.canonical.proofs.StrictSteps.{cut_at, value_read, none_read, length_moves, long_length, nothing_left, attributes_used, past_end, ends_elsewhere, longer_fields, strict_got, no_fields, no_length}
use Rattle.canonical.proofs.canonical_record.Goals as goal
use Rattle.canonical.proofs.canonical_record.Goals.{else-next-end-via-then-next-end+else-written-size, else-next-end-via-else-next-end}

pub returns-in_err-n : goal.returns-in_err-n
returns-in_err-n c = rw c.from_residual.ensures (no_length _ _ (none_read _ _ _ c.read_count.ensures c.in_err-n.ensures.value))

pub overflow_add-c : goal.overflow_add-c
overflow_add-c c =
    let count = value_read _ _ _ c.read_count.ensures c.in_ok-n.ensures.value in
    omega (arith, length_moves _ _ _ _ count)

pub returns-then-c-number_size : goal.returns-then-c-number_size
returns-then-c-number_size c =
    let count = value_read _ _ _ c.read_count.ensures c.in_ok-n.ensures.value in
    long_length _ _ _ _ count _ (count_size _ _ _ (search rules) c.from.ensures c.number_size.ensures) c.if-c-number_size.true

pub returns-in_err-attributes : goal.returns-in_err-attributes
returns-in_err-attributes c =
    let count = value_read _ _ _ c.read_count.ensures c.in_ok-n.ensures.value in
    rw c.from_residual-in_err-attributes.ensures (nothing_left _ _ _ _ count (grind (arith, c.in_err-attributes.ensures.lookup)))

pub returns-then-attributes-ne0 : goal.returns-then-attributes-ne0
returns-then-attributes-ne0 c =
    let count = value_read _ _ _ c.read_count.ensures c.in_ok-n.ensures.value in
    let is : c.in_ok-attributes.field-0.now ≡ get_or c.args.s.now c.in_ok-n.start.at 0 = grind (arith, common_steps, c.in_ok-attributes.ensures.lookup) in
    attributes_used _ _ _ _ count (λ e. c.if-attributes-ne0.true (is ∙ e))

pub returns-in_err-fields : goal.returns-in_err-fields
returns-in_err-fields c =
    let count = value_read _ _ _ c.read_count.ensures c.in_ok-n.ensures.value in
    rw c.from_residual-in_err-fields.ensures (past_end _ _ _ _ count (grind (arith, c.in_err-fields.ensures.lookup)))

pub returns-in_err-written : goal.returns-in_err-written
returns-in_err-written c =
    let count = value_read _ _ _ c.read_count.ensures c.in_ok-n.ensures.value in
    let (_, _, window, _) = c.in_ok-fields.ensures.lookup.0 in
    rw c.from_residual-in_err-written.ensures
    (no_fields _ _ _ _ count (none_read _ _ _ (rw (cut_at _ _ window) at c.fields_size.ensures) c.in_err-written.ensures.value))

pub returns-then-written-size : goal.returns-then-written-size
returns-then-written-size c =
    let count = value_read _ _ _ c.read_count.ensures c.in_ok-n.ensures.value in
    let is : c.in_ok-attributes.field-0.now ≡ get_or c.args.s.now c.in_ok-n.start.at 0 = grind (arith, common_steps, c.in_ok-attributes.ensures.lookup) in
    let (_, _, window, _) = c.in_ok-fields.ensures.lookup.0 in
    let fields = value_read _ _ _ (rw (cut_at _ _ window) at c.fields_size.ensures) c.in_ok-written.ensures.value in
    strict_got _ _ _ _ count _ _ fields c.type_inv.s _ (count_size _ _ _ (search rules) c.from.ensures c.number_size.ensures)
    c.if-c-number_size.false (sym is ∙ c.if-attributes-ne0.false) c.if-next-end.true c.if-written-size.true

pub returns : goal.returns
returns c =
    let count = value_read _ _ _ c.read_count.ensures c.in_ok-n.ensures.value in
    let (_, _, window, _) = c.in_ok-fields.ensures.lookup.0 in
    let fields = value_read _ _ _ (rw (cut_at _ _ window) at c.fields_size.ensures) c.in_ok-written.ensures.value in
    elim c.else-next-end.branch [
      | else-next-end-via-then-next-end+else-written-size w ↦ longer_fields _ _ _ _ count _ _ fields w.if-written-size.false
      | else-next-end-via-else-next-end w ↦ ends_elsewhere _ _ _ _ count _ _ fields w.if-next-end.false
    ]

-- `oddrafisk::said::accepted` meets its contract. Assumes nothing.
use mathlib.Core.Path.{refl}
use borrow.Author.Rules.{rules}
use lib.Dec.{lit≤}
use mir.Syntax.{w16, w32, w64}
use Rattle.numbers.proofs.Signs.{widen_back}
use Rattle.batches.specs.Answers.{view_fields, view_kind}
use Rattle.oddrafisk.proofs.Listed.{type_back, flag_back, kind_back, count_back, listed}
use Rattle.oddrafisk.proofs.said.accepted.Goals as goal

pub returns : goal.returns
returns c = let wanted = c.requires in let b = c.args.found in
    listed (search rules) (search (widen_back w32 w64, rules, lit≤)) (search (widen_back w32 w64, rules, lit≤)) (search rules) (search rules) (search rules)
    (search (widen_back w16 w64, rules, lit≤)) (search (widen_back w32 w64, rules, lit≤)) (type_back (view_fields b.batch).timestamp_type _ c.type_number.ensures)
    (flag_back b.batch.is_transactional _ c.from.ensures) (kind_back (view_kind b.kind) _ c.kind_number.ensures)
    (count_back _ _ c.record_count.ensures wanted.records) (count_back _ _ refl wanted.headers) (count_back _ _ refl wanted.bytes)

-- `cases::tables::Tables::hold` meets its contract: without rows it compares with what is marked. Assumes nothing.
use Rattle.std.proofs.Common.{rules, int_eq, sym, ◌∙◌, ◌≡◌, Bool, true, List, ℤ}
use Rattle.std.proofs.lemmas.Bool.{and_parts}
use Rattle.std.specs.Cmp.Rules.{signed_items}
use lib.Pointwise.{pointwise}
use mathlib.Core.Bool.{◌&&◌}
use Rattle.cases.proofs.tables.Tables.hold.Goals as goal

-- What a comparison of two tables has told.
same_tables : (r : Bool) (xs ys us vs : List ℤ) → r ≡ (pointwise int_eq xs ys && pointwise int_eq us vs) → r ≡ true → (xs ≡ ys) × (us ≡ vs)
same_tables r xs ys us vs compared is_true =
    let both = and_parts (pointwise int_eq xs ys) (pointwise int_eq us vs) (sym compared ∙ is_true) in
    ((signed_items xs ys).0 both.0, (signed_items us vs).0 both.1)

pub returns-then-is_empty-clause-records : goal.returns-then-is_empty-clause-records
returns-then-is_empty-clause-records c e is_true k h =
    let same = same_tables c.eq.result c.args.self.now.records c.marked.result.records c.args.self.now.headers c.marked.result.headers (search (rules, c.eq.ensures)) is_true in
    let records = same.0 in
    rw records (c.marked.ensures.records k h)

pub returns-then-is_empty-clause-headers : goal.returns-then-is_empty-clause-headers
returns-then-is_empty-clause-headers c e is_true k h =
    let same = same_tables c.eq.result c.args.self.now.records c.marked.result.records c.args.self.now.headers c.marked.result.headers (search (rules, c.eq.ensures)) is_true in
    let headers = same.1 in
    rw headers (c.marked.ensures.headers k h)

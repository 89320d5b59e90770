-- `writing::Rows::fields_size` meets its contract. Assumes nothing.
use native.Mathlib.Omega.{arith}
use Rattle.std.proofs.Common.{rules}
use Rattle.writing.proofs.Fields.{fields_sized, head_alone}
use Rattle.writing.proofs.Sizing.{row_head_sized}
use Rattle.writing.proofs.Rows.fields_size.Goals as goal

pub overflow_add-bytes : goal.overflow_add-bytes
overflow_add-bytes c = omega (arith, c.shown_size.ensures, c.shown_size-2.ensures)

pub head_size-head-requires : goal.head_size-head-requires
head_size-head-requires c = (omega (arith, c.shown_size.ensures, c.shown_size-2.ensures), omega (arith, c.requires))

pub returns-then-r-eq0 : goal.returns-then-r-eq0
returns-then-r-eq0 c =
    head_alone c.args.r _ _ _ _
    (row_head_sized c.args.r (search rules) (search rules) _ _ _ c.shown_size.ensures c.shown_size-2.ensures c.head_size-head.ensures)
    c.if-r-eq0.true

pub size_headers-requires : goal.size_headers-requires
size_headers-requires c = (c.requires, omega (arith, c.head_size-head.ensures))

pub returns : goal.returns
returns c =
    fields_sized c.args.r _ _ _ _
    (row_head_sized c.args.r (search rules) (search rules) _ _ _ c.shown_size.ensures c.shown_size-2.ensures c.head_size-head.ensures)
    c.size_headers.ensures

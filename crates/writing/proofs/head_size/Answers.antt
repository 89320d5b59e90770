-- `writing::head_size` meets its contract. Assumes nothing.
use borrow.Author.Rules.{rules}
use Rattle.writing.proofs.Sizing.{narrow_fits, head_sized}
use Rattle.writing.proofs.head_size.Goals as goal

pub overflow_cast-offset_delta : goal.overflow_cast-offset_delta
overflow_cast-offset_delta c = narrow_fits c.args.offset_delta (search rules)

pub returns : goal.returns
returns c =
    let a = c.args in
    head_sized a.timestamp_delta a.offset_delta a.headers c.ranges.timestamp_delta c.ranges.offset_delta c.requires.1 _ _ _ _ _
    c.number_size.ensures c.number_size-2.ensures c.number_size-3.ensures c.capped.ensures

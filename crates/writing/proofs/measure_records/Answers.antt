-- `writing::measure_records` meets its contract. Assumes nothing.
use Rattle.records.specs.Rows.{tables}
use Rattle.writing.proofs.Exits.{written_exit}
use Rattle.writing.proofs.Whole.{too_few, too_long, fits, wrong}
use Rattle.writing.proofs.measure_records.Goals as goal

pub returns-then-records-count : goal.returns-then-records-count
returns-then-records-count c = too_few (tables c.args.records.now c.args.headers.now) c.args.source.now _ _ c.if-records-count.true

pub returns-in_err-n : goal.returns-in_err-n
returns-in_err-n c =
    written_exit _ _ c.from_residual.ensures.1 (wrong (tables c.args.records.now c.args.headers.now) c.args.source.now _ _ c.if-records-count.false _ c.in_err-n.ensures)

pub returns-then-n-gt-MOST : goal.returns-then-n-gt-MOST
returns-then-n-gt-MOST c = too_long (tables c.args.records.now c.args.headers.now) c.args.source.now _ _ c.if-records-count.false _ c.in_ok-n.ensures c.if-n-gt-MOST.true

pub returns : goal.returns
returns c = fits (tables c.args.records.now c.args.headers.now) c.args.source.now _ _ c.if-records-count.false _ c.in_ok-n.ensures c.if-n-gt-MOST.false

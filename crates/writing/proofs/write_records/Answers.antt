-- `writing::write_records` meets its contract. Assumes nothing.
use native.Mathlib.Omega.{arith}
use Rattle.records.specs.Rows.{tables}
use Rattle.writing.proofs.Whole.{refused_by_lem, accepts, no_room, put_all, never}
use Rattle.writing.proofs.write_records.Goals as goal

pub returns-in_err-n : goal.returns-in_err-n
returns-in_err-n c = refused_by_lem _ _ _ _ _ c.from_residual.ensures.1 c.in_err-n.ensures

pub returns-then-output-n : goal.returns-then-output-n
returns-then-output-n c = no_room (tables c.args.records.now c.args.headers.now) c.args.source.now _ _ _ (accepts (tables c.args.records.now c.args.headers.now) c.args.source.now _ _ _ c.in_ok-n.ensures) _ _ (omega arith)

pub returns-then-output-n-2 : goal.returns-then-output-n-2
returns-then-output-n-2 c = no_room (tables c.args.records.now c.args.headers.now) c.args.source.now _ _ _ (accepts (tables c.args.records.now c.args.headers.now) c.args.source.now _ _ _ c.in_ok-n.ensures) _ _ (omega arith)

pub put_records-requires : goal.put_records-requires
put_records-requires c = (accepts (tables c.args.records.now c.args.headers.now) c.args.source.now _ _ _ c.in_ok-n.ensures).enough

pub returns-in_err-put_records : goal.returns-in_err-put_records
returns-in_err-put_records c = never (tables c.args.records.now c.args.headers.now) c.args.source.now _ _ _ (accepts (tables c.args.records.now c.args.headers.now) c.args.source.now _ _ _ c.in_ok-n.ensures) _ _ _ c.in_err-put_records.ensures

pub returns : goal.returns
returns c = put_all (tables c.args.records.now c.args.headers.now) c.args.source.now _ _ _ (accepts (tables c.args.records.now c.args.headers.now) c.args.source.now _ _ _ c.in_ok-n.ensures) _ _ (omega arith) _ _ c.in_ok-put_records.ensures

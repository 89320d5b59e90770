-- `batches::RecordBatch::measure` meets its contract. Assumes nothing.
use native.Mathlib.Omega.{arith}
use Rattle.batches.specs.Answers.{view_fields}
use borrow.Author.Rules.{rules}
use Rattle.batches.proofs.Giving.{measure_codec, measure_bare, measure_marker, measure_rows, measure_refused, measured_small}
use Rattle.batches.proofs.RecordBatch.measure.Goals as goal

pub returns-then-codec-ne0 : goal.returns-then-codec-ne0
returns-then-codec-ne0 c = search measure_codec

pub overflow_add-result : goal.overflow_add-result
overflow_add-result c =
    let small = measured_small (view_fields c.args.self) _ _ _ _ c.in_ok-size-in-Records.ensures in
    record { fits = omega (arith, small) }

pub returns-in-Bare : goal.returns-in-Bare
returns-in-Bare c = search (measure_bare, rules)

pub returns-in-Keyed : goal.returns-in-Keyed
returns-in-Keyed c = search (measure_marker, rules)

pub returns-in_ok-size-in-Records : goal.returns-in_ok-size-in-Records
returns-in_ok-size-in-Records c =
    measure_rows _ (view_fields c.args.self) _ _ _ _ c.if-codec-ne0.false _ c.in-Records.is _ c.in_ok-size-in-Records.ensures

pub returns-in_err-size-in-Records : goal.returns-in_err-size-in-Records
returns-in_err-size-in-Records c =
    measure_refused _ (view_fields c.args.self) _ _ _ _ c.if-codec-ne0.false _ c.in-Records.is _ c.in_err-size-in-Records.ensures _ c.from_residual.ensures.1

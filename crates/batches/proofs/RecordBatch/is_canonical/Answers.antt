-- `batches::RecordBatch::is_canonical` meets its contract. Assumes nothing.
use mathlib.Core.Path.{ap}
use mathlib.Core.Bool.{not}
use Rattle.batches.proofs.Strictly.{opened_fixed, canonical_unopened, canonical_longer, canonical_loose, canonical_marker, canonical_rows}
use Rattle.batches.proofs.RecordBatch.is_canonical.Goals as goal

pub returns-in_default : goal.returns-in_default
returns-in_default c = canonical_unopened _ _ c.type_inv.bytes _ c.in_default.ensures

pub returns-then-opened-bytes : goal.returns-then-opened-bytes
returns-then-opened-bytes c = canonical_longer _ _ c.type_inv.bytes _ c.in-Ok.ensures c.if-opened-bytes.true

pub is_tight-requires : goal.is_tight-requires
is_tight-requires c = opened_fixed _ _ c.in-Ok.ensures

pub returns-then-not-is_tight : goal.returns-then-not-is_tight
returns-then-not-is_tight c =
    canonical_loose _ _ c.type_inv.bytes _ c.in-Ok.ensures c.if-opened-bytes.false _ c.is_tight.ensures (ap not c.if-not-is_tight.true)

pub returns-then-opened : goal.returns-then-opened
returns-then-opened c =
    canonical_marker _ _ c.type_inv.bytes _ c.in-Ok.ensures c.if-opened-bytes.false _ c.is_tight.ensures (ap not c.if-not-is_tight.false)
    c.if-opened.true _ c.stands.ensures

pub returns : goal.returns
returns c =
    canonical_rows _ _ c.type_inv.bytes _ c.in-Ok.ensures c.if-opened-bytes.false _ c.is_tight.ensures (ap not c.if-not-is_tight.false)
    c.if-opened.false _ c.canonical_records.ensures

-- Words of private contracts: none of them stands in a promise. What the steps of reading a record or a header give.
use Rattle.std.specs.Prelude.{List, ℤ}
use Rattle.std.proofs.Math.Option.{some}
use Rattle.primitives.specs.Reading.{Span}
use Rattle.records.specs.declared.RecordDeltas.{RecordDeltas}
use Rattle.records.specs.Judgement.{Deltas}
use Rattle.records.specs.Rows.{span_row}

abbrev pub bytes_row : Span → List ℤ
bytes_row x = span_row (some x)

abbrev pub view_deltas : RecordDeltas → Deltas
view_deltas d = record { timestamp = d.timestamp; offset = d.offset }

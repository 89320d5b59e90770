-- The time of a record.
use Rattle.std.proofs.Math.Option.{Option, none, some}
use Rattle.std.specs.Prelude.{ℤ, ◌+ℤ◌, Some, None}
use Rattle.std.specs.Prelude as std
use Rattle.numbers.specs.Format.{in_bits}
use Rattle.numbers.specs.Pick.{pick}
use Rattle.layout.specs.Batch.{Fields}

-- Document 01, A record, Record time: whichever the timestamp type, or none where the sum leaves 64 signed bits.
-- Exception, as document 01 has it: under log append Kafka's page gives every record the batch's maxTimestamp.
unfoldable pub record_time : Fields → ℤ → Option ℤ
record_time x delta = pick (in_bits 64 (x.first_timestamp +ℤ delta)) (some (x.first_timestamp +ℤ delta)) none

-- what an answer says
abbrev pub view_time : std.Option ℤ → Option ℤ
view_time (Some t) = some t
view_time None = none

-- Document 01's starred rows, computed through the definitions as they are written. Assumes nothing.
use mathlib.Core.Path.{refl}
use Rattle.numbers.specs.Format.{fewest, shortest}
use Rattle.primitives.specs.Step.{times}
use Rattle.primitives.specs.Reading.{unsigned_at, integer_at, byte_at, code_at, unzigzag, varint_at, length_at, span_at}
use Rattle.records.specs.Judgement.{count_at, deltas_at, head_at, fields_at, record_at}
use Rattle.records.specs.Written.{written_bytes, written_headers, written_fields}
use Rattle.records.specs.Statements.{Starred}

pub starred : Starred
unfolding record_at fields_at head_at deltas_at count_at times span_at length_at integer_at unsigned_at varint_at code_at byte_at unzigzag shortest fewest written_bytes written_fields written_headers
starred = (refl, refl)

-- The records of the worked batches, read and written by computation. Assumes nothing.
use mathlib.Core.Path.{refl}
use Rattle.numbers.specs.Concat.{concat}
use Rattle.numbers.specs.Format.{fewest, shortest}
use Rattle.primitives.specs.Step.{times}
use Rattle.primitives.specs.Reading.{unsigned_at, integer_at, byte_at, code_at, unzigzag, varint_at, length_at, span_at}
use Rattle.utf8.specs.Judgement.{after, goes_on}
use Rattle.examples.specs.Examples.{text, digits, paired, hex}
use Rattle.records.specs.Judgement.{count_at, bytes_at, key_at, header_at, deltas_at, head_at, fields_at, record_at, run_at, records_at}
use Rattle.records.specs.Rows.{record_rows, header_rows}
use Rattle.records.specs.Written.{written_bytes, written_headers, written_fields, written_records}
use Rattle.records.specs.Worked.{WorkedRows, WorkedWritten}

pub worked_rows : WorkedRows
unfolding text digits paired hex records_at run_at record_at fields_at head_at deltas_at header_at key_at bytes_at count_at times span_at length_at integer_at unsigned_at varint_at code_at byte_at unzigzag after goes_on record_rows header_rows concat
worked_rows = refl

pub worked_written : WorkedWritten
unfolding text digits paired hex shortest fewest written_bytes written_headers written_fields written_records
worked_written = refl

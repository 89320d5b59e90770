-- The wrong records of the worked batches, refused by computation. Assumes nothing.
use mathlib.Core.Path.{refl}
use Rattle.primitives.specs.Step.{times}
use Rattle.primitives.specs.Reading.{unsigned_at, integer_at, byte_at, code_at, unzigzag, varint_at, length_at, span_at}
use Rattle.utf8.specs.Judgement.{after, goes_on}
use Rattle.examples.specs.Examples.{digits, paired, hex}
use Rattle.records.specs.Judgement.{count_at, bytes_at, key_at, header_at, deltas_at, head_at, fields_at, record_at, run_at, records_at}
use Rattle.records.specs.Worked.{WorkedNumbers}

pub worked_numbers : WorkedNumbers
unfolding digits paired hex records_at run_at record_at fields_at head_at deltas_at header_at key_at bytes_at count_at times span_at length_at integer_at unsigned_at varint_at code_at byte_at unzigzag after goes_on
worked_numbers = refl

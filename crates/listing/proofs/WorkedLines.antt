-- The lines of the worked batches and the listings of the worked files, by computation. Assumes nothing.
use mathlib.Core.Path.{refl}
use Rattle.primitives.specs.Step.{times}
use Rattle.primitives.specs.Reading.{big, signed_by, unsigned_at, integer_at, byte_at, code_at, unzigzag, varint_at, length_at, span_at}
use Rattle.crc32c.specs.Crc.{bit_step, steps, over, checksum}
use Rattle.utf8.specs.Judgement.{after, goes_on}
use Rattle.examples.specs.Examples.{text, lines, digits, paired, hex}
use Rattle.records.specs.Judgement.{count_at, bytes_at, key_at, header_at, deltas_at, head_at, fields_at, record_at, run_at, records_at}
use Rattle.records.specs.Rows.{headers_in}
use Rattle.opening.specs.Judgement.{total_at, opened_at, whole_at, judge_with, way_of, former_way_of, bare_marker_at, keyed_marker_at}
use Rattle.listing.specs.Text.{ascii}
use Rattle.listing.specs.Text as Text
use Rattle.listing.specs.Listing.{batch_line, end_line, stop_line, turn_at, lines_from, listing}
use Rattle.listing.specs.Worked.{WorkedLines}

pub worked_lines : WorkedLines
unfolding text lines digits paired hex ascii Text.digits batch_line end_line stop_line turn_at lines_from listing judge_with total_at whole_at opened_at way_of former_way_of bare_marker_at keyed_marker_at records_at run_at record_at fields_at head_at deltas_at header_at key_at bytes_at count_at times span_at length_at integer_at unsigned_at varint_at code_at byte_at unzigzag big signed_by checksum over steps bit_step after goes_on headers_in
worked_lines = (refl, refl)

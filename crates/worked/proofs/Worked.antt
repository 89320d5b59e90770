-- The worked batches from end to end, by computation; that their bytes are batches by the format follows from what is
-- computed. Assumes nothing.
use mathlib.Core.Path.{◌≡◌, refl}
use mathlib.Core.List.{map}
use Rattle.numbers.specs.Concat.{concat}
use Rattle.numbers.specs.Format.{big_endian, fewest, shortest}
use Rattle.primitives.specs.Step.{times}
use Rattle.primitives.specs.Reading.{big, signed_by, unsigned_at, integer_at, byte_at, code_at, unzigzag, varint_at, length_at, span_at}
use Rattle.crc32c.specs.Crc.{bit_step, steps, over, checksum}
use Rattle.utf8.specs.Judgement.{after, goes_on}
use Rattle.examples.specs.Examples.{text, digits, paired, hex, record_examples, marker_examples}
use Rattle.records.specs.Judgement.{count_at, bytes_at, key_at, header_at, deltas_at, head_at, fields_at, record_at, run_at, records_at}
use Rattle.records.specs.Rows.{headers_in, record_rows, header_rows, filled, with_rows}
use Rattle.records.specs.Written.{written_bytes, written_headers, written_fields, written_records}
use Rattle.asking.specs.Asked.{header_asked, head_asked, record_asked, records_asked}
use Rattle.layout.specs.declared.ControlMode.{ControlMode}
use Rattle.layout.specs.Time.{record_time}
use Rattle.opening.specs.Judgement.{total_at, opened_at, whole_at, judge_with, bare_marker_at, keyed_marker_at, former_way_of, way_of}
use Rattle.markers.specs.Markers.{written_marker}
use Rattle.markers.specs.Forms.{written_control, writes_of}
use Rattle.markers.proofs.Bare.{bare_reads}
use Rattle.markers.proofs.Forms.{forms_lawful}
use Rattle.batches.specs.Writer.{written_content, checked_bytes, batch_length_of, written_batch, batch_given}
use Rattle.converting.specs.Conversion.{rekeyed_checked, rekeyed, conversion_of}
use Rattle.listing.specs.Text.{ascii}
use Rattle.listing.specs.Text as Text
use Rattle.listing.specs.Listing.{batch_line}
use Rattle.listing.proofs.WorkedLines.{worked_lines}
use Rattle.listing.proofs.WorkedLongest.{worked_longest}
use Rattle.oddrafisk.specs.Entries.{entries_asked}
use Rattle.worked.specs.Keyed.{keyed_examples}
use Rattle.worked.specs.Worked.{ReadRight, ReadFormer, ReadKeyed, ReadRefused, ReadApart, ReadWithdrawn, ReadShort, WrittenRight, WrittenKeyed, WrittenWithdrawn, WrittenRefused, Encoded, EncodedFormer, EncodedKeyed, ConvertedRight, KeyedLines, Worked}
use Rattle.worked.proofs.Encoded.{all_bytes, told_in, told_due, each_encodes}

pub read_right : ReadRight
unfolding text digits paired hex judge_with total_at whole_at opened_at way_of former_way_of bare_marker_at keyed_marker_at records_at run_at record_at fields_at head_at deltas_at header_at key_at bytes_at count_at times span_at length_at integer_at unsigned_at varint_at code_at byte_at unzigzag big signed_by checksum over steps bit_step after goes_on headers_in record_rows header_rows filled with_rows concat record_time
read_right = refl

pub read_keyed_lem : ReadKeyed
unfolding digits paired hex judge_with total_at whole_at opened_at way_of former_way_of bare_marker_at keyed_marker_at record_at fields_at head_at deltas_at header_at key_at bytes_at count_at times span_at length_at integer_at unsigned_at varint_at code_at byte_at unzigzag big signed_by checksum over steps bit_step after goes_on
read_keyed_lem = refl

pub read_refused_lem : ReadRefused
unfolding digits paired hex judge_with total_at whole_at opened_at way_of former_way_of bare_marker_at keyed_marker_at records_at run_at record_at fields_at head_at deltas_at header_at key_at bytes_at count_at times span_at length_at integer_at unsigned_at varint_at code_at byte_at unzigzag big signed_by checksum over steps bit_step after goes_on
read_refused_lem = refl

pub read_former_lem : ReadFormer
unfolding digits paired hex judge_with total_at whole_at opened_at way_of former_way_of bare_marker_at keyed_marker_at record_at fields_at head_at deltas_at header_at key_at bytes_at count_at times span_at length_at integer_at unsigned_at varint_at code_at byte_at unzigzag big signed_by checksum over steps bit_step after goes_on
read_former_lem = refl

pub read_apart_lem : ReadApart
unfolding digits paired hex judge_with total_at whole_at opened_at way_of former_way_of bare_marker_at keyed_marker_at record_at fields_at head_at deltas_at header_at key_at bytes_at count_at times span_at length_at integer_at unsigned_at varint_at code_at byte_at unzigzag big signed_by checksum over steps bit_step after goes_on
read_apart_lem = refl

pub read_withdrawn_lem : ReadWithdrawn
unfolding digits paired hex judge_with total_at whole_at opened_at way_of former_way_of bare_marker_at keyed_marker_at record_at fields_at head_at deltas_at header_at key_at bytes_at count_at times span_at length_at integer_at unsigned_at varint_at code_at byte_at unzigzag big signed_by checksum over steps bit_step after goes_on
read_withdrawn_lem = (refl, refl)

pub read_short : ReadShort
unfolding digits paired hex judge_with total_at whole_at opened_at way_of former_way_of bare_marker_at keyed_marker_at records_at run_at record_at fields_at head_at deltas_at header_at key_at bytes_at count_at times span_at length_at integer_at unsigned_at varint_at code_at byte_at unzigzag big signed_by checksum over steps bit_step after goes_on headers_in record_time
read_short = (refl, refl)

pub written_right : WrittenRight
unfolding text digits paired hex batch_given written_batch batch_length_of checked_bytes written_content writes_of written_control written_marker written_records written_fields written_headers written_bytes shortest fewest big_endian concat records_asked record_asked head_asked header_asked times after goes_on checksum over steps bit_step entries_asked
written_right = (refl, refl)

pub written_keyed_lem : WrittenKeyed
unfolding digits paired hex batch_given written_batch batch_length_of checked_bytes written_content writes_of written_control written_marker written_fields written_headers written_bytes shortest fewest big_endian concat checksum over steps bit_step entries_asked
written_keyed_lem = (refl, refl)

pub written_withdrawn_lem : WrittenWithdrawn
unfolding digits paired hex batch_given written_batch batch_length_of checked_bytes written_content writes_of written_control written_marker written_fields written_headers written_bytes shortest fewest big_endian concat checksum over steps bit_step entries_asked
written_withdrawn_lem = (refl, refl)

pub written_refused_lem : WrittenRefused
unfolding digits paired hex batch_given records_asked record_asked head_asked header_asked times after goes_on
written_refused_lem x = (refl, refl)

shown_right : map (told_in (way_of ControlMode.Bare)) record_examples ≡ map told_due record_examples
unfolding text digits paired hex all_bytes judge_with total_at whole_at opened_at way_of former_way_of bare_marker_at keyed_marker_at records_at run_at record_at fields_at head_at deltas_at header_at key_at bytes_at count_at times span_at length_at integer_at unsigned_at varint_at code_at byte_at unzigzag big signed_by checksum over steps bit_step after goes_on
shown_right = refl

shown_former : map (told_in bare_marker_at) marker_examples ≡ map told_due marker_examples
unfolding digits paired hex all_bytes judge_with total_at whole_at opened_at way_of former_way_of bare_marker_at keyed_marker_at record_at fields_at head_at deltas_at header_at key_at bytes_at count_at times span_at length_at integer_at unsigned_at varint_at code_at byte_at unzigzag big signed_by checksum over steps bit_step after goes_on
shown_former = refl

shown_keyed : map (told_in (way_of ControlMode.Keyed)) keyed_examples ≡ map told_due keyed_examples
unfolding digits paired hex all_bytes judge_with total_at whole_at opened_at way_of former_way_of bare_marker_at keyed_marker_at record_at fields_at head_at deltas_at header_at key_at bytes_at count_at times span_at length_at integer_at unsigned_at varint_at code_at byte_at unzigzag big signed_by checksum over steps bit_step after goes_on
shown_keyed = refl

pub encoded : Encoded
encoded = each_encodes (forms_lawful ControlMode.Bare).reads record_examples shown_right

pub encoded_former_lem : EncodedFormer
encoded_former_lem = each_encodes bare_reads marker_examples shown_former

pub encoded_keyed_lem : EncodedKeyed
encoded_keyed_lem = each_encodes (forms_lawful ControlMode.Keyed).reads keyed_examples shown_keyed

pub converted_right : ConvertedRight
unfolding conversion_of rekeyed rekeyed_checked digits paired hex judge_with total_at whole_at opened_at way_of former_way_of bare_marker_at keyed_marker_at record_at fields_at head_at deltas_at header_at key_at bytes_at count_at times span_at length_at integer_at unsigned_at varint_at code_at byte_at unzigzag big signed_by checksum over steps bit_step after goes_on batch_given written_batch batch_length_of checked_bytes written_content writes_of written_control written_marker written_fields written_headers written_bytes shortest fewest big_endian concat entries_asked
converted_right = refl

pub keyed_lines_lem : KeyedLines
unfolding text digits paired hex ascii Text.digits batch_line headers_in
keyed_lines_lem = refl

pub worked : Worked
worked =
    record {
      read = read_right;
      read_keyed = read_keyed_lem;
      read_former = read_former_lem;
      read_refused = read_refused_lem;
      read_apart = read_apart_lem;
      read_withdrawn = read_withdrawn_lem;
      read_short = read_short;
      written = written_right;
      written_keyed = written_keyed_lem;
      written_withdrawn = written_withdrawn_lem;
      written_refused = written_refused_lem;
      encoded = encoded;
      encoded_former = encoded_former_lem;
      encoded_keyed = encoded_keyed_lem;
      converted = converted_right;
      lines = worked_lines;
      keyed_lines = keyed_lines_lem;
      longest = worked_longest;
    }

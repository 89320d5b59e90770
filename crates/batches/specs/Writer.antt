-- What the writer gives: document 01, Fixed fields, and Writer's numbers, as C-24 has them. The bytes of a batch are
-- those of the strict grammar, with batchLength and checksum worked out.
use Rattle.std.specs.Prelude.{ℕ, ◌+◌, ◌*◌, true, List, [], ◌++◌, eqb, leb, pos, length, replicate}
use Rattle.std.proofs.Math.Option.{Option, none, some}
use Rattle.numbers.specs.Pick.{pick}
use Rattle.numbers.specs.Concat.{concat}
use Rattle.primitives.specs.Step.{Step, ok, no, map_step}
use Rattle.crc32c.specs.Crc.{crc32c}
use Rattle.records.specs.Format.{Record}
use Rattle.records.specs.Written.{written_records}
use Rattle.records.specs.Judgement.{RecordSpans}
use Rattle.records.specs.Rows.{Tables, tables, headers_in, with_rows}
use Rattle.asking.specs.Asked.{RowPlace, row_place, records_asked}
use Rattle.writing.specs.Answers.{Given, given, refused}
use Rattle.layout.specs.declared.ControlMode.{ControlMode}
use Rattle.layout.specs.Fixed.{fixed_fields}
use Rattle.layout.specs.Table.{FixedFields, fixed_part, unchecked, uncounted_fields, unchecked_fields, checked_fields}
use Rattle.layout.specs.Batch.{Fields, Marker, Content, control, records, Batch}
use Rattle.layout.specs.Format.{attributes_of, how_many}
use Rattle.markers.specs.Markers.{view_marker}
use Rattle.markers.specs.Forms.{written_control, control_size, writes_of}
use Rattle.batches.specs.declared.ControlBatchOrRecords.{ControlBatchOrRecords}
use Rattle.batches.specs.Placed.{shown_content}

-- ---- the bytes of a batch

unfoldable pub written_content : Content Record → List ℕ
written_content (control m) = written_control m
written_content (records rs) = written_records rs

-- the fixed fields, around a batchLength and a checksum
abbrev pub written_fixed : Batch Record → ℕ → ℕ → FixedFields (List ℕ)
written_fixed b batch_length crc =
    fixed_fields b.fields (pos batch_length) crc (pos (attributes_of true 0 b)) (pos (how_many b.content))

-- what the checksum is over, which holds neither of the two
unfoldable pub checked_bytes : Batch Record → List ℕ
checked_bytes b = concat (checked_fields (written_fixed b 0 0)) ++ written_content b.content

-- document 01, Fixed fields: all bytes after it
unfoldable pub batch_length_of : Batch Record → ℕ
batch_length_of b = unchecked + length (checked_bytes b)

unfoldable pub written_batch : Batch Record → List ℕ
written_batch b =
    let fixed : FixedFields (List ℕ) = written_fixed b (batch_length_of b) (crc32c (checked_bytes b)) in
    concat (uncounted_fields fixed) ++ (concat (unchecked_fields fixed) ++ checked_bytes b)

-- a whole control batch
abbrev pub marked_size : ℕ
marked_size = fixed_part + control_size

-- ---- what is asked for

-- the kind that is handed in: a marker, or a number of records
pub data Wanted : Type 0 where
  marker : Marker → Wanted
  rows : ℕ → Wanted

abbrev pub view_wanted : ControlBatchOrRecords → Wanted
view_wanted (ControlBatchOrRecords.ControlBatch m) = marker (view_marker m)
view_wanted (ControlBatchOrRecords.Records n) = rows n

-- C-24, 41, in writing: a marker where none is written. A marker ignores both tables.
abbrev pub marker_asked : Option (List ℕ) → Marker → Step RowPlace (Content RecordSpans)
marker_asked none m = no 41
marker_asked (some bs) m = ok (control m) (row_place 0 0)

abbrev pub rows_asked : ℕ → Tables → List ℕ → Step RowPlace (Content RecordSpans)
rows_asked n t s = map_step records (records_asked t s 0 n)

abbrev pub content_asked : ControlMode → Wanted → Tables → List ℕ → Step RowPlace (Content RecordSpans)
content_asked mode (marker m) t s = marker_asked (writes_of mode m) m
content_asked mode (rows n) t s = rows_asked n t s

-- document 01, Writer's numbers, 23
abbrev pub most_length : ℕ
most_length = 2147483647

abbrev pub batch_given_by : Fields → List ℕ → Step RowPlace (Content RecordSpans) → Given
batch_given_by x s (ok c p) =
    let b : Batch Record = record { fields = x; content = shown_content s c } in
    pick (leb (batch_length_of b) most_length) (given (written_batch b)) (refused 23)
batch_given_by x s (no n) = refused n

-- document 01, Writer's numbers, as C-24 has them, in their order; 24 is the output's
unfoldable pub batch_given : ControlMode → Fields → ℕ → Wanted → Tables → List ℕ → Given
batch_given mode x codec wanted t s = pick (eqb codec 0) (batch_given_by x s (content_asked mode wanted t s)) (refused 20)

-- ---- a batch asked for as it was read

-- tables of just the rows of what was read, and what asks for all of them
abbrev pub own_tables : Content RecordSpans → Tables
own_tables (control m) = tables [] []
own_tables (records rs) = with_rows 0 rs (tables (replicate (8 * length rs) (pos 0)) (replicate (4 * headers_in rs) (pos 0)))

abbrev pub wanted_of : Content RecordSpans → Wanted
wanted_of (control m) = marker m
wanted_of (records rs) = rows (length rs)

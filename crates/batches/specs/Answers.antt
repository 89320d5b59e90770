-- What each public answer says, case by case: document 01's number, and the values that it names.
use Rattle.std.specs.Prelude.{ℕ, ◌/◌, ◌≤◌, ◌≡◌, Bool, true, ◌⊎◌, length, Result, Ok, Err}
use Rattle.std.proofs.Math.Option.{Option, none, some}
use Rattle.numbers.specs.Pick.{pick}
use Rattle.records.specs.Judgement.{RecordSpans}
use Rattle.records.specs.Rows.{headers_in, Tables, enough_rows, with_rows}
use Rattle.reading.specs.declared.RecordsError.{RecordsError}
use Rattle.layout.specs.Batch.{Fields, Marker, Content, control, records}
use Rattle.layout.specs.Fixed.{view_type}
use Rattle.opening.specs.declared.BatchFault.{BatchFault}
use Rattle.opening.specs.declared.OpenError.{OpenError}
use Rattle.opening.specs.Answers.{batch_number_of}
use Rattle.opening.specs.Judgement.{Judgement, more, refused, accepted, Accepted}
use Rattle.markers.specs.Markers.{view_marker}
use Rattle.batches.specs.declared.RecordBatch.{RecordBatch}
use Rattle.batches.specs.declared.ControlBatchOrRecords.{ControlBatchOrRecords}
use Rattle.batches.specs.declared.BatchFound.{BatchFound}
use Rattle.batches.specs.declared.ReadError.{ReadError}

-- ---- the reader's numbers

-- the numbers of refusals that no later byte and no other table can change: 2 to 13, and C-24's 41
abbrev pub Standing : ℕ → Type 0
Standing n = ((2 ≤ n) × (n ≤ 13)) ⊎ (n ≡ 41)

-- ---- what an answer names

pub data Kind : Type 0 where
  of_records : Kind
  of_marker : Marker → Kind

-- document 01, Reader's numbers: 0 with fields, kind, both counts and the bytes consumed; 1 with the bytes needed; 14
-- with both counts; any other number alone. What is not named is none, or 0.
pub record Answer : Type 0 where
  pub number : ℕ
  pub fields : Option Fields
  pub kind : Option Kind
  pub records : ℕ
  pub headers : ℕ
  pub bytes : ℕ

abbrev pub accepts : Fields → Kind → ℕ → ℕ → ℕ → Answer
accepts x k n m bytes = record { number = 0; fields = some x; kind = some k; records = n; headers = m; bytes = bytes }

abbrev pub wants : ℕ → Answer
wants bytes = record { number = 1; fields = none; kind = none; records = 0; headers = 0; bytes = bytes }

abbrev pub refuses : ℕ → Answer
refuses n = record { number = n; fields = none; kind = none; records = 0; headers = 0; bytes = 0 }

abbrev pub lacks_room : ℕ → ℕ → Answer
lacks_room n m = record { number = 14; fields = none; kind = none; records = n; headers = m; bytes = 0 }

-- ---- what the types of the code say

abbrev pub view_fields : RecordBatch → Fields
view_fields b =
    record {
      base_offset = b.base_offset;
      partition_leader_epoch = b.partition_leader_epoch;
      last_offset_delta = b.last_offset_delta;
      first_timestamp = b.first_timestamp;
      max_timestamp = b.max_timestamp;
      producer_id = b.producer_id;
      producer_epoch = b.producer_epoch;
      base_sequence = b.base_sequence;
      timestamp_type = view_type b.timestamp_type;
      transactional = b.is_transactional;
    }

abbrev pub view_kind : ControlBatchOrRecords → Kind
view_kind (ControlBatchOrRecords.ControlBatch m) = of_marker (view_marker m)
view_kind (ControlBatchOrRecords.Records n) = of_records

-- a marker counts no records
abbrev pub view_count : ControlBatchOrRecords → ℕ
view_count (ControlBatchOrRecords.ControlBatch m) = 0
view_count (ControlBatchOrRecords.Records n) = n

abbrev pub view_found : BatchFound → Answer
view_found x = accepts (view_fields x.batch) (view_kind x.kind) (view_count x.kind) x.headers x.consumed

abbrev pub view_check : Result BatchFound OpenError → Answer
view_check (Ok x) = view_found x
view_check (Err (OpenError.MoreBytes bytes)) = wants bytes
view_check (Err (OpenError.Refused f)) = refuses (batch_number_of f)

abbrev pub view_read : Result BatchFound ReadError → Answer
view_read (Ok x) = view_found x
view_read (Err (ReadError.MoreBytes bytes)) = wants bytes
view_read (Err (ReadError.Refused f)) = refuses (batch_number_of f)
view_read (Err (ReadError.NoRoom n m)) = lacks_room n m

-- ---- what is an error of a part is one of the whole

abbrev pub error_of_opening : OpenError → ReadError
error_of_opening (OpenError.MoreBytes n) = ReadError.MoreBytes n
error_of_opening (OpenError.Refused f) = ReadError.Refused f

abbrev pub error_of_records : RecordsError → ReadError
error_of_records (RecordsError.Refused f) = ReadError.Refused (BatchFault.Body f)
error_of_records (RecordsError.NoRoom n m) = ReadError.NoRoom n m

-- ---- what a judgement has answered

abbrev pub kind_of : {R : Type 0} → Content R → Kind
kind_of (control m) = of_marker m
kind_of (records rs) = of_records

-- a marker counts no records and no headers
abbrev pub records_in : Content RecordSpans → ℕ
records_in (control m) = 0
records_in (records rs) = length rs

abbrev pub headers_of : Content RecordSpans → ℕ
headers_of (control m) = 0
headers_of (records rs) = headers_in rs

abbrev pub accepted_as : Accepted → Answer
accepted_as b = accepts b.fields (kind_of b.content) (records_in b.content) (headers_of b.content) b.consumed

-- where rows are enough
abbrev pub answer_with_room : Judgement → Answer
answer_with_room (more n) = wants n
answer_with_room (refused n) = refuses n
answer_with_room (accepted b) = accepted_as b

-- document 01, Tables: the whole rows that are lent
pub record Rooms : Type 0 where
  pub records : ℕ
  pub headers : ℕ

abbrev pub rooms_of : Tables → Rooms
rooms_of t = record { records = length t.records / 8; headers = length t.headers / 4 }

-- a marker needs no rows
abbrev pub has_room : Content RecordSpans → ℕ → Rooms → Bool
has_room (control m) first r = true
has_room (records rs) first r = enough_rows r.records r.headers first rs

-- document 01, Reader's numbers, 14
abbrev pub answer_of : Judgement → Rooms → Answer
answer_of (more n) r = wants n
answer_of (refused n) r = refuses n
answer_of (accepted b) r =
    pick (has_room b.content b.first_header r) (accepted_as b) (lacks_room (records_in b.content) (headers_of b.content))

-- document 01, Tables: the first rows filled, all else as it was; a marker fills no row
abbrev pub stored : Content RecordSpans → ℕ → Tables → Tables
stored (control m) first t = t
stored (records rs) first t = with_rows first rs t

abbrev pub tables_of : Judgement → Tables → Tables
tables_of (more n) t = t
tables_of (refused n) t = t
tables_of (accepted b) t = pick (has_room b.content b.first_header (rooms_of t)) (stored b.content b.first_header t) t

-- What document 01, as C-16 and C-24 have it, answers of a batch that starts at a place of a list, where rows are
-- enough: in its order and with its numbers, the first fault first.
use Rattle.std.specs.Prelude.{ℕ, zero, suc, ◌+◌, ◌-◌, ◌*◌, ◌/◌, ◌%◌, ◌^◌, Bool, true, false, List, eqb, ltb, ℤ, pos, negsuc, length, take, drop}
use Rattle.std.proofs.Math.Option.{Option, none, some}
use Rattle.numbers.specs.Pick.{pick}
use Rattle.primitives.specs.Step.{Step, ok, no, and_then, map_step}
use Rattle.primitives.specs.Reading.{big, signed_by, integer_at, Span}
use Rattle.crc32c.specs.Crc.{crc32c}
use Rattle.records.specs.Judgement.{RecordSpans, record_at, records_at}
use Rattle.layout.specs.declared.ControlMode.{ControlMode}
use Rattle.layout.specs.Table.{Slot, table, uncounted, unchecked, fixed_part}
use Rattle.layout.specs.Batch.{TimestampType, create_time, log_append_time, Fields, Marker, abort, commit, Content, control, records}

-- ---- what is judged

-- More bytes are needed, as many in all, counted from the batch's first; or it is refused, by document 01's number; or
-- it is accepted.
pub data Judged (A : Type 0) : Type 0 where
  more : ℕ → Judged A
  refused : ℕ → Judged A
  accepted : A → Judged A

-- what is accepted: fields, marker or records, the row from which the header rows stand, the bytes of the batch
pub record Accepted : Type 0 where
  pub fields : Fields
  pub content : Content RecordSpans
  pub first_header : ℕ
  pub consumed : ℕ

abbrev pub Judgement : Type 0
Judgement = Judged Accepted

-- ---- the fixed fields, as numbers; what stands past the end counts as 0

abbrev pub unsigned_in : Slot → List ℕ → ℕ → ℕ
unsigned_in f s at = big f.bytes s (at + f.place)

abbrev pub number_in : Slot → List ℕ → ℕ → ℤ
number_in f s at = signed_by (2 ^ (8 * f.bytes - 1)) (unsigned_in f s at)

-- whether a signed number is n, and whether it is below n
abbrev pub is : ℕ → ℤ → Bool
is n (pos m) = eqb m n
is n (negsuc k) = false

abbrev pub below : ℕ → ℤ → Bool
below n (pos m) = ltb m n
below n (negsuc k) = true

-- ---- attributes

pub record Attributes : Type 0 where
  pub codec : ℕ
  pub timestamp_type : TimestampType
  pub transactional : Bool
  pub control : Bool

-- document 01, Fixed fields, Attributes: bits 0 to 2 codec, bit 3 timestamp type, bit 4 transactional, bit 5 control.
-- Exception, as in the Rust: higher bits are ignored.
abbrev pub apart : ℕ → Attributes
apart a =
    record {
      codec = a % 8;
      timestamp_type = pick (eqb (a / 8 % 2) 1) log_append_time create_time;
      transactional = eqb (a / 16 % 2) 1;
      control = eqb (a / 32 % 2) 1;
    }

abbrev pub attributes_in : List ℕ → ℕ → Attributes
attributes_in s at = apart (unsigned_in table.attributes s at)

abbrev pub fields_in : List ℕ → ℕ → Fields
fields_in s at =
    record {
      base_offset = number_in table.base_offset s at;
      partition_leader_epoch = number_in table.partition_leader_epoch s at;
      last_offset_delta = number_in table.last_offset_delta s at;
      first_timestamp = number_in table.first_timestamp s at;
      max_timestamp = number_in table.max_timestamp s at;
      producer_id = number_in table.producer_id s at;
      producer_epoch = number_in table.producer_epoch s at;
      base_sequence = number_in table.base_sequence s at;
      timestamp_type = (attributes_in s at).timestamp_type;
      transactional = (attributes_in s at).transactional;
    }

-- ---- the batch's length and magic

-- document 01, Fixed fields: a batch is 12 + batchLength bytes
abbrev pub total_of : ℤ → ℕ
total_of (pos n) = uncounted + n
total_of (negsuc k) = 0

-- document 01, Reader's numbers, 1 to 3: the bytes of the whole batch
unfoldable pub total_at : List ℕ → ℕ → Judged ℕ
total_at s at =
    let batch_length = number_in table.batch_length s at in
    let magic = number_in table.magic s at in
    pick (ltb (length s) (at + 12)) (more 12)
    (pick (below unchecked batch_length) (refused 2)
    (pick (ltb (length s) (at + 17)) (more 17)
    (pick (is 2 magic)
    (pick (ltb (length s) (at + total_of batch_length)) (more (total_of batch_length)) (accepted (total_of batch_length)))
    (refused 3))))

-- ---- the batch's bytes, which end where the list ends

-- Document 01, Reader's numbers, 7 and 6: the count is judged, then the codec, then a control batch's count.
-- Exception, as in the Rust: -1 reads as 0.
abbrev pub count_from : Attributes → ℕ → ℕ → Step ℕ ℕ
count_from a n p = pick (ltb 0 a.codec) (no 6) (pick a.control (pick (eqb n 1) (ok n p) (no 7)) (ok n p))

abbrev pub count_of : Attributes → ℤ → ℕ → Step ℕ ℕ
count_of a (pos n) p = count_from a n p
count_of a (negsuc zero) p = count_from a 0 p
count_of a (negsuc (suc k)) p = no 7

-- document 01, Reader's numbers, 5 to 8: what is met before the marker or the records; how many these are
unfoldable pub opened_at : List ℕ → ℕ → Step ℕ ℕ
opened_at s at =
    pick (ltb (length s) (at + 23)) (no 8)
    (pick (ltb 4 (attributes_in s at).codec) (no 5)
    (pick (ltb (length s) (at + fixed_part)) (no 8)
    (count_of (attributes_in s at) (number_in table.count s at) (at + fixed_part))))

-- How a control batch is read from the place after its fixed fields to the end of the list: its marker, or a number.
-- What follows is said for any such way.
abbrev pub Control : Type 0
Control = List ℕ → ℕ → Step ℕ Marker

abbrev pub content_at : Control → Bool → List ℕ → ℕ → ℕ → Step ℕ (Content RecordSpans)
content_at way true s n p = map_step control (way s p)
content_at way false s n p = map_step records (records_at s n p)

-- document 01, Fixed fields, crc: over place 21 to the batch's end
unfoldable pub whole_at : Control → List ℕ → ℕ → ℕ → ℕ → Step ℕ Accepted
whole_at way s at first total =
    pick (eqb (unsigned_in table.crc s at) (crc32c (drop (at + 21) s)))
    (and_then (opened_at s at) (λ n p.
    map_step (λ c. record { fields = fields_in s at; content = c; first_header = first; consumed = total })
    (content_at way (attributes_in s at).control s n p)))
    (no 4)

-- ---- the judgement

abbrev pub judgement_of : Step ℕ Accepted → Judgement
judgement_of (ok b p) = accepted b
judgement_of (no n) = refused n

-- once length and magic have been met, all else is said by the batch's own bytes
abbrev pub judge_whole : Control → List ℕ → ℕ → ℕ → Judged ℕ → Judgement
judge_whole way s at first (more n) = more n
judge_whole way s at first (refused n) = refused n
judge_whole way s at first (accepted total) = judgement_of (whole_at way (take (at + total) s) at first total)

-- for any way of reading a control batch, any place of the batch's first byte and any row of its first header
unfoldable pub judge_with : Control → List ℕ → ℕ → ℕ → Judgement
judge_with way s at first = judge_whole way s at first (total_at s at)

-- document 01, Reader's numbers, 8, 12 and 13
abbrev pub marker_of : ℤ → ℕ → Step ℕ Marker
marker_of t p = pick (is 0 t) (ok abort p) (pick (is 1 t) (ok commit p) (no 12))

abbrev pub ended_at : List ℕ → Marker → ℕ → Step ℕ Marker
ended_at s m p = pick (ltb p (length s)) (no 13) (ok m p)

-- Document 01, Fixed fields: version 0, then the type. They stand alone, as in the Rust, and not in the key of a
-- record.
unfoldable pub bare_marker_at : Control
bare_marker_at s at =
    and_then (integer_at 2 s at) (λ version p.
    pick (is 0 version) (and_then (and_then (integer_at 2 s p) marker_of) (ended_at s)) (no 12))

-- a marker that ends at the place p
abbrev pub as_of : ℕ → Marker → ℕ → Step ℕ Marker
as_of p m _ = ok m p

-- what the first four bytes of a key are, as a bare marker: 12 where they are not all there
abbrev pub marker_in_key : List ℕ → Option Span → ℕ → Step ℕ Marker
marker_in_key s none p = no 12
marker_in_key s (some k) p = pick (ltb k.len 4) (no 12) (and_then (bare_marker_at (take (k.start + 4) s) k.start) (as_of p))

-- Kafka, message format, control batch: one record, whose key begins with the marker. The key is looked at when all
-- else has been judged.
unfoldable pub keyed_marker_at : Control
keyed_marker_at s at = and_then (record_at s at) (λ r p. pick (ltb p (length s)) (no 13) (marker_in_key s r.key p))

-- C-16's two ways: the old rules
unfoldable pub former_way_of : ControlMode → Control
former_way_of ControlMode.Bare = bare_marker_at
former_way_of ControlMode.Keyed = keyed_marker_at

-- C-24: a marker that stands alone is refused by 41, and all else is read as before
abbrev pub withdrawn : Step ℕ Marker → Step ℕ Marker → Step ℕ Marker
withdrawn (ok m p) other = no 41
withdrawn (no n) other = other

unfoldable pub way_of : ControlMode → Control
way_of mode s at = withdrawn (bare_marker_at s at) (former_way_of mode s at)

abbrev pub judge_at : ControlMode → List ℕ → ℕ → ℕ → Judgement
judge_at mode s at first = judge_with (way_of mode) s at first

abbrev pub judge : ControlMode → List ℕ → Judgement
judge mode s = judge_at mode s 0 0

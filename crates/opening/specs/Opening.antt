-- Words of private contracts: none of them stands in a promise. The fixed fields as they are read, one after the other.
use Rattle.std.specs.Prelude.{ℕ, ◌≡◌, Result, Ok, Err, ◌+◌, ◌%◌, List, eqb, ltb, ℤ, take, drop}
use Rattle.numbers.specs.declared.Int16.{Int16}
use Rattle.numbers.specs.Pick.{pick}
use Rattle.numbers.specs.Format.{complement}
use Rattle.primitives.specs.Step.{Step, ok, no, and_then, map_step}
use Rattle.primitives.specs.Reading.{unsigned_at, integer_at}
use Rattle.crc32c.specs.Crc.{crc32c}
use Rattle.layout.specs.declared.Times.{Times}
use Rattle.layout.specs.declared.Producer.{Producer}
use Rattle.layout.specs.Table.{table}
use Rattle.layout.specs.Batch.{Fields}
use Rattle.layout.specs.Fixed.{view_type}
use Rattle.opening.specs.declared.Lead.{Lead}
use Rattle.opening.specs.declared.Version.{Version}
use Rattle.opening.specs.declared.Frame.{Frame}
use Rattle.opening.specs.declared.RecordBatchCompression.{RecordBatchCompression}
use Rattle.opening.specs.declared.Attributes.{Attributes}
use Rattle.opening.specs.declared.BatchFault.{BatchFault}
use Rattle.opening.specs.declared.Opened.{Opened}
use Rattle.opening.specs.Judgement.{Judged, more, refused, accepted, unsigned_in, number_in, apart, attributes_in, fields_in, total_at, count_of, opened_at}
use Rattle.opening.specs.Judgement as Judgement
use Rattle.opening.specs.Opened.{Known, KnownAt, known_at}
use Rattle.opening.specs.Answers.{batch_number_of, view_made, view_known_at}

-- ---- base offset and batchLength; leader epoch and magic

unfoldable pub lead_at : List ℕ → ℕ → Step ℕ Lead
lead_at s at =
    and_then (integer_at 8 s at) (λ base p.
    map_step (λ n. record { base_offset = base; batch_length = n }) (integer_at 4 s p))

unfoldable pub version_at : List ℕ → ℕ → Step ℕ Version
version_at s at =
    and_then (integer_at 4 s at) (λ epoch p.
    map_step (λ m. record { partition_leader_epoch = epoch; magic = m }) (integer_at 1 s p))

-- ---- the batch's length and magic, with the two fields that stand beside them

abbrev pub framed : List ℕ → ℕ → Judged ℕ → Judged Frame
framed s at (more n) = more n
framed s at (refused n) = refused n
framed s at (accepted n) =
    accepted
    (record {
      base_offset = number_in table.base_offset s at;
      partition_leader_epoch = number_in table.partition_leader_epoch s at;
      total = n;
    })

abbrev pub frame_at : List ℕ → ℕ → Judged Frame
frame_at s at = framed s at (total_at s at)

-- ---- the fixed fields under the checksum

abbrev pub codec_of : RecordBatchCompression → ℕ
codec_of RecordBatchCompression.NoCompression = 0
codec_of RecordBatchCompression.Gzip = 1
codec_of RecordBatchCompression.Snappy = 2
codec_of RecordBatchCompression.Lz4 = 3
codec_of RecordBatchCompression.Zstd = 4

-- a codec, by its number
abbrev pub Coded : ℕ → Result RecordBatchCompression BatchFault → Type 0
Coded n r = (p : ℕ) → view_made codec_of p r ≡ pick (ltb 4 n) (no 5) (ok n p)

abbrev pub view_attributes : Attributes → Judgement.Attributes
view_attributes a =
    record {
      codec = codec_of a.compression;
      timestamp_type = view_type a.timestamp_type;
      transactional = a.is_transactional;
      control = a.is_control;
    }

abbrev pub attributes_by : ℕ → ℕ → Step ℕ Judgement.Attributes
attributes_by a p = pick (ltb 4 (a % 8)) (no 5) (ok (apart a) p)

-- attributes, by the number that they are
abbrev pub SaysAttributes : Int16 → Result Attributes BatchFault → Type 0
SaysAttributes raw r = (p : ℕ) → view_made view_attributes p r ≡ attributes_by (complement 16 raw.0) p

unfoldable pub attributes_at : List ℕ → ℕ → Step ℕ Judgement.Attributes
attributes_at s at = and_then (unsigned_at 2 s at) attributes_by

unfoldable pub times_at : List ℕ → ℕ → Step ℕ Times
times_at s at =
    and_then (integer_at 4 s at) (λ delta p.
    and_then (integer_at 8 s p) (λ first q.
    map_step (λ max. record { last_offset_delta = delta; first_timestamp = first; max_timestamp = max }) (integer_at 8 s q)))

unfoldable pub producer_at : List ℕ → ℕ → Step ℕ Producer
producer_at s at =
    and_then (integer_at 8 s at) (λ id p.
    and_then (integer_at 2 s p) (λ epoch q.
    map_step (λ sequence. record { id = id; epoch = epoch; base_sequence = sequence }) (integer_at 4 s q)))

unfoldable pub count_at : Judgement.Attributes → List ℕ → ℕ → Step ℕ ℕ
count_at a s at = and_then (integer_at 4 s at) (count_of a)

-- ---- the opening: all that is known before the marker or the records

abbrev pub fields_from : ℤ → ℤ → Judgement.Attributes → Times → Producer → Fields
fields_from base epoch a t x =
    record {
      base_offset = base;
      partition_leader_epoch = epoch;
      last_offset_delta = t.last_offset_delta;
      first_timestamp = t.first_timestamp;
      max_timestamp = t.max_timestamp;
      producer_id = x.id;
      producer_epoch = x.epoch;
      base_sequence = x.base_sequence;
      timestamp_type = a.timestamp_type;
      transactional = a.transactional;
    }

-- as the fields under the checksum are read, from their first place on
unfoldable pub checked_at : ℤ → ℤ → List ℕ → ℕ → Step ℕ Known
checked_at base epoch s at =
    and_then (attributes_at s at) (λ a p.
    and_then (times_at s p) (λ t q.
    and_then (producer_at s q) (λ x r.
    map_step (λ n. record { fields = fields_from base epoch a t x; control = a.control; count = n }) (count_at a s r))))

abbrev pub fields_beside : ℤ → ℤ → List ℕ → ℕ → Fields
fields_beside base epoch s at =
    record {
      base_offset = base;
      partition_leader_epoch = epoch;
      last_offset_delta = (fields_in s at).last_offset_delta;
      first_timestamp = (fields_in s at).first_timestamp;
      max_timestamp = (fields_in s at).max_timestamp;
      producer_id = (fields_in s at).producer_id;
      producer_epoch = (fields_in s at).producer_epoch;
      base_sequence = (fields_in s at).base_sequence;
      timestamp_type = (fields_in s at).timestamp_type;
      transactional = (fields_in s at).transactional;
    }

-- what the judgement has of them, beside a base offset and a leader epoch that were read before
unfoldable pub opening_at : ℤ → ℤ → List ℕ → ℕ → Step ℕ Known
opening_at base epoch s at =
    pick (eqb (unsigned_in table.crc s at) (crc32c (drop (at + 21) s)))
    (map_step (λ n. record { fields = fields_beside base epoch s at; control = (attributes_in s at).control; count = n }) (opened_at s at))
    (no 4)

abbrev pub view_open : Result Opened BatchFault → Judged KnownAt
view_open (Ok x) = accepted (view_known_at x)
view_open (Err f) = refused (batch_number_of f)

-- the same with the bytes of the batch, once length and magic have been met
abbrev pub open_from : List ℕ → ℕ → Judged Frame → Judged KnownAt
open_from s at (more n) = more n
open_from s at (refused n) = refused n
open_from s at (accepted x) =
    known_at x.total (opening_at x.base_offset x.partition_leader_epoch (take (at + x.total) s) at)

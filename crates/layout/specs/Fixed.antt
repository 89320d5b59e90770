-- The fixed fields as they are written, one after the other, with the checksum worked out.
use Rattle.std.specs.Prelude.{ℕ, ◌*◌, List, [], ◌∷◌, ◌++◌, ℤ, pos}
use Rattle.numbers.specs.Concat.{concat}
use Rattle.numbers.specs.Format.{big_endian, complement}
use Rattle.crc32c.specs.Crc.{crc32c}
use Rattle.layout.specs.declared.RecordBatchTimestampType.{RecordBatchTimestampType}
use Rattle.layout.specs.declared.BatchFields.{BatchFields}
use Rattle.layout.specs.Table.{FixedFields, table}
use Rattle.layout.specs.Batch.{TimestampType, create_time, log_append_time, Fields}

-- ---- what the structs say

abbrev pub view_type : RecordBatchTimestampType → TimestampType
view_type RecordBatchTimestampType.CreateTime = create_time
view_type RecordBatchTimestampType.LogAppendTime = log_append_time

abbrev pub view_batch_fields : BatchFields → Fields
view_batch_fields x =
    record {
      base_offset = x.base_offset;
      partition_leader_epoch = x.partition_leader_epoch;
      last_offset_delta = x.times.last_offset_delta;
      first_timestamp = x.times.first_timestamp;
      max_timestamp = x.times.max_timestamp;
      producer_id = x.producer.id;
      producer_epoch = x.producer.epoch;
      base_sequence = x.producer.base_sequence;
      timestamp_type = view_type x.timestamp_type;
      transactional = x.is_transactional;
    }

-- ---- their bytes

-- a signed integer of n bytes
abbrev pub signed : ℕ → ℤ → List ℕ
signed n z = big_endian n (complement (8 * n) z)

-- the bytes of each fixed field
abbrev pub fixed_fields : Fields → (batch_length : ℤ) (crc : ℕ) (attributes count : ℤ) → FixedFields (List ℕ)
fixed_fields x batch_length crc attributes count =
    record {
      base_offset = signed table.base_offset.bytes x.base_offset;
      batch_length = signed table.batch_length.bytes batch_length;
      partition_leader_epoch = signed table.partition_leader_epoch.bytes x.partition_leader_epoch;
      magic = signed table.magic.bytes (pos 2);
      crc = big_endian table.crc.bytes crc;
      attributes = signed table.attributes.bytes attributes;
      last_offset_delta = signed table.last_offset_delta.bytes x.last_offset_delta;
      first_timestamp = signed table.first_timestamp.bytes x.first_timestamp;
      max_timestamp = signed table.max_timestamp.bytes x.max_timestamp;
      producer_id = signed table.producer_id.bytes x.producer_id;
      producer_epoch = signed table.producer_epoch.bytes x.producer_epoch;
      base_sequence = signed table.base_sequence.bytes x.base_sequence;
      count = signed table.count.bytes count;
    }

-- those up to the checksum, and those that the checksum is over, in two parts; none needs what it does not have
unfoldable pub frame_bytes : Fields → ℤ → ℕ → List ℕ
frame_bytes x batch_length crc =
    let f : FixedFields (List ℕ) = fixed_fields x batch_length crc (pos 0) (pos 0) in
    concat (f.base_offset ∷ f.batch_length ∷ f.partition_leader_epoch ∷ f.magic ∷ f.crc ∷ [])

unfoldable pub times_bytes : Fields → ℤ → List ℕ
times_bytes x attributes =
    let f : FixedFields (List ℕ) = fixed_fields x (pos 0) 0 attributes (pos 0) in
    concat (f.attributes ∷ f.last_offset_delta ∷ f.first_timestamp ∷ f.max_timestamp ∷ [])

unfoldable pub producer_bytes : Fields → ℤ → List ℕ
producer_bytes x count =
    let f : FixedFields (List ℕ) = fixed_fields x (pos 0) 0 (pos 0) count in
    concat (f.producer_id ∷ f.producer_epoch ∷ f.base_sequence ∷ f.count ∷ [])

abbrev pub checked_part : Fields → ℤ → ℤ → List ℕ
checked_part x attributes count = times_bytes x attributes ++ producer_bytes x count

-- all of them
abbrev pub fixed_bytes : Fields → ℤ → ℕ → ℤ → ℤ → List ℕ
fixed_bytes x batch_length crc attributes count = frame_bytes x batch_length crc ++ checked_part x attributes count

-- all of them before a body, whose bytes the checksum is over too
unfoldable pub fixed_before : Fields → (batch_length attributes count : ℤ) → List ℕ → List ℕ
fixed_before x batch_length attributes count body =
    fixed_bytes x batch_length (crc32c (checked_part x attributes count ++ body)) attributes count

-- Each promise admits a single answer. Assumes nothing.
use Prim.Native.Nat.{ℕ}
use mathlib.Core.Path.{◌≡◌, refl, ap}
use mathlib.Core.Bool.{Bool}
use mathlib.Core.List.{List}
use mathlib.Core.Option.{Option, none, some}
use Rattle.std.proofs.Common as std
use Rattle.std.proofs.Common.{Some, None}
use lib.IntN.{ℤ}
use Rattle.numbers.specs.declared.Int16.{Int16}
use Rattle.numbers.specs.Single.{Single}
use Rattle.numbers.proofs.Single.{single_value, single_view}
use Rattle.layout.specs.declared.RecordBatchTimestampType.{RecordBatchTimestampType}
use Rattle.layout.specs.declared.BatchFields.{BatchFields}
use Rattle.layout.specs.Batch.{TimestampType, create_time, log_append_time, Fields}
use Rattle.layout.specs.Fixed.{view_type, view_batch_fields}
use Rattle.layout.specs.Time.{view_time}
use Rattle.layout.specs.Promises.{TotalSizePromise, RecordTimePromise, AttributesPromise, FixedBeforePromise}

pub single_total_size : (n : ℤ) → Single (TotalSizePromise n)
single_total_size n = single_value _

abbrev pub time : Option ℤ → std.Option ℤ
time (some t) = Some t
time none = None

pub time_again : (r : std.Option ℤ) → time (view_time r) ≡ r
time_again (Some t) = refl
time_again None = refl

pub single_record_time : (x : BatchFields) (delta : ℤ) → Single (RecordTimePromise x delta)
single_record_time x delta = single_view view_time time time_again _

pub single_attributes : (x : BatchFields) (control : Bool) → Single (AttributesPromise x control)
single_attributes x control = single_view (λ (r : Int16). r.0) (λ (z : ℤ). record { 0 = z }) (λ r. refl) _

pub single_fixed_before : (x : BatchFields) (batch_length attributes count : ℤ) (body : List ℕ)
    → Single (FixedBeforePromise x batch_length attributes count body)
single_fixed_before x batch_length attributes count body = single_value _

-- ---- fields, made from what they say

abbrev pub timestamp_type : TimestampType → RecordBatchTimestampType
timestamp_type create_time = RecordBatchTimestampType.CreateTime
timestamp_type log_append_time = RecordBatchTimestampType.LogAppendTime

pub type_again : (t : RecordBatchTimestampType) → timestamp_type (view_type t) ≡ t
type_again RecordBatchTimestampType.CreateTime = refl
type_again RecordBatchTimestampType.LogAppendTime = refl

abbrev fields_of : Fields → RecordBatchTimestampType → BatchFields
fields_of x t =
    record {
      base_offset = x.base_offset;
      partition_leader_epoch = x.partition_leader_epoch;
      timestamp_type = t;
      is_transactional = x.transactional;
      times =
          record {
            last_offset_delta = x.last_offset_delta;
            first_timestamp = x.first_timestamp;
            max_timestamp = x.max_timestamp;
          };
      producer = record { id = x.producer_id; epoch = x.producer_epoch; base_sequence = x.base_sequence };
    }

abbrev pub fields : Fields → BatchFields
fields x = fields_of x (timestamp_type x.timestamp_type)

pub fields_again : (x : BatchFields) → fields (view_batch_fields x) ≡ x
fields_again x = ap (fields_of (view_batch_fields x)) (type_again x.timestamp_type)

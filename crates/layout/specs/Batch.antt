-- What a batch says, whichever way it is come by.
use Rattle.std.specs.Prelude.{Bool, List, ℤ}

-- document 01, Fixed fields, Attributes: bit 3
pub data TimestampType : Type 0 where
  create_time : TimestampType
  log_append_time : TimestampType

-- document 01, Fixed fields: the fields that are handed out and in
pub record Fields : Type 0 where
  pub base_offset : ℤ
  pub partition_leader_epoch : ℤ
  pub last_offset_delta : ℤ
  pub first_timestamp : ℤ
  pub max_timestamp : ℤ
  pub producer_id : ℤ
  pub producer_epoch : ℤ
  pub base_sequence : ℤ
  pub timestamp_type : TimestampType
  pub transactional : Bool

-- Kafka, message format, control batch
pub data Marker : Type 0 where
  abort : Marker
  commit : Marker

-- a control batch has a marker, another batch has records, in one form or another
pub data Content (R : Type 0) : Type 0 where
  control : Marker → Content R
  records : List R → Content R

pub record Batch (R : Type 0) : Type 0 where
  pub fields : Fields
  pub content : Content R

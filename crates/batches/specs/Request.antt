-- What is handed to the writer. Of a value of the machine's types it is so that each field is an integer of its bytes,
-- and each element of the source a byte; the functions promise that it is.
use Rattle.std.specs.Prelude.{ℕ, List}
use Rattle.numbers.specs.Bytes.{Bytes}
use Rattle.numbers.specs.Format.{InBits}
use Rattle.records.specs.Rows.{Tables}
use Rattle.layout.specs.declared.ControlMode.{ControlMode}
use Rattle.layout.specs.Batch.{Fields}
use Rattle.batches.specs.declared.RecordBatch.{RecordBatch}
use Rattle.batches.specs.declared.ControlBatchOrRecords.{ControlBatchOrRecords}
use Rattle.batches.specs.Answers.{view_fields}

pub record Request : Type 0 where
  pub mode : ControlMode
  pub batch : RecordBatch
  pub codec : ℕ
  pub kind : ControlBatchOrRecords
  pub tables : Tables
  pub source : List ℕ

pub record InWidth (x : Fields) : Type 0 where
  pub base_offset : InBits 64 x.base_offset
  pub partition_leader_epoch : InBits 32 x.partition_leader_epoch
  pub last_offset_delta : InBits 32 x.last_offset_delta
  pub first_timestamp : InBits 64 x.first_timestamp
  pub max_timestamp : InBits 64 x.max_timestamp
  pub producer_id : InBits 64 x.producer_id
  pub producer_epoch : InBits 16 x.producer_epoch
  pub base_sequence : InBits 32 x.base_sequence

pub record Sensible (q : Request) : Type 0 where
  pub fields : InWidth (view_fields q.batch)
  pub source : Bytes q.source

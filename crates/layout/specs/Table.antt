-- The fixed fields of a batch: document 01, Fixed fields. Kafka, message format, record batch, has the same in the same
-- order.
use Rattle.std.specs.Prelude.{ℕ, List, [], ◌∷◌}

-- something for each of them, in their order
pub record FixedFields (A : Type 0) : Type 0 where
  pub base_offset : A
  pub batch_length : A
  pub partition_leader_epoch : A
  pub magic : A
  pub crc : A
  pub attributes : A
  pub last_offset_delta : A
  pub first_timestamp : A
  pub max_timestamp : A
  pub producer_id : A
  pub producer_epoch : A
  pub base_sequence : A
  pub count : A

-- where a field stands, counted from the batch's first byte, and how many bytes it has
pub record Slot : Type 0 where
  pub place : ℕ
  pub bytes : ℕ

abbrev slot : ℕ → ℕ → Slot
slot p n = record { place = p; bytes = n }

abbrev pub table : FixedFields Slot
table =
    record {
      base_offset = slot 0 8;
      batch_length = slot 8 4;
      partition_leader_epoch = slot 12 4;
      magic = slot 16 1;
      crc = slot 17 4;
      attributes = slot 21 2;
      last_offset_delta = slot 23 4;
      first_timestamp = slot 27 8;
      max_timestamp = slot 35 8;
      producer_id = slot 43 8;
      producer_epoch = slot 51 2;
      base_sequence = slot 53 4;
      count = slot 57 4;
    }

-- what stands before batchLength's count begins
abbrev pub uncounted : ℕ
uncounted = 12

-- what it counts outside the checksum
abbrev pub unchecked : ℕ
unchecked = 9

-- the fixed checked part
abbrev pub fixed_checked : ℕ
fixed_checked = 40

-- the whole fixed part
abbrev pub fixed_part : ℕ
fixed_part = 61

-- the fields as a list, and in the three parts that the sizes are of
module _ {A : Type 0} (x : FixedFields A) where
  abbrev pub uncounted_fields : List A
  uncounted_fields = x.base_offset ∷ x.batch_length ∷ []

  abbrev pub unchecked_fields : List A
  unchecked_fields = x.partition_leader_epoch ∷ x.magic ∷ x.crc ∷ []

  abbrev pub checked_fields : List A
  checked_fields =
      x.attributes ∷ x.last_offset_delta ∷ x.first_timestamp ∷ x.max_timestamp ∷ x.producer_id ∷ x.producer_epoch
      ∷ x.base_sequence ∷ x.count ∷ []

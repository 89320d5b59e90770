-- The format of a batch, from values to bytes. It says which bytes are an encoding of a batch and knows nothing of
-- reading.
use Rattle.std.specs.Prelude.{ℕ, ◌+◌, ◌*◌, ◌≡◌, Bool, true, false, List, [], ◌++◌, ℤ, pos, negsuc, length}
use Rattle.std.proofs.Math.Option.{none, some}
use Rattle.numbers.specs.Concat.{concat}
use Rattle.numbers.specs.Format.{Unsigned, Integer}
use Rattle.crc32c.specs.Crc.{crc32c}
use Rattle.records.specs.Format.{Record, RecordBytes, RecordsBytes}
use Rattle.layout.specs.declared.ControlMode.{ControlMode}
use Rattle.layout.specs.Table.{FixedFields, table, uncounted_fields, unchecked_fields, checked_fields}
use Rattle.layout.specs.Batch.{TimestampType, create_time, log_append_time, Marker, abort, commit, Content, control, records, Fields, Batch}

-- ---- attributes

abbrev pub timestamp_bit : TimestampType → ℕ
timestamp_bit create_time = 0
timestamp_bit log_append_time = 1

abbrev pub bit : Bool → ℕ
bit false = 0
bit true = 1

abbrev pub control_bit : {R : Type 0} → Content R → ℕ
control_bit (control m) = 1
control_bit (records rs) = 0

-- Kafka, message format, record batch, attributes: bits 0 to 2 the codec, bit 3 the timestamp type, bit 4
-- transactional, bit 5 control.
-- Limit of scope: the codec is 0.
-- Exception, as in the Rust: bits 6 and up say nothing. The strict grammar wants them 0.
abbrev pub higher_bits : Bool → ℕ → ℕ
higher_bits false n = n
higher_bits true n = 0

-- the bits of the fields, and the control bit
abbrev pub attributes_for : Fields → ℕ → ℕ
attributes_for x is_control = 8 * timestamp_bit x.timestamp_type + 16 * bit x.transactional + 32 * is_control

abbrev pub attributes_of : Bool → ℕ → Batch Record → ℕ
attributes_of strict higher b = attributes_for b.fields (control_bit b.content) + 64 * higher_bits strict higher

-- ---- the number of records

abbrev pub how_many : {R : Type 0} → Content R → ℕ
how_many (control m) = 1
how_many (records rs) = length rs

-- Exception, as in the Rust: -1 stands for 0 too. The strict grammar has no such count.
pub data Counts : Bool → ℤ → ℕ → Type 0 where
  exactly : {strict : Bool} {n : ℕ} → Counts strict (pos n) n
  minus_one : Counts false (negsuc 0) 0

-- ---- what follows the fixed fields

abbrev pub marker_type : Marker → ℕ
marker_type abort = 0
marker_type commit = 1

-- Kafka, message format, control batch: version and type.
-- Limit of scope: version 0, types 0 and 1.
pub record MarkerBytes (bs : List ℕ) (m : Marker) : Type 0 where
  pub version : List ℕ
  pub kind : List ℕ
  pub is : bs ≡ version ++ kind
  pub versioned : Integer 2 version (pos 0)
  pub typed : Integer 2 kind (pos (marker_type m))

-- the record whose key is a marker and that says nothing else
abbrev pub marker_record : List ℕ → Record
marker_record marker = record { timestamp_delta = pos 0; offset_delta = pos 0; key = some marker; value = none; headers = [] }

abbrev pub Plain : Bool → Record → List ℕ → Type 0
Plain false r marker = Unit {0}
Plain true r marker = r ≡ marker_record marker

-- Kafka, message format, control batch: one record, whose key begins with the marker. The strict grammar wants the
-- marker alone as its key, zero deltas, no value and no headers.
pub record KeyedBytes (strict : Bool) (bs : List ℕ) (m : Marker) : Type 0 where
  pub shows : Record
  pub holds : RecordBytes strict bs shows
  pub marker : List ℕ
  pub rest : List ℕ
  pub keyed : shows.key ≡ some (marker ++ rest)
  pub marked : MarkerBytes marker m
  pub plain : Plain strict shows marker

-- What follows the fixed fields of a control batch, by the strict grammar or not. The batch is said for any such
-- grammar.
abbrev pub Grammar : Type 1
Grammar = Bool → List ℕ → Marker → Type 0

-- The form that C-24 withdraws, which is the Rust's: version and type stand alone, and not in the key of a record.
abbrev pub bare_grammar : Grammar
bare_grammar strict bs m = MarkerBytes bs m

-- C-24: in bare mode nothing is a control batch.
unfoldable pub grammar_of : ControlMode → Grammar
grammar_of ControlMode.Bare strict bs m = ⊥
grammar_of ControlMode.Keyed strict bs m = KeyedBytes strict bs m

-- what follows the fixed fields, for any grammar of a control batch
abbrev pub ContentBytes : Grammar → Bool → List ℕ → Content Record → Type 0
ContentBytes grammar strict bs (control m) = grammar strict bs m
ContentBytes grammar strict bs (records rs) = RecordsBytes strict bs rs

-- ---- the batch

-- Kafka, message format, record batch. The checksum is over all that follows it, batchLength is the number of bytes
-- that follow it.
-- Exception, as in the Rust: lastOffsetDelta and the timestamps are any integers, whatever the records are.
pub record BatchBytesWith (grammar : Grammar) (strict : Bool) (bs : List ℕ) (b : Batch Record) : Type 0 where
  pub part : FixedFields (List ℕ)  -- the bytes of each fixed field
  pub body : List ℕ  -- what follows them
  pub checked : List ℕ  -- what the checksum is over
  pub counted : List ℕ  -- what batchLength counts
  pub higher : ℕ  -- bits 6 and up of the attributes
  pub count : ℤ  -- the number in the count
  pub is : bs ≡ concat (uncounted_fields part) ++ counted
  pub counted_is : counted ≡ concat (unchecked_fields part) ++ checked
  pub checked_is : checked ≡ concat (checked_fields part) ++ body
  pub base_offset : Integer table.base_offset.bytes part.base_offset b.fields.base_offset
  pub batch_length : Integer table.batch_length.bytes part.batch_length (pos (length counted))
  pub partition_leader_epoch : Integer table.partition_leader_epoch.bytes part.partition_leader_epoch b.fields.partition_leader_epoch
  pub magic : Integer table.magic.bytes part.magic (pos 2)
  pub crc : Unsigned table.crc.bytes part.crc (crc32c checked)
  pub attributes : Unsigned table.attributes.bytes part.attributes (attributes_of strict higher b)
  pub last_offset_delta : Integer table.last_offset_delta.bytes part.last_offset_delta b.fields.last_offset_delta
  pub first_timestamp : Integer table.first_timestamp.bytes part.first_timestamp b.fields.first_timestamp
  pub max_timestamp : Integer table.max_timestamp.bytes part.max_timestamp b.fields.max_timestamp
  pub producer_id : Integer table.producer_id.bytes part.producer_id b.fields.producer_id
  pub producer_epoch : Integer table.producer_epoch.bytes part.producer_epoch b.fields.producer_epoch
  pub base_sequence : Integer table.base_sequence.bytes part.base_sequence b.fields.base_sequence
  pub numbered : Integer table.count.bytes part.count count
  pub counts : Counts strict count (how_many b.content)
  pub holds : ContentBytes grammar strict body b.content

abbrev pub BatchBytes : ControlMode → Bool → List ℕ → Batch Record → Type 0
BatchBytes mode = BatchBytesWith (grammar_of mode)

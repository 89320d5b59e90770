-- The fixed fields, markers and times of the worked batches (crates/examples), by the definitions of this crate.
-- What proves each stands in proofs/ under the statement's name in small letters: `worked_times : WorkedTimes`.
use Rattle.std.specs.Prelude.{ℕ, ◌%◌, ◌≡◌, Bool, true, false, List, [], ◌++◌, map, ℤ, pos, length, take, drop}
use Rattle.std.proofs.Math.Option.{Option}
use Rattle.examples.specs.Examples.{Holds, an_abort, a_commit, the_records, Example, record_examples, marker_examples, examples}
use Rattle.records.specs.Format.{Record}
use Rattle.records.specs.Worked.{example_record, example_records}
use Rattle.layout.specs.Table.{uncounted, fixed_part}
use Rattle.layout.specs.Batch.{TimestampType, create_time, log_append_time, Fields, abort, commit, Content, control, records, Batch}
use Rattle.layout.specs.Format.{attributes_for, control_bit, how_many, marker_type}
use Rattle.layout.specs.Fixed.{signed, fixed_before}
use Rattle.layout.specs.Time.{record_time}

-- ---- the example's words in ours

abbrev pub example_type : (log_append : Bool) → TimestampType
example_type false = create_time
example_type true = log_append_time

abbrev pub example_fields : Example → Fields
example_fields e =
    record {
      base_offset = e.base_offset;
      partition_leader_epoch = e.partition_leader_epoch;
      last_offset_delta = e.last_offset_delta;
      first_timestamp = e.first_timestamp;
      max_timestamp = e.max_timestamp;
      producer_id = e.producer_id;
      producer_epoch = e.producer_epoch;
      base_sequence = e.base_sequence;
      timestamp_type = example_type e.log_append;
      transactional = e.transactional;
    }

abbrev pub example_content : Holds → Content Record
example_content an_abort = control abort
example_content a_commit = control commit
example_content (the_records rs) = records (map example_record rs)

abbrev pub example_batch : Example → Batch Record
example_batch e = record { fields = example_fields e; content = example_content e.holds }

-- ---- attributes

-- bits 0 to 5; those above say nothing
abbrev low_bits : Example → ℕ
low_bits e = e.attributes % 64

-- The bits of each worked batch are those that stand in it.
abbrev pub WorkedAttributes : Type 0
WorkedAttributes =
    map (λ (e : Example). attributes_for (example_fields e) (control_bit (example_content e.holds))) examples ≡ map low_bits examples

-- ---- fixed fields

abbrev fixed_of : Example → List ℕ
fixed_of e =
    fixed_before (example_fields e) (pos (length (drop uncounted e.written))) (pos (low_bits e))
    (pos (how_many (example_content e.holds))) (drop fixed_part e.written)

-- What is written before the body of each worked batch is what is to be written there, its checksum too.
abbrev pub WorkedFixed : Type 0
WorkedFixed = map fixed_of examples ≡ map (λ (e : Example). take fixed_part e.written) examples

-- ---- markers

-- version 0, and the type
abbrev marker_in : Content Record → List ℕ
marker_in (control m) = signed 2 (pos 0) ++ signed 2 (pos (marker_type m))
marker_in (records rs) = []

-- Each worked marker has the type that stands in it.
abbrev pub WorkedMarkers : Type 0
WorkedMarkers =
    map (λ (e : Example). marker_in (example_content e.holds)) marker_examples
    ≡ map (λ (e : Example). drop fixed_part e.bytes) marker_examples

-- ---- times

abbrev times_of : Example → List (Option ℤ)
times_of e = map (λ (r : Record). record_time (example_fields e) r.timestamp_delta) (example_records e.holds)

-- The records of each worked batch have the times that are given with it.
abbrev pub WorkedTimes : Type 0
WorkedTimes = map times_of record_examples ≡ map (λ (e : Example). e.times) record_examples

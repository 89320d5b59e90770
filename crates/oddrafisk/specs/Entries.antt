-- The number of a mode and the sixteen entries of a batch, as programs in other languages see them: the reader answers
-- by the entries, and the writer takes them. bindings/c/oddrafisk.h names the numbers and the places.
use Rattle.std.specs.Prelude.{ℕ, Bool, true, false, List, [], ◌∷◌, eqb, ℤ, pos, negsuc, get_or}
use Rattle.std.proofs.Math.Option.{Option, none, some}
use Rattle.numbers.specs.Format.{in_bits}
use Rattle.numbers.specs.Pick.{pick}
use Rattle.layout.specs.declared.ControlMode.{ControlMode}
use Rattle.layout.specs.Batch.{TimestampType, create_time, log_append_time, Fields, abort, commit}
use Rattle.opening.specs.Judgement.{is}
use Rattle.batches.specs.Answers.{Kind, of_records, of_marker, Answer}
use Rattle.batches.specs.Writer.{Wanted, marker, rows}

-- ---- the mode

-- 1 is keyed, and every other number bare
abbrev pub mode_of : ℕ → ControlMode
mode_of n = pick (eqb n 1) ControlMode.Keyed ControlMode.Bare

-- ---- what the reader answers

-- document 01, Fixed fields, Attributes, bit 3
abbrev pub type_entry : TimestampType → ℤ
type_entry create_time = pos 0
type_entry log_append_time = pos 1

abbrev pub flag_entry : Bool → ℤ
flag_entry false = pos 0
flag_entry true = pos 1

abbrev pub kind_entry : Kind → ℤ
kind_entry of_records = pos 0
kind_entry (of_marker abort) = pos 1
kind_entry (of_marker commit) = pos 2

abbrev pub kind_or0 : Option Kind → ℤ
kind_or0 none = pos 0
kind_or0 (some k) = kind_entry k

-- ten fields, or 0 where none are named
abbrev pub field_entries : Option Fields → List ℤ → List ℤ
field_entries none rest =
    pos 0 ∷ pos 0 ∷ pos 0 ∷ pos 0 ∷ pos 0 ∷ pos 0 ∷ pos 0 ∷ pos 0 ∷ pos 0 ∷ pos 0 ∷ rest
field_entries (some x) rest =
    x.base_offset
    ∷ x.partition_leader_epoch
    ∷ x.last_offset_delta
    ∷ x.first_timestamp
    ∷ x.max_timestamp
    ∷ x.producer_id
    ∷ x.producer_epoch
    ∷ x.base_sequence
    ∷ type_entry x.timestamp_type
    ∷ flag_entry x.transactional
    ∷ rest

-- the fields, the kind, how many records, headers and bytes, and two entries that are 0
abbrev pub entries_of : Answer → List ℤ
entries_of a =
    field_entries a.fields
    (kind_or0 a.kind ∷ pos a.records ∷ pos a.headers ∷ pos a.bytes ∷ pos 0 ∷ pos 0 ∷ [])

-- ---- what the writer is asked for

abbrev pub is0or1 : ℤ → Bool
is0or1 z = pick (is 0 z) true (is 1 z)

-- the fields of fewer than 64 bits
abbrev pub widths_fit : List ℤ → Bool
widths_fit e =
    pick (in_bits 32 (get_or e 1 (pos 0)))
    (pick (in_bits 32 (get_or e 2 (pos 0))) (pick (in_bits 16 (get_or e 6 (pos 0))) (in_bits 32 (get_or e 7 (pos 0))) false) false) false

-- type and flag, and the two entries that are 0
abbrev pub flags_fit : List ℤ → Bool
flags_fit e =
    pick (is0or1 (get_or e 8 (pos 0)))
    (pick (is0or1 (get_or e 9 (pos 0))) (pick (is 0 (get_or e 14 (pos 0))) (is 0 (get_or e 15 (pos 0))) false) false) false

-- whether a batch can have such entries
abbrev pub fields_fit : List ℤ → Bool
fields_fit e = pick (widths_fit e) (flags_fit e) false

abbrev pub type_of : ℤ → TimestampType
type_of z = pick (is 0 z) create_time log_append_time

abbrev pub flag_of : ℤ → Bool
flag_of z = pick (is 0 z) false true

abbrev pub fields_of : List ℤ → Fields
fields_of e =
    record {
      base_offset = get_or e 0 (pos 0);
      partition_leader_epoch = get_or e 1 (pos 0);
      last_offset_delta = get_or e 2 (pos 0);
      first_timestamp = get_or e 3 (pos 0);
      max_timestamp = get_or e 4 (pos 0);
      producer_id = get_or e 5 (pos 0);
      producer_epoch = get_or e 6 (pos 0);
      base_sequence = get_or e 7 (pos 0);
      timestamp_type = type_of (get_or e 8 (pos 0));
      transactional = flag_of (get_or e 9 (pos 0));
    }

-- a number of records, from 0
abbrev pub rows_of : ℤ → Option Wanted
rows_of (pos n) = some (rows n)
rows_of (negsuc k) = none

-- The kind, by its number and the number of records. A marker has none, and does not look there.
abbrev pub kind_wanted : ℤ → ℤ → Option Wanted
kind_wanted z n = pick (is 1 z) (some (marker abort)) (pick (is 2 z) (some (marker commit)) (pick (is 0 z) (rows_of n) none))

-- C-24: a marker, in the mode in which none is written
abbrev pub bare_asked : ControlMode → ℤ → Bool
bare_asked ControlMode.Bare z = pick (is 1 z) true (is 2 z)
bare_asked ControlMode.Keyed z = false

-- what the entries ask for
pub record AskedBatch : Type 0 where
  pub fields : Fields
  pub wanted : Wanted

abbrev pub asked_with : Fields → Option Wanted → Option AskedBatch
asked_with x none = none
asked_with x (some wanted) = some (record { fields = x; wanted = wanted })

-- or none, where there are some that no batch has
unfoldable pub entries_asked : List ℤ → Option AskedBatch
entries_asked e = pick (fields_fit e) (asked_with (fields_of e) (kind_wanted (get_or e 10 (pos 0)) (get_or e 11 (pos 0)))) none

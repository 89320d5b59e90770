-- The laws of the conversion, each in words and then as a statement. What proves each stands in proofs/ under the
-- statement's name in small letters: `converted_reads : ConvertedReads`.
use Rattle.std.specs.Prelude.{ℕ, ◌+◌, ◌<◌, ◌≤◌, ◌≡◌, ◌⊎◌, List, ◌++◌, length, take, drop}
use Rattle.numbers.specs.Bytes.{Bytes}
use Rattle.numbers.specs.Exactly.{Exactly}
use Rattle.layout.specs.declared.ControlMode.{ControlMode}
use Rattle.layout.specs.Table.{Slot, table}
use Rattle.layout.specs.Batch.{Marker, control}
use Rattle.opening.specs.Judgement.{more, refused, accepted, Accepted, judge_with, bare_marker_at, judge}
use Rattle.batches.specs.Answers.{Standing}
use Rattle.converting.specs.Conversion.{Conversion, rekeyed, conversion_of}
use Rattle.converting.specs.Answers.{view_converted}
use Rattle.converting.specs.Promises.{ConvertOutcome, ConvertPromise}

-- ---- what is given

-- a bare marker was accepted by the old rules, and what is given is accepted in keyed mode, with anything after it, as
-- the same fields and marker and as all of its bytes
pub record Rekeyed (s : List ℕ) (c : Conversion) : Type 0 where
  pub former : Accepted
  pub marker : Marker
  pub judged : judge_with bare_marker_at s 0 0 ≡ accepted former
  pub content : former.content ≡ control marker
  pub taken : c.taken ≡ former.consumed
  pub given : c.given ≡ rekeyed s marker
  pub reads : (after : List ℕ)
      → judge ControlMode.Keyed (c.given ++ after)
      ≡ accepted (record { fields = former.fields; content = control marker; first_header = 0; consumed = length c.given })

-- the batch is accepted in keyed mode, and what is given is its own bytes
pub record Copied (s : List ℕ) (c : Conversion) : Type 0 where
  pub batch : Accepted
  pub judged : judge ControlMode.Keyed s ≡ accepted batch
  pub taken : c.taken ≡ batch.consumed
  pub given : c.given ≡ take batch.consumed s

-- What is given is accepted in keyed mode with the same fields and marker, or is the batch's own bytes.
abbrev pub ConvertedReads : Type 0
ConvertedReads = (s : List ℕ) (c : Conversion) → Bytes s → conversion_of s ≡ accepted c → Rekeyed s c ⊎ Copied s c

-- the bytes of a fixed field
abbrev pub slot_of : Slot → List ℕ → List ℕ
slot_of f s = take f.bytes (drop f.place s)

-- every fixed field but batchLength and crc
pub data KeptSlot : Slot → Type 0 where
  base_offset : KeptSlot table.base_offset
  partition_leader_epoch : KeptSlot table.partition_leader_epoch
  magic : KeptSlot table.magic
  attributes : KeptSlot table.attributes
  last_offset_delta : KeptSlot table.last_offset_delta
  first_timestamp : KeptSlot table.first_timestamp
  max_timestamp : KeptSlot table.max_timestamp
  producer_id : KeptSlot table.producer_id
  producer_epoch : KeptSlot table.producer_epoch
  base_sequence : KeptSlot table.base_sequence
  count : KeptSlot table.count

-- In what is given every fixed field but batchLength and checksum has the bytes that it had.
abbrev pub ConvertedKept : Type 0
ConvertedKept = (s : List ℕ) (c : Conversion) (f : Slot) → Bytes s → conversion_of s ≡ accepted c → KeptSlot f → slot_of f c.given ≡ slot_of f s

-- What is given is given again for itself, whatever follows it.
abbrev pub ConvertedTwice : Type 0
ConvertedTwice =
    (s after : List ℕ) (c : Conversion) → Bytes s → conversion_of s ≡ accepted c
    → conversion_of (c.given ++ after) ≡ accepted (record { taken = length c.given; given = c.given })

-- What is given is at most seven bytes longer than what is taken, so an output of seven bytes more is always enough.
abbrev pub ConvertedSize : Type 0
ConvertedSize =
    (s : List ℕ) (c : Conversion) → Bytes s → conversion_of s ≡ accepted c → (length c.given ≤ c.taken + 7) × (c.taken ≤ length s)

-- ---- numbers

-- More bytes are asked for, and a batch is refused by 2 to 13, exactly where keyed mode does so; and never is one refused
-- by 41, nor by another number. What is accepted is what keyed mode accepts, and what it refuses by 41.
pub record NumbersOf (s : List ℕ) : Type 0 where
  pub wanting : (n : ℕ) → Exactly (conversion_of s ≡ more n) (judge ControlMode.Keyed s ≡ more n)
  pub refusing : (n : ℕ) → Exactly (conversion_of s ≡ refused n) ((judge ControlMode.Keyed s ≡ refused n) × (n ≡ 41 → ⊥))
  pub standing : (n : ℕ) → conversion_of s ≡ refused n → Standing n × (n ≡ 41 → ⊥)
  pub accepting : Exactly ((c : Conversion) × (conversion_of s ≡ accepted c))
      (((b : Accepted) × (judge ControlMode.Keyed s ≡ accepted b)) ⊎ (judge ControlMode.Keyed s ≡ refused 41))

abbrev pub ConvertedNumbers : Type 0
ConvertedNumbers = (s : List ℕ) → NumbersOf s

-- ---- the function

-- Each number is given exactly where the conversion says: 0 and 24 by whether the output has room for what is given.
pub record ConvertNumbersOf (s out : List ℕ) (n : ℕ) : Type 0 where
  pub done : Exactly (n ≡ 0) ((c : Conversion) × (conversion_of s ≡ accepted c) × (length c.given ≤ length out))
  pub one : Exactly (n ≡ 1) ((k : ℕ) × (conversion_of s ≡ more k))
  pub standing : Exactly (Standing n) (conversion_of s ≡ refused n)
  pub twenty_four : Exactly (n ≡ 24) ((c : Conversion) × (conversion_of s ≡ accepted c) × (length out < length c.given))
  -- no other number is given
  pub no_other : (n ≡ 0) ⊎ ((n ≡ 1) ⊎ ((n ≡ 24) ⊎ (Standing n × (n ≡ 41 → ⊥))))

abbrev pub ConvertNumbers : Type 0
ConvertNumbers = (s out : List ℕ) (o : ConvertOutcome) → ConvertPromise s out o → ConvertNumbersOf s out (view_converted o.result).number

-- Every answer but 1 and 24 is the same for longer bytes and a longer output, and each output begins with the same.
pub record SameConversion (o o' : ConvertOutcome) (out out' : List ℕ) : Type 0 where
  pub result : o'.result ≡ o.result
  pub given : take (view_converted o.result).given o'.output ≡ take (view_converted o.result).given o.output
  pub others : drop (view_converted o.result).given o.output ≡ drop (view_converted o.result).given out
  pub others' : drop (view_converted o.result).given o'.output ≡ drop (view_converted o.result).given out'

abbrev pub ConvertStands : Type 0
ConvertStands =
    (s after out out' : List ℕ) (o o' : ConvertOutcome) → ConvertPromise s out o → ConvertPromise (s ++ after) out' o'
    → length out ≤ length out' → ((view_converted o.result).number ≡ 1 → ⊥) → ((view_converted o.result).number ≡ 24 → ⊥)
    → SameConversion o o' out out'

-- Whatever is answered but 0, the output is at exit what it was.
abbrev pub ConvertUntouched : Type 0
ConvertUntouched =
    (s out : List ℕ) (o : ConvertOutcome) → ConvertPromise s out o → ((view_converted o.result).number ≡ 0 → ⊥) → o.output ≡ out

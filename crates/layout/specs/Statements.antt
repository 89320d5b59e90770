-- The laws of the fixed fields, each in words and then as a statement. What proves each stands in proofs/ under the
-- statement's name in small letters: `table_runs_on : TableRunsOn`.
use Rattle.std.specs.Prelude.{ℕ, ◌+◌, ◌≡◌, List, [], ◌∷◌, ℤ, ◌+ℤ◌, length}
use Rattle.std.proofs.Math.Option.{none, some}
use Rattle.numbers.specs.Exactly.{Exactly}
use Rattle.numbers.specs.Format.{InBits}
use Rattle.layout.specs.Table.{Slot, table, uncounted, unchecked, fixed_checked, fixed_part, uncounted_fields, unchecked_fields, checked_fields}
use Rattle.layout.specs.Batch.{Fields}
use Rattle.layout.specs.Fixed.{fixed_before}
use Rattle.layout.specs.Time.{record_time}

-- the fields follow each other from a place up to another
unfoldable pub RunOn : ℕ → List Slot → ℕ → Type 0
RunOn p [] q = p ≡ q
RunOn p (f ∷ rest) q = (f.place ≡ p) × RunOn (p + f.bytes) rest q

-- Each field stands where the one before it ends, and the sizes 12, 9, 40 and 61 are those of their parts.
abbrev pub TableRunsOn : Type 0
TableRunsOn =
    RunOn 0 (uncounted_fields table) uncounted × RunOn uncounted (unchecked_fields table) (uncounted + unchecked)
    × RunOn (uncounted + unchecked) (checked_fields table) fixed_part × (uncounted + unchecked + fixed_checked ≡ fixed_part)

-- What is written before a body has the size of the fixed part.
abbrev pub FixedLength : Type 0
FixedLength =
    (x : Fields) (batch_length attributes count : ℤ) (body : List ℕ)
    → length (fixed_before x batch_length attributes count body) ≡ fixed_part

-- A record has a time exactly where firstTimestamp plus its delta is a number of 64 bits, and that is it; it has none
-- exactly where the sum leaves them.
abbrev pub RecordTimes : Type 0
RecordTimes =
    (x : Fields) (delta : ℤ)
    → ((t : ℤ) → Exactly (record_time x delta ≡ some t) ((t ≡ x.first_timestamp +ℤ delta) × InBits 64 t))
    × Exactly (record_time x delta ≡ none) (InBits 64 (x.first_timestamp +ℤ delta) → ⊥)

-- What each public function promises of its result, for every input. What is lent is lent to be read: no function here
-- can change it.
use Rattle.std.specs.Prelude.{ℕ, ◌≡◌, Bool, List, Option, ℤ, pos, ◌+ℤ◌}
use Rattle.numbers.specs.declared.Int16.{Int16}
use Rattle.layout.specs.declared.BatchFields.{BatchFields}
use Rattle.layout.specs.Table.{uncounted}
use Rattle.layout.specs.Time.{record_time, view_time}
use Rattle.layout.specs.Format.{bit, attributes_for}
use Rattle.layout.specs.Fixed.{view_batch_fields, fixed_before}

-- BatchFields::total_size, of any batchLength
abbrev pub TotalSizePromise : ℤ → ℤ → Type 0
TotalSizePromise batch_length r = r ≡ pos uncounted +ℤ batch_length

-- BatchFields::record_time
abbrev pub RecordTimePromise : BatchFields → ℤ → Option ℤ → Type 0
RecordTimePromise x delta r = view_time r ≡ record_time (view_batch_fields x) delta

-- BatchFields::attributes, of a batch that is a control batch, or is not
abbrev pub AttributesPromise : BatchFields → Bool → Int16 → Type 0
AttributesPromise x control r = r.0 ≡ pos (attributes_for (view_batch_fields x) (bit control))

-- BatchFields::fixed_before, of batchLength, attributes and count as they are put, and of a body
abbrev pub FixedBeforePromise : BatchFields → (batch_length attributes count : ℤ) → List ℕ → List ℕ → Type 0
FixedBeforePromise x batch_length attributes count body r =
    r ≡ fixed_before (view_batch_fields x) batch_length attributes count body

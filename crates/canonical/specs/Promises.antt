-- What the public function promises of its result, for every input. Lent bytes are lent to be read: it cannot change
-- them.
use Rattle.std.specs.Prelude.{ℕ, ◌≡◌, Bool, true, List, length}
use Rattle.numbers.specs.Exactly.{Exactly}
use Rattle.primitives.specs.Stands.{Encoding}
use Rattle.records.specs.Format.{Record, RecordsBytes}

-- as many records stand strictly, in shortest numbers and with attributes of 0, from a place up to the end of the bytes
abbrev pub StandStrictly : List ℕ → ℕ → ℕ → Type 0
StandStrictly s at count = (rs : List Record) × Encoding (RecordsBytes true) s at (length s) rs × (length rs ≡ count)

-- canonical_records, on bytes s, a place and a number of records
abbrev pub CanonicalRecordsPromise : List ℕ → ℕ → ℕ → Bool → Type 0
CanonicalRecordsPromise s at count r = Exactly (r ≡ true) (StandStrictly s at count)

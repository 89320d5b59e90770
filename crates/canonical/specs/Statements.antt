-- The laws of canonical records, each in words and then as a statement. What proves each stands in proofs/ under the
-- statement's name in small letters: `canonical_written : CanonicalWritten`.
use Rattle.std.specs.Prelude.{ℕ, ◌≡◌, true, List, length, drop}
use Rattle.records.specs.Format.{Record}
use Rattle.records.specs.Written.{written_records}
use Rattle.canonical.specs.Promises.{CanonicalRecordsPromise}

-- Where the answer is yes, the bytes from the place on are what is written for as many records.
abbrev pub CanonicalWritten : Type 0
CanonicalWritten =
    (s : List ℕ) (at count : ℕ) → CanonicalRecordsPromise s at count true
    → (rs : List Record) × (length rs ≡ count) × (drop at s ≡ written_records rs)

-- The promise admits a single answer. Assumes nothing.
use Prim.Native.Nat.{ℕ}
use mathlib.Core.List.{List}
use Rattle.numbers.specs.Single.{Single}
use Rattle.numbers.proofs.Single.{single_exactly}
use Rattle.canonical.specs.Promises.{StandStrictly, CanonicalRecordsPromise}

pub single_canonical_records : (s : List ℕ) (at count : ℕ) → Single (CanonicalRecordsPromise s at count)
single_canonical_records s at count = single_exactly (StandStrictly s at count)

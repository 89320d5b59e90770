-- The promise admits a single answer: it gives the answer itself. Assumes nothing.
use Prim.Native.Nat.{ℕ}
use mathlib.Core.List.{List}
use Rattle.numbers.specs.Single.{Single}
use Rattle.numbers.proofs.Single.{single_value}
use Rattle.utf8.specs.Promises.{IsUtf8Promise}

pub single_is_utf8 : (s : List ℕ) → Single (IsUtf8Promise s)
single_is_utf8 s = single_value _

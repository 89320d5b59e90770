-- Each promise admits a single answer: it gives the answer itself. Assumes nothing.
use Prim.Native.Nat.{ℕ}
use lib.IntN.{ℤ}
use Rattle.numbers.specs.Single.{Single}
use Rattle.numbers.proofs.Single.{single_value}
use Rattle.sizes.specs.Promises.{NumberSizePromise, SpanSizePromise, PlaceSizePromise, CappedPromise}

pub single_number_size : (n : ℤ) → Single (NumberSizePromise n)
single_number_size n r r' e e' = single_value _ r r' e.is e'.is

pub single_span_size : (len : ℕ) → Single (SpanSizePromise len)
single_span_size len = single_value _

pub single_place_size : (len : ℤ) → Single (PlaceSizePromise len)
single_place_size len = single_value _

pub single_capped : (n : ℕ) → Single (CappedPromise n)
single_capped n = single_value _

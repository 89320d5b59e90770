-- Each promise admits a single answer: the entry and the tables are given. Assumes nothing.
use Prim.Native.Nat.{ℕ}
use mathlib.Core.List.{List}
use Rattle.numbers.specs.Single.{Single}
use Rattle.numbers.proofs.Single.{single_value}
use Rattle.records.specs.Rows.{Tables}
use Rattle.listing.specs.Promises.{ListFirstPromise, ListAtPromise}

pub single_list_first : (s : List ℕ) → Single (ListFirstPromise s)
single_list_first s = single_value _

pub single_list_at : (s : List ℕ) (place : ℕ) (t : Tables) → Single (ListAtPromise s place t)
single_list_at s place t o o' e e' =
    let p = single_value _ o.result o'.result e.result e'.result in
    let q = single_value _ o.tables o'.tables e.tables e'.tables in
    λ i. record { result = p i; tables = q i }

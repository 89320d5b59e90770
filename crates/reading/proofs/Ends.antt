-- The last record has to end where the bytes end: what all records are, by where the run of them ends. Assumes nothing.
use Prim.Native.Nat.{ℕ, ◌≤◌, ◌<◌}
use mathlib.Core.Path.{◌≡◌}
use mathlib.Core.List.{List}
use native.Mathlib.Omega.{arith}
use borrow.Author.Tests.{le-ltb, lt-ltb, eq-eqb, ne_eqb}
use lib.ListN.{length}
use Rattle.primitives.specs.Step.{ok, no}
use Rattle.records.specs.Judgement.{RecordSpans, run_at, records_at}

module _ (s : List ℕ) (count at : ℕ) {rs : List RecordSpans} {q : ℕ} (e : run_at s count at ≡ ok rs q) where
  pub left_is : q < length s → records_at s count at ≡ no 13
  unfolding records_at
  left_is h = rw (e, lt-ltb q (length s) h)

  pub past_is : length s < q → records_at s count at ≡ no 8
  unfolding records_at
  past_is h = rw (e, le-ltb q (length s) (omega arith), ne_eqb q (length s) (λ w. omega (arith, w)))

  pub all_is : length s ≤ q → q ≤ length s → records_at s count at ≡ ok rs q
  unfolding records_at
  all_is g h = rw (e, le-ltb q (length s) g, eq-eqb q (length s) (omega arith))

pub refused_is : (s : List ℕ) (count at : ℕ) {n : ℕ} → run_at s count at ≡ no n → records_at s count at ≡ no n
unfolding records_at
refused_is s count at e = rw e

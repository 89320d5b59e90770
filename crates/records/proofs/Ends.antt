-- Where all records were read, so was the run of them, up to the end of the bytes. Assumes nothing.
use Prim.Native.Nat.{ℕ}
use mathlib.Core.Path.{◌≡◌, sym, ◌∙◌}
use mathlib.Core.Bool.{Bool, true, false}
use mathlib.Core.List.{List}
use borrow.Author.Tests.{eqb-true}
use lib.Dec.{ltb, eqb}
use lib.ListN.{length}
use Rattle.numbers.specs.Pick.{pick}
use Rattle.primitives.specs.Step.{ok, no}
use Rattle.primitives.proofs.Steps.{ok_not_no, and_then_ok, pick_ok}
use Rattle.records.specs.Judgement.{RecordSpans, run_at, records_at}

ends : (before at : Bool) {rs xs : List RecordSpans} {q m : ℕ} → pick before (no 13) (pick at (ok xs m) (no 8)) ≡ ok rs q
    → (at ≡ true) × (xs ≡ rs) × (m ≡ q)
ends true at e = ok_not_no (sym e)
ends false at {xs = xs} {m = m} e = pick_ok at xs m 8 e

pub records_run : (s : List ℕ) (count p : ℕ) {rs : List RecordSpans} {q : ℕ} → records_at s count p ≡ ok rs q
    → (run_at s count p ≡ ok rs q) × (q ≡ length s)
unfolding records_at
records_run s count p e =
    let (xs, m, i, j) = and_then_ok (run_at s count p) _ e in
    let (t, v, w) = ends (ltb m (length s)) (eqb m (length s)) j in
    (cc, sym w ∙ eqb-true m (length s) t)

-- An encoding is read at the front of any list, and reading gives one answer: so none is a proper beginning of another,
-- and two values do not share one. Assumes nothing.
use Prim.Native.Nat.{ℕ, ◌+◌}
use mathlib.Core.Path.{◌≡◌, refl, sym, subst}
use mathlib.Core.Bool.{Bool}
use mathlib.Core.List.{List, [], ◌++◌}
use native.Mathlib.Omega.{arith}
use lib.ListN.{length, length-append}
use Rattle.primitives.specs.Step.{Step, ok}
use Rattle.primitives.specs.Stands.{Stands}
use Rattle.primitives.proofs.Places.{in_front, first, second, whole, no_rest}
use Rattle.records.specs.Format.{Record, Run, RecordsBytes}
use Rattle.records.specs.Placed.{shown_record, shown_records}
use Rattle.records.specs.Statements.{RecordUnambiguous, RunUnambiguous, RunsEqual}
use Rattle.records.proofs.Sizes.{record_least}
use Rattle.records.proofs.Complete.{record_complete, run_complete}

-- ---- one answer, whatever stands after an encoding

module _ {A R : Type 0} (show : R → A) {x : Step ℕ R} {u v : R} {a b : A} where
  -- one reading ends at one place and shows one value
  same_answer : {p q : ℕ} → (x ≡ ok u p) × (show u ≡ a) → (x ≡ ok v q) × (show v ≡ b) → (p ≡ q) × (a ≡ b)
  same_answer (e, f) (e', f') = (cc, cc)

  one_meaning : (bs rest : List ℕ) → (x ≡ ok u (length bs)) × (show u ≡ a) → (x ≡ ok v (length (bs ++ rest))) × (show v ≡ b)
      → (rest ≡ []) × (a ≡ b)
  one_meaning bs rest m n =
      let (ends, values) = same_answer m n in
      (no_rest bs rest ends, values)

pub record_unambiguous : RecordUnambiguous
record_unambiguous strict strict' bs rest a b g h =
    let s = bs ++ rest in
    one_meaning (shown_record s) bs rest
    (record_complete strict s 0 (length bs) bs a (in_front bs rest) g)
    (record_complete strict' s 0 (length s) s b (whole s) h)

pub run_unambiguous : RunUnambiguous
run_unambiguous strict strict' bs rest m n g h e =
    let s = bs ++ rest in
    one_meaning (shown_records s) bs rest
    (rw e at (run_complete strict s 0 (length bs) bs m (in_front bs rest) g))
    (run_complete strict' s 0 (length s) s n (whole s) h)

-- ---- runs of any number of records: a record has bytes, so a run ends where its bytes end

no_records : {strict : Bool} {bs : List ℕ} {rs : List Record} → RecordsBytes strict bs rs → length bs ≡ 0 → [] ≡ rs
no_records Run.ended e = refl
no_records (Run.more {x} {y} g rest) e = absurd (omega (arith, length-append x y, record_least _ x _ g))

-- from one place to another
equal_from : {strict strict' : Bool} {s : List ℕ} {p q : ℕ} {bs bs' : List ℕ} {m n : List Record} → Stands s p q bs → Stands s p q bs'
    → RecordsBytes strict bs m → RecordsBytes strict' bs' n → m ≡ n
equal_from {p = p} u v Run.ended h = no_records h (omega (arith, u.end, v.end))
equal_from {p = p} u v (Run.more g rest) Run.ended = sym (no_records (Run.more g rest) (omega (arith, u.end, v.end)))
equal_from {strict = strict} {strict' = strict'} {s = s} {p = p} {q = q} u v (Run.more {x} {y} {a} g rest) (Run.more {x = x'} {y = y'} {a = a'} g' rest') =
    let one = record_complete strict s p (p + length x) x a (first x y u) g in
    let other = record_complete strict' s p (p + length x') x' a' (first x' y' v) g' in
    let (ends, values) = same_answer (shown_record s) one other in
    rw (values, equal_from {p = p + length x} (second x y u) (subst (λ (i : ℕ). Stands s i q y') (sym ends) (second x' y' v)) rest rest')

pub runs_equal : RunsEqual
runs_equal strict strict' bs m n g h = equal_from (whole bs) (whole bs) g h

-- Rows are refused by no number but 21 and 22: each test of a row names one of them. Assumes nothing.
use Prim.Native.Nat.{ℕ, zero, suc, ◌+◌, ◌/◌, ◌≤◌}
use mathlib.Core.Option.{none, some}
use mathlib.Core.List.{List}
use native.Mathlib.Omega.{arith}
use lib.Dec.{eqb, leb}
use lib.IntN.{ℤ, pos, negsuc}
use lib.ListN.{length}
use Rattle.primitives.specs.Step.{Step, ok, no, and_then, map_step, times}
use Rattle.primitives.specs.Reading.{bytes_of}
use Rattle.primitives.proofs.Refusing.{RefusedBy, refused_by_lem, and_then_refused, map_refused, pick_refused, times_refused}
use Rattle.utf8.specs.Judgement.{is_utf8}
use Rattle.records.specs.Judgement.{HeaderSpans, RecordSpans, Head, with_headers}
use Rattle.records.specs.Rows.{cell, Tables}
use Rattle.asking.specs.Asked.{asked_bytes, asked_nullable, asked_count, header_asked, deltas_fit, head_asked, RowPlace, next_row, record_asked, records_asked, row_place}
use Rattle.asking.specs.Statements.{RowsRefused}

abbrev pub RowFault : ℕ → Type 0
RowFault n = (21 ≤ n) × (n ≤ 22)

asked_bytes_refused : (size : ℕ) (a n : ℤ) (p : ℕ) → RefusedBy RowFault (asked_bytes size a n p)
asked_bytes_refused size (pos a) (pos n) p = pick_refused RowFault (leb (a + n) size) (ok _ p) (no 21) tt (omega arith, omega arith)
asked_bytes_refused size (pos a) (negsuc k) p = (omega arith, omega arith)
asked_bytes_refused size (negsuc k) n p = (omega arith, omega arith)

asked_nullable_refused : (size : ℕ) (a n : ℤ) (p : ℕ) → RefusedBy RowFault (asked_nullable size a n p)
asked_nullable_refused size (pos a) (pos n) p =
    map_refused RowFault some (asked_bytes size (pos a) (pos n) p) (asked_bytes_refused size (pos a) (pos n) p)
asked_nullable_refused size (pos a) (negsuc zero) p = pick_refused RowFault (eqb a 0) (ok none p) (no 21) tt (omega arith, omega arith)
asked_nullable_refused size (pos a) (negsuc (suc k)) p = (omega arith, omega arith)
asked_nullable_refused size (negsuc k) n p = (omega arith, omega arith)

asked_count_refused : (rows first : ℕ) (a n : ℤ) (p : ℕ) → RefusedBy RowFault (asked_count rows first a n p)
asked_count_refused rows first (pos a) (pos n) p =
    pick_refused RowFault (eqb a first) _ (no 21)
    (pick_refused RowFault (leb (first + n) rows) (ok n p) (no 21) tt (omega arith, omega arith)) (omega arith, omega arith)
asked_count_refused rows first (pos a) (negsuc k) p = (omega arith, omega arith)
asked_count_refused rows first (negsuc k) n p = (omega arith, omega arith)

header_refused : (t : List ℤ) (s : List ℕ) (row : ℕ) → RefusedBy RowFault (header_asked t s row)
unfolding header_asked
header_refused t s row =
    let number : ℕ → ℤ = cell 4 t row in
    let asked : (a n : ℤ) → RefusedBy RowFault (asked_bytes (length s) a n row) = λ a n. asked_bytes_refused (length s) a n row in
    and_then_refused RowFault (asked_bytes (length s) (number 0) (number 1) row) _ (asked (number 0) (number 1)) (λ k _.
    and_then_refused RowFault (asked_bytes (length s) (number 2) (number 3) row) _ (asked (number 2) (number 3)) (λ v _.
    pick_refused RowFault (is_utf8 (bytes_of s k)) (ok _ (row + 1)) (no 22) tt (omega arith, omega arith)))

next_refused : {A : Type 0} (row : ℕ) (x : Step ℕ A) → RefusedBy RowFault x → RefusedBy RowFault (next_row row x)
next_refused row (ok a p) w = tt
next_refused row (no n) w = w

module _ (t : Tables) (s : List ℕ) where
  head_refused : (row first : ℕ) → RefusedBy RowFault (head_asked t s row first)
  unfolding head_asked
  head_refused row first =
      let number : ℕ → ℤ = cell 8 t.records row in
      let rows : ℕ = length t.headers / 4 in
      let asked : (a n : ℤ) → RefusedBy RowFault (asked_nullable (length s) a n row) = λ a n. asked_nullable_refused (length s) a n row in
      pick_refused RowFault (deltas_fit (number 0) (number 1)) _ (no 21)
      (and_then_refused RowFault (asked_nullable (length s) (number 2) (number 3) row) _ (asked (number 2) (number 3)) (λ k _.
      and_then_refused RowFault (asked_nullable (length s) (number 4) (number 5) row) _ (asked (number 4) (number 5)) (λ v _.
      map_refused RowFault _ (asked_count rows first (number 6) (number 7) row) (asked_count_refused rows first (number 6) (number 7) row))))
      (omega arith, omega arith)

  record_refused : (p : RowPlace) → RefusedBy RowFault (record_asked t s p)
  unfolding record_asked
  record_refused p =
      let head = head_asked t s p.row p.first in
      let headers : Head → Step ℕ (List HeaderSpans) = λ h. times (header_asked t.headers s) h.count p.first in
      let fields : Head → ℕ → Step ℕ RecordSpans = λ h _. map_step (with_headers h) (headers h) in
      next_refused p.row (and_then head fields)
      (and_then_refused RowFault head fields (head_refused p.row p.first) (λ h _.
      map_refused RowFault (with_headers h) (headers h)
      (times_refused RowFault (header_asked t.headers s) (header_refused t.headers s) h.count p.first)))

  pub records_refused : (first count : ℕ) → RefusedBy RowFault (records_asked t s first count)
  unfolding records_asked
  records_refused first count =
      pick_refused RowFault (leb count (length t.records / 8)) _ (no 21)
      (times_refused RowFault (record_asked t s) record_refused count (row_place 0 first)) (omega arith, omega arith)

pub rows_refused : RowsRefused
rows_refused t s first count n e = refused_by_lem RowFault (records_refused t s first count) e

-- The rows of records: a record's are of eight numbers and a header's of four, one for each. So tables that have room
-- for them reach as far. Assumes nothing.
use Prim.Native.Nat.{ℕ, suc, ◌+◌, ◌*◌, ◌/◌, ◌≤◌}
use mathlib.Core.Path.{◌≡◌, refl, ap}
use mathlib.Core.Bool.{true}
use mathlib.Core.Option.{Option, none, some}
use mathlib.Core.List.{List, [], ◌∷◌, ◌++◌, map}
use native.Mathlib.Omega.{arith}
use borrow.Author.Tests.{leb-true}
use lib.Dec.{leb}
use lib.IntN.{ℤ}
use lib.ListN.{length, length-append, length-map}
use Rattle.numbers.proofs.Picks.{both_hold}
use Rattle.primitives.specs.Reading.{Span}
use Rattle.records.specs.Judgement.{HeaderSpans, RecordSpans}
use Rattle.records.specs.Rows.{span_row, header_row, record_row, headers_in, record_rows, header_rows, Tables, roomy}

-- ---- rows of any width

-- each is of w numbers
abbrev pub Wide : ℕ → List (List ℤ) → Type 0
Wide w [] = Unit {0}
Wide w (numbers ∷ rest) = (length numbers ≡ w) × Wide w rest

wide_append : (w : ℕ) (rows more : List (List ℤ)) → Wide w rows → Wide w more → Wide w (rows ++ more)
wide_append w [] more a b = b
wide_append w (numbers ∷ rest) more (e, a) b = (e, wide_append w rest more a b)

-- ---- the rows of records

length_span_row : (x : Option Span) → length (span_row x) ≡ 2
length_span_row none = refl
length_span_row (some x) = refl

length_record_row : (first : ℕ) (r : RecordSpans) → length (record_row first r) ≡ 8
length_record_row first r = simp (length-append, length_span_row)

pub records_wide : (first : ℕ) (rs : List RecordSpans) → Wide 8 (record_rows first rs)
unfolding record_rows
records_wide first [] = tt
records_wide first (r ∷ rest) = (length_record_row first r, records_wide (first + length r.headers) rest)

pub length_record_rows : (first : ℕ) (rs : List RecordSpans) → length (record_rows first rs) ≡ length rs
unfolding record_rows
length_record_rows first [] = refl
length_record_rows first (r ∷ rest) = ap suc (length_record_rows (first + length r.headers) rest)

-- ---- the rows of headers

run_wide : (hs : List HeaderSpans) → Wide 4 (map header_row hs)
run_wide [] = tt
run_wide (h ∷ rest) = (refl, run_wide rest)

pub headers_wide : (rs : List RecordSpans) → Wide 4 (header_rows rs)
unfolding header_rows
headers_wide [] = tt
headers_wide (r ∷ rest) =
    wide_append 4 (map header_row r.headers) (header_rows rest) (run_wide r.headers) (headers_wide rest)

pub length_header_rows : (rs : List RecordSpans) → length (header_rows rs) ≡ headers_in rs
unfolding header_rows headers_in
length_header_rows [] = refl
length_header_rows (r ∷ rest) = rw (length-append, length-map, length_header_rows rest)

-- ---- both tables

module _ (first : ℕ) (rs : List RecordSpans) (t : Tables) (e : roomy first rs t ≡ true) where
  pub enough : (length rs ≤ length t.records / 8) × (first + headers_in rs ≤ length t.headers / 4)
  unfolding roomy
  enough =
      let (a, b) = both_hold (leb (length rs) (length t.records / 8)) (leb (first + headers_in rs) (length t.headers / 4)) e in
      (leb-true (length rs) (length t.records / 8) a, leb-true (first + headers_in rs) (length t.headers / 4) b)

  pub records_end : (0 + length (record_rows first rs)) * 8 ≤ length t.records
  records_end = let (rows, _) = enough in rw length_record_rows (omega arith)

  pub headers_end : (first + length (header_rows rs)) * 4 ≤ length t.headers
  headers_end = let (_, rows) = enough in rw length_header_rows (omega arith)

-- First header rows run on, and so do the rows of headers: by induction on the records before. Assumes nothing.
use Prim.Native.Nat.{◌+◌}
use mathlib.Core.Path.{◌≡◌, refl, ap, ◌∙◌}
use mathlib.Core.List.{List, [], ◌∷◌, ◌++◌, map, append_assoc, map-append}
use native.Mathlib.Nat.{add-zero, add_assoc}
use lib.IntN.{ℤ}
use lib.ListN.{length}
use Rattle.records.specs.Judgement.{HeaderSpans, RecordSpans}
use Rattle.records.specs.Rows.{header_row, record_row, record_rows, header_rows, headers_in}
use Rattle.records.specs.Statements.{FirstRowsRunOn}

pub first_rows_run_on : FirstRowsRunOn
unfolding record_rows headers_in
first_rows_run_on first [] r after = rw (add-zero first)
first_rows_run_on first (b ∷ before) r after =
    rw (← add_assoc first (length b.headers) (headers_in before))
    (ap (λ (rows : List (List ℤ)). record_row first b ∷ rows) (first_rows_run_on (first + length b.headers) before r after))

header_rows_append : (before rs : List RecordSpans) → header_rows (before ++ rs) ≡ header_rows before ++ header_rows rs
unfolding header_rows
header_rows_append [] rs = refl
header_rows_append (b ∷ before) rs = rw (header_rows_append before rs, append_assoc)

-- around a header
pub header_rows_split : (before : List RecordSpans) (r : RecordSpans) (after : List RecordSpans) (front : List HeaderSpans) (h : HeaderSpans) (back : List HeaderSpans)
    → r.headers ≡ front ++ (h ∷ back)
    → header_rows (before ++ (r ∷ after))
    ≡ (header_rows before ++ map header_row front) ++ (header_row h ∷ (map header_row back ++ header_rows after))
unfolding header_rows
header_rows_split before r after front h back e =
    header_rows_append before (r ∷ after) ∙ rw (e, map-append header_row front (h ∷ back)) (simp append_assoc)

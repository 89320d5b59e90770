-- What a table holds once rows were put in: row for row and number for number, what was put in, and after the last row
-- what it held. Each row stands just after those before it, all as wide. Assumes nothing.
use Prim.Native.Nat.{ℕ, ◌+◌, ◌-◌, ◌*◌, ◌/◌, ◌≤◌, ◌<◌}
use mathlib.Core.Path.{◌≡◌, sym, ap, ◌∙◌, subst}
use mathlib.Core.Bool.{true}
use mathlib.Core.List.{List, [], ◌∷◌, ◌++◌, map, append_assoc}
use native.Mathlib.Omega.{arith}
use native.Mathlib.Nat.{add-zero, zero-add, add-mul, one-mul, zero-mul, suc-mul}
use lib.IntN.{ℤ, pos}
use lib.ListN.{length, take, drop, get_or, length-append, length-map, length-drop, get_or-append}
use lib.Seq.{length-take-le, get_or-append-add, get_or-drop}
use Rattle.numbers.specs.Concat.{concat}
use Rattle.records.specs.Judgement.{HeaderSpans, RecordSpans}
use Rattle.records.specs.Rows.{header_row, record_row, headers_in, record_rows, header_rows, filled, Tables, roomy, with_rows}
use Rattle.records.proofs.RunOn.{first_rows_run_on, header_rows_split}
use Rattle.records.proofs.Wide.{Wide, records_wide, length_record_rows, headers_wide, length_header_rows, enough, records_end, headers_end}

-- a row of w numbers holds these
abbrev pub RowHeld : ℕ → List ℤ → ℕ → List ℤ → Type 0
RowHeld w t row numbers = (k : ℕ) → k < w → get_or t (row * w + k) (pos 0) ≡ get_or numbers k (pos 0)

-- rows hold these, from a given row on
unfoldable pub RowsHeld : ℕ → List ℤ → ℕ → List (List ℤ) → Type 0
RowsHeld w t row [] = Unit {0}
RowsHeld w t row (numbers ∷ rest) = RowHeld w t row numbers × RowsHeld w t (row + 1) rest

-- one of them, after so many others
held_at : (w : ℕ) (t : List ℤ) (row : ℕ) (before : List (List ℤ)) (numbers : List ℤ) (after : List (List ℤ))
    → RowsHeld w t row (before ++ (numbers ∷ after)) → RowHeld w t (row + length before) numbers
unfolding RowsHeld
held_at w t row [] numbers after (here, held) = rw add-zero here
held_at w t row (other ∷ before) numbers after (here, held) =
    let next : row + length (other ∷ before) ≡ row + 1 + length before = omega arith in
    rw next (held_at w t (row + 1) before numbers after held)

-- ---- rows between what stands before and after them

module _ (w : ℕ) (back : List ℤ) where
  row_held : (front : List ℤ) (row : ℕ) (numbers after : List ℤ) → length front ≡ row * w → length numbers ≡ w
      → RowHeld w (front ++ (numbers ++ after)) row numbers
  row_held front row numbers after e l k h =
      rw (← e) (get_or-append-add front (numbers ++ after) k (pos 0) ∙ get_or-append numbers after (pos 0) k (omega arith))

  rows_held : (front : List ℤ) (row : ℕ) (rows : List (List ℤ)) → length front ≡ row * w → Wide w rows
      → RowsHeld w (front ++ (concat rows ++ back)) row rows
  unfolding concat RowsHeld
  rows_held front row [] e wide = tt
  rows_held front row (numbers ∷ rest) e (l, wide) =
      let next : length (front ++ numbers) ≡ (row + 1) * w = rw (length-append, add-mul, one-mul, e, l) in
      let same : (front ++ numbers) ++ (concat rest ++ back) ≡ front ++ ((numbers ++ concat rest) ++ back) = simp append_assoc in (
        rw append_assoc (row_held front row numbers (concat rest ++ back) e l),
        rw same at (rows_held (front ++ numbers) (row + 1) rest next wide),
      )

concat_length : (w : ℕ) (rows : List (List ℤ)) → Wide w rows → length (concat rows) ≡ length rows * w
unfolding concat
concat_length w [] wide = sym (zero-mul w)
concat_length w (numbers ∷ rest) (l, wide) = rw (length-append, l, concat_length w rest wide) (omega (arith, suc-mul (length rest) w))

-- ---- rows that were put in

module _ (w : ℕ) (t : List ℤ) (row : ℕ) (rows : List (List ℤ)) (wide : Wide w rows) (h : (row + length rows) * w ≤ length t) where
  filled_held : RowsHeld w (filled w row rows t) row rows
  unfolding filled
  filled_held =
      let before : row * w ≤ length t = omega (arith, add-mul row (length rows) w) in
      rows_held w (drop ((row + length rows) * w) t) (take (row * w) t) row rows (length-take-le (row * w) t before) wide

  filled_end : length (take (row * w) t ++ concat rows) ≡ (row + length rows) * w
  filled_end =
      let before : row * w ≤ length t = omega (arith, add-mul row (length rows) w) in
      rw (length-append, length-take-le (row * w) t before, concat_length w rows wide, add-mul)

  pub filled_length : length (filled w row rows t) ≡ length t
  unfolding filled
  filled_length = rw (← append_assoc, length-append, filled_end, length-drop) (omega arith)

  pub filled_after : (i : ℕ) → (row + length rows) * w ≤ i → get_or (filled w row rows t) i (pos 0) ≡ get_or t i (pos 0)
  unfolding filled
  filled_after i k =
      let there : i ≡ (row + length rows) * w + (i - (row + length rows) * w) = omega arith in
      rw (← append_assoc, there, ← filled_end, get_or-append-add, get_or-drop)

-- ---- the rows of records

module _ (first : ℕ) (rs : List RecordSpans) (t : Tables) (room : roomy first rs t ≡ true) where
  pub record_rows_held : RowsHeld 8 (with_rows first rs t).records 0 (record_rows first rs)
  unfolding with_rows
  record_rows_held = filled_held 8 t.records 0 (record_rows first rs) (records_wide first rs) (records_end first rs t room)

  pub header_rows_held : RowsHeld 4 (with_rows first rs t).headers first (header_rows rs)
  unfolding with_rows
  header_rows_held = filled_held 4 t.headers first (header_rows rs) (headers_wide rs) (headers_end first rs t room)

  -- the tables have as many rows as before, so enough
  pub record_rows_there : length rs ≤ length (with_rows first rs t).records / 8
  unfolding with_rows
  record_rows_there =
      rw (filled_length 8 t.records 0 (record_rows first rs) (records_wide first rs) (records_end first rs t room)) (enough first rs t room).0

  pub header_rows_there : first + headers_in rs ≤ length (with_rows first rs t).headers / 4
  unfolding with_rows
  header_rows_there =
      rw (filled_length 4 t.headers first (header_rows rs) (headers_wide rs) (headers_end first rs t room)) (enough first rs t room).1

  -- the row of a record, and of a header, after those before it
  module _ (before : List RecordSpans) (r : RecordSpans) (after : List RecordSpans) (split : rs ≡ before ++ (r ∷ after)) where
    pub record_row_held : RowHeld 8 (with_rows first rs t).records (length before) (record_row (first + headers_in before) r)
    record_row_held =
        let t' = (with_rows first rs t).records in
        let rows = subst (RowsHeld 8 t' 0) (ap (record_rows first) split ∙ first_rows_run_on first before r after) record_rows_held in
        rw (length_record_rows, zero-add) at (held_at 8 t' 0 (record_rows first before) _ _ rows)

    pub header_row_held : (front : List HeaderSpans) (h : HeaderSpans) (back : List HeaderSpans) → r.headers ≡ front ++ (h ∷ back)
        → RowHeld 4 (with_rows first rs t).headers (first + (headers_in before + length front)) (header_row h)
    header_row_held front h back e =
        let t' = (with_rows first rs t).headers in
        let rows = subst (RowsHeld 4 t' first) (ap header_rows split ∙ header_rows_split before r after front h back e) header_rows_held in
        rw (length-append, length_header_rows, length-map) at (held_at 4 t' first (header_rows before ++ map header_row front) _ _ rows)

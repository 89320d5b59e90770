-- Both tables hold what was read, number by number: a row holds the numbers that were put in, and every index after the
-- last row what it held. Assumes nothing.
use Prim.Native.Nat.{ℕ, ◌+◌, ◌*◌, ◌≤◌}
use mathlib.Core.Path.{◌≡◌, refl, sym, ◌∙◌, subst}
use mathlib.Core.Bool.{true}
use mathlib.Core.Option.{Option, none, some}
use mathlib.Core.List.{List}
use native.Mathlib.Omega.{arith}
use native.Mathlib.Nat.{zero-add}
use lib.IntN.{ℤ}
use lib.ListN.{length}
use Rattle.primitives.specs.Reading.{Span}
use Rattle.records.specs.Judgement.{HeaderSpans, RecordSpans}
use Rattle.records.specs.Rows.{header_row, record_row, headers_in, record_rows, header_rows, filled, Tables, roomy, with_rows}
use Rattle.records.proofs.Held.{RowHeld, filled_length, filled_after, record_row_held, header_row_held}
use Rattle.records.proofs.Wide.{Wide, records_wide, length_record_rows, headers_wide, length_header_rows, records_end, headers_end}
use Rattle.asking.proofs.Own.{start_of, length_of, eight_of, record_row_lem}
use Rattle.layout.specs.Batch.{Content, control, records}
use Rattle.batches.specs.Answers.{rooms_of, has_room, stored}
use Rattle.batches.specs.Filled.{SpanIn, RecordIn, HeaderIn, Kept, RowsIn, Filled}
use Rattle.batches.proofs.Storing.{room_is}

-- ---- a row

span_in : (x : Option Span) {a n : ℤ} → a ≡ start_of x → n ≡ length_of x → SpanIn a n x
span_in none e f = (e, f)
span_in (some x) e f = (e, f)

record_held : (t : List ℤ) (i first : ℕ) (r : RecordSpans) → RowHeld 8 t i (record_row first r) → RecordIn t i first r
record_held t i first r held =
    let number : RowHeld 8 t i (eight_of first r) = subst (RowHeld 8 t i) (record_row_lem first r) held in
    record {
      timestamp_delta = number 0 (omega arith);
      offset_delta = number 1 (omega arith);
      key = span_in r.key (number 2 (omega arith)) (number 3 (omega arith));
      value = span_in r.value (number 4 (omega arith)) (number 5 (omega arith));
      first_header = number 6 (omega arith);
      header_count = number 7 (omega arith);
    }

header_held : (t : List ℤ) (j : ℕ) (h : HeaderSpans) → RowHeld 4 t j (header_row h) → HeaderIn t j h
header_held t j h number =
    record {
      key = (number 0 (omega arith), number 1 (omega arith));
      value = (number 2 (omega arith), number 3 (omega arith));
    }

-- ---- a table

kept : (w used : ℕ) (t : List ℤ) (rows : List (List ℤ)) → Wide w rows → (0 + length rows) * w ≤ length t → (0 + length rows) * w ≡ used
    → Kept used t (filled w 0 rows t)
kept w used t rows wide h e =
    record { as_long = filled_length w t 0 rows wide h; others = λ i k. filled_after w t 0 rows wide h i (rw e k) }

rows_in : (rs : List RecordSpans) (t : Tables) → roomy 0 rs t ≡ true → RowsIn rs t (with_rows 0 rs t)
unfolding with_rows
rows_in rs t room =
    let t' = with_rows 0 rs t in
    record {
      record_in = λ before r after split.
          rw zero-add at (record_held t'.records (length before) (0 + headers_in before) r (record_row_held 0 rs t room before r after split));
      header_in = λ before r after split front h back e.
          rw zero-add at (header_held t'.headers (0 + (headers_in before + length front)) h (header_row_held 0 rs t room before r after split front h back e));
      records_kept =
          kept 8 (8 * length rs) t.records (record_rows 0 rs) (records_wide 0 rs) (records_end 0 rs t room) (rw length_record_rows (omega arith));
      headers_kept =
          kept 4 (4 * headers_in rs) t.headers (header_rows rs) (headers_wide rs) (headers_end 0 rs t room) (rw length_header_rows (omega arith));
    }

-- ---- both tables

pub stored_filled : (c : Content RecordSpans) (t : Tables) → has_room c 0 (rooms_of t) ≡ true → Filled c t (stored c 0 t)
stored_filled (control m) t room = refl
stored_filled (records rs) t room = rows_in rs t (sym (room_is 0 rs t) ∙ room)

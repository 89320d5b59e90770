-- Rows that the reader stored ask for what was read: each number of a row is the one that was put in, each span lies in
-- the source, and first header rows run on. Assumes nothing.
use Prim.Native.Nat.{ℕ, ◌+◌, ◌/◌, ◌≤◌}
use mathlib.Core.Path.{◌≡◌, refl, ap, ◌∙◌, subst}
use mathlib.Core.Bool.{true}
use mathlib.Core.Option.{Option, none, some}
use mathlib.Core.List.{List, [], ◌∷◌, ◌++◌, map}
use native.Mathlib.Omega.{arith}
use native.Mathlib.Nat.{add-zero, zero-add, add_assoc}
use borrow.Author.Tests.{le-leb, eq-eqb}
use lib.IntN.{ℤ, pos, negsuc}
use lib.ListN.{length}
use Rattle.numbers.proofs.InBits.{test_in}
use Rattle.primitives.specs.Step.{ok, times}
use Rattle.primitives.specs.Reading.{Span, bytes_of}
use Rattle.primitives.proofs.Steps.{times_onto}
use Rattle.utf8.proofs.Sequences.{utf8_complete}
use Rattle.records.specs.Inside.{NullableInside}
use Rattle.records.specs.Judgement.{HeaderSpans, RecordSpans, Head}
use Rattle.records.specs.Rows.{span_row, header_row, record_row, headers_in, record_rows, header_rows, Tables, roomy, with_rows}
use Rattle.records.specs.Statements.{Each}
use Rattle.records.proofs.Held.{RowHeld, RowsHeld, record_rows_held, header_rows_held, record_rows_there, header_rows_there}
use Rattle.records.proofs.Inside.{HeaderInside, RecordInside}
use Rattle.asking.specs.Asked.{asked_bytes, asked_nullable, header_asked, asked_count, head_asked, row_place, record_asked, records_asked}

-- ---- two numbers of a row

bytes_asked : (size : ℕ) (x : Span) (p : ℕ) → x.start + x.len ≤ size → asked_bytes size (pos x.start) (pos x.len) p ≡ ok x p
bytes_asked size x p h = rw (le-leb (x.start + x.len) size h)

-- as they stand in a row
abbrev pub start_of : Option Span → ℤ
start_of none = pos 0
start_of (some x) = pos x.start

abbrev pub length_of : Option Span → ℤ
length_of none = negsuc 0
length_of (some x) = pos x.len

span_row_lem : (x : Option Span) → span_row x ≡ start_of x ∷ length_of x ∷ []
span_row_lem none = refl
span_row_lem (some x) = refl

nullable_asked : (s : List ℕ) (x : Option Span) (p : ℕ) → NullableInside s x → asked_nullable (length s) (start_of x) (length_of x) p ≡ ok x p
nullable_asked s none p h = refl
nullable_asked s (some x) p h = rw (bytes_asked (length s) x p h)

-- ---- headers

module _ (t : List ℤ) (s : List ℕ) where
  header_asked_lem : (row : ℕ) (h : HeaderSpans) → HeaderInside s h → RowHeld 4 t row (header_row h) → header_asked t s row ≡ ok h (row + 1)
  unfolding header_asked
  header_asked_lem row h i held =
      rw (
        held 0 (omega arith),
        held 1 (omega arith),
        held 2 (omega arith),
        held 3 (omega arith),
        bytes_asked (length s) h.key row i.key,
        bytes_asked (length s) h.value row i.value,
        utf8_complete (bytes_of s h.key) i.utf8,
      )

  -- the headers of a record, and then the rows of others
  headers_asked_lem : (row : ℕ) (hs : List HeaderSpans) (more : List (List ℤ)) → Each (HeaderInside s) hs → RowsHeld 4 t row (map header_row hs ++ more)
      → (times (header_asked t s) (length hs) row ≡ ok hs (row + length hs)) × RowsHeld 4 t (row + length hs) more
  unfolding times Each RowsHeld
  headers_asked_lem row [] more each held = (rw add-zero, rw add-zero held)
  headers_asked_lem row (h ∷ rest) more (i, each) (here, held) =
      let (asked, left) = headers_asked_lem (row + 1) rest more each held in
      let next : row + 1 + length rest ≡ row + length (h ∷ rest) = omega arith in
      (rw next at (times_onto (header_asked t s) (length rest) row (header_asked_lem row h i here) asked), rw next at left)

-- ---- records

count_asked : (rows first n p : ℕ) → first + n ≤ rows → asked_count rows first (pos first) (pos n) p ≡ ok n p
count_asked rows first n p h = rw (eq-eqb first first refl, le-leb (first + n) rows h)

abbrev pub eight_of : ℕ → RecordSpans → List ℤ
eight_of first r =
    r.timestamp_delta ∷ r.offset_delta ∷ start_of r.key ∷ length_of r.key ∷ start_of r.value ∷ length_of r.value
    ∷ pos first ∷ pos (length r.headers) ∷ []

pub record_row_lem : (first : ℕ) (r : RecordSpans) → record_row first r ≡ eight_of first r
record_row_lem first r = rw (span_row_lem r.key, span_row_lem r.value)

-- what the row itself says of a record
abbrev head_of : RecordSpans → Head
head_of r =
    record {
      deltas = record { timestamp = r.timestamp_delta; offset = r.offset_delta };
      key = r.key;
      value = r.value;
      count = length r.headers;
    }

module _ (t : Tables) (s : List ℕ) where
  head_asked_lem : (row first : ℕ) (r : RecordSpans) → RecordInside s r → RowHeld 8 t.records row (record_row first r)
      → first + length r.headers ≤ length t.headers / 4 → head_asked t s row first ≡ ok (head_of r) row
  unfolding head_asked
  head_asked_lem row first r i held room =
      let number : RowHeld 8 t.records row (eight_of first r) = subst (RowHeld 8 t.records row) (record_row_lem first r) held in
      rw (
        number 0 (omega arith),
        number 1 (omega arith),
        number 2 (omega arith),
        number 3 (omega arith),
        number 4 (omega arith),
        number 5 (omega arith),
        number 6 (omega arith),
        number 7 (omega arith),
        test_in 64 r.timestamp_delta i.timestamp,
        test_in 32 r.offset_delta i.offset,
        nullable_asked s r.key row i.key,
        nullable_asked s r.value row i.value,
        count_asked (length t.headers / 4) first (length r.headers) row room,
      )

  record_asked_lem : (row first : ℕ) (r : RecordSpans) → RecordInside s r → RowHeld 8 t.records row (record_row first r)
      → first + length r.headers ≤ length t.headers / 4
      → times (header_asked t.headers s) (length r.headers) first ≡ ok r.headers (first + length r.headers)
      → record_asked t s (row_place row first) ≡ ok r (row_place (row + 1) (first + length r.headers))
  unfolding record_asked
  record_asked_lem row first r i held room headers = rw (head_asked_lem row first r i held room, headers)

  run_asked : (row first : ℕ) (rs : List RecordSpans) → Each (RecordInside s) rs → RowsHeld 8 t.records row (record_rows first rs)
      → RowsHeld 4 t.headers first (header_rows rs) → first + headers_in rs ≤ length t.headers / 4
      → times (record_asked t s) (length rs) (row_place row first) ≡ ok rs (row_place (row + length rs) (first + headers_in rs))
  unfolding times Each RowsHeld record_rows header_rows headers_in
  run_asked row first [] each held headers room = rw (add-zero row, add-zero first)
  run_asked row first (r ∷ rest) (i, each) (here, held) headers room =
      let (asked, left) = headers_asked_lem t.headers s first r.headers (header_rows rest) i.headers headers in
      let one = record_asked_lem row first r i here (omega arith) asked in
      let others = run_asked (row + 1) (first + length r.headers) rest each held left (omega arith) in
      let next : row + 1 + length rest ≡ row + length (r ∷ rest) = omega arith in
      times_onto (record_asked t s) (length rest) (row_place row first) one others ∙ rw (next, add_assoc)

-- ---- the rows of what was read, in tables that have the room

pub own_rows : (first : ℕ) (rs : List RecordSpans) (t : Tables) (s : List ℕ) → roomy first rs t ≡ true → Each (RecordInside s) rs
    → records_asked (with_rows first rs t) s first (length rs) ≡ ok rs (row_place (length rs) (first + headers_in rs))
unfolding records_asked
own_rows first rs t s room each =
    let stored = with_rows first rs t in
    let asked =
    run_asked stored s 0 first rs each (record_rows_held first rs t room) (header_rows_held first rs t room) (header_rows_there first rs t room) in
    rw (le-leb (length rs) (length stored.records / 8) (record_rows_there first rs t room)) (asked ∙ ap (λ (n : ℕ). ok rs (row_place n (first + headers_in rs))) (zero-add (length rs)))

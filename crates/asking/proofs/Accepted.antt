-- What is so of rows that are accepted: bytes that they ask for lie in the source, headers in their table, and they are
-- as many as were asked for. Assumes nothing.
use Prim.Native.Nat.{ℕ, ◌+◌, ◌/◌, ◌≤◌}
use mathlib.Core.List.{List}
use mathlib.Core.Path.{◌≡◌, sym, ap, subst}
use borrow.Author.Tests.{leb-true}
use lib.Dec.{eqb, leb}
use lib.IntN.{ℤ, pos, negsuc}
use lib.ListN.{length}
use Rattle.primitives.specs.Step.{Step, ok, no}
use Rattle.primitives.specs.Reading.{Span, bytes_of}
use Rattle.primitives.proofs.Picks.{picked}
use Rattle.primitives.proofs.Steps.{ok_not_no, and_then_ok, pick_ok, times_count}
use Rattle.utf8.specs.Judgement.{is_utf8}
use Rattle.records.specs.Judgement.{HeaderSpans, RecordSpans}
use Rattle.records.specs.Rows.{cell, Tables}
use Rattle.asking.specs.Asked.{asked_bytes, header_asked, asked_count, next_row, RowPlace, row_place, record_asked, records_asked}

pub bytes_inside : (size : ℕ) (a n : ℤ) (p : ℕ) {x : Span} {q : ℕ} → asked_bytes size a n p ≡ ok x q → x.start + x.len ≤ size
bytes_inside size (pos a) (pos n) p e =
    let (t, same, _) = pick_ok (leb (a + n) size) (record { start = a; len = n }) p 21 e in
    subst (λ (y : Span). y.start + y.len ≤ size) same (leb-true (a + n) size t)
bytes_inside size (pos a) (negsuc k) p e = ok_not_no (sym e)
bytes_inside size (negsuc k) n p e = ok_not_no (sym e)

-- both spans of a header
pub header_accepted : (t : List ℤ) (s : List ℕ) (row : ℕ) (h : HeaderSpans) (q : ℕ) → header_asked t s row ≡ ok h q
    → (h.key.start + h.key.len ≤ length s) × (h.value.start + h.value.len ≤ length s)
unfolding header_asked
header_accepted t s row h q e =
    let (k, _, is, e') = and_then_ok (asked_bytes (length s) (cell 4 t row 0) (cell 4 t row 1) row) _ e in
    let (v, _, is', e'') = and_then_ok (asked_bytes (length s) (cell 4 t row 2) (cell 4 t row 3) row) _ e' in
    let (_, same, _) = pick_ok (is_utf8 (bytes_of s k)) _ (row + 1) 22 e'' in
    subst (λ (h : HeaderSpans). (h.key.start + h.key.len ≤ length s) × (h.value.start + h.value.len ≤ length s)) same
    (bytes_inside (length s) (cell 4 t row 0) (cell 4 t row 1) row is, bytes_inside (length s) (cell 4 t row 2) (cell 4 t row 3) row is')

pub count_room : (rows first : ℕ) (a n : ℤ) (p : ℕ) {m q : ℕ} → asked_count rows first a n p ≡ ok m q → first + m ≤ rows
count_room rows first (pos a) (pos n) p e =
    let (_, e') = picked (eqb a first) _ 21 e in
    let (t, same, _) = pick_ok (leb (first + n) rows) n p 21 e' in
    subst (λ (m : ℕ). first + m ≤ rows) same (leb-true (first + n) rows t)
count_room rows first (pos a) (negsuc k) p e = ok_not_no (sym e)
count_room rows first (negsuc k) n p e = ok_not_no (sym e)

-- a step to the next row was one over header rows
pub next_is : {A : Type 0} (row : ℕ) (x : Step ℕ A) {a : A} {q : RowPlace} → next_row row x ≡ ok a q → (first : ℕ) × (x ≡ ok a first)
next_is {A} row (ok b first) {a} e = let w : b ≡ a = cc in (first, ap (λ (b : A). ok b first) w)
next_is row (no n) e = ok_not_no (sym e)

-- as many records as rows
pub asked_many : (t : Tables) (s : List ℕ) (first n : ℕ) {rs : List RecordSpans} {p : RowPlace} → records_asked t s first n ≡ ok rs p → length rs ≡ n
unfolding records_asked
asked_many t s first n e = times_count (record_asked t s) n (row_place 0 first) (picked (leb n (length t.records / 8)) _ 21 e).1

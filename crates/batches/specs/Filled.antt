-- What both tables hold after reading, number by number: document 01, Tables.
use Rattle.std.specs.Prelude.{ℕ, ◌+◌, ◌*◌, ◌≤◌, ◌≡◌, List, ◌∷◌, ◌++◌, ℤ, pos, negsuc, length, get_or}
use Rattle.std.proofs.Math.Option.{Option, none, some}
use Rattle.primitives.specs.Reading.{Span}
use Rattle.records.specs.Judgement.{HeaderSpans, RecordSpans}
use Rattle.records.specs.Rows.{cell, headers_in, Tables}
use Rattle.layout.specs.Batch.{Content, control, records}

-- ---- a row

-- start and length; null is start 0, length -1
abbrev pub SpanIn : (start len : ℤ) → Option Span → Type 0
SpanIn a n none = (a ≡ pos 0) × (n ≡ negsuc 0)
SpanIn a n (some x) = (a ≡ pos x.start) × (n ≡ pos x.len)

-- the numbers at 8i to 8i + 7 are those of a record, whose headers stand from a given header row on
pub record RecordIn (t : List ℤ) (i first : ℕ) (r : RecordSpans) : Type 0 where
  pub timestamp_delta : cell 8 t i 0 ≡ r.timestamp_delta
  pub offset_delta : cell 8 t i 1 ≡ r.offset_delta
  pub key : SpanIn (cell 8 t i 2) (cell 8 t i 3) r.key
  pub value : SpanIn (cell 8 t i 4) (cell 8 t i 5) r.value
  pub first_header : cell 8 t i 6 ≡ pos first
  pub header_count : cell 8 t i 7 ≡ pos (length r.headers)

-- the numbers at 4j to 4j + 3 are those of a header
pub record HeaderIn (t : List ℤ) (j : ℕ) (h : HeaderSpans) : Type 0 where
  pub key : SpanIn (cell 4 t j 0) (cell 4 t j 1) (some h.key)
  pub value : SpanIn (cell 4 t j 2) (cell 4 t j 3) (some h.value)

-- ---- a table

-- so many numbers may have changed: a table is as long as it was, and every other index holds what it held
pub record Kept (used : ℕ) (t t' : List ℤ) : Type 0 where
  pub as_long : length t' ≡ length t
  pub others : (i : ℕ) → used ≤ i → get_or t' i (pos 0) ≡ get_or t i (pos 0)

-- The tables t at entry and t' at exit, of as many records: each record is in the row of its number, each header in the
-- row of its number among the headers of all records.
pub record RowsIn (rs : List RecordSpans) (t t' : Tables) : Type 0 where
  pub record_in : (before : List RecordSpans) (r : RecordSpans) (after : List RecordSpans) → rs ≡ before ++ (r ∷ after)
      → RecordIn t'.records (length before) (headers_in before) r
  pub header_in : (before : List RecordSpans) (r : RecordSpans) (after : List RecordSpans) → rs ≡ before ++ (r ∷ after)
      → (front : List HeaderSpans) (h : HeaderSpans) (back : List HeaderSpans) → r.headers ≡ front ++ (h ∷ back)
      → HeaderIn t'.headers (headers_in before + length front) h
  pub records_kept : Kept (8 * length rs) t.records t'.records
  pub headers_kept : Kept (4 * headers_in rs) t.headers t'.headers

-- a marker fills no row
abbrev pub Filled : Content RecordSpans → Tables → Tables → Type 0
Filled (control m) t t' = t' ≡ t
Filled (records rs) t t' = RowsIn rs t t'

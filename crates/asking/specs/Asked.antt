-- What rows ask to be written: document 01, Tables, and Writer's numbers, 21 and 22. Rows are read in their order, each
-- record before its headers, and the first that is wrong gives the number.
use Rattle.std.specs.Prelude.{ℕ, zero, suc, ◌+◌, ◌/◌, Bool, false, List, eqb, leb, ltb, ℤ, pos, negsuc, length}
use Rattle.std.proofs.Math.Option.{Option, none, some}
use Rattle.numbers.specs.Format.{in_bits}
use Rattle.numbers.specs.Pick.{pick}
use Rattle.primitives.specs.Step.{Step, ok, no, and_then, map_step, times}
use Rattle.primitives.specs.Reading.{Span, bytes_of}
use Rattle.utf8.specs.Judgement.{is_utf8}
use Rattle.records.specs.Judgement.{HeaderSpans, RecordSpans, Head, with_headers}
use Rattle.records.specs.Rows.{cell, Tables}

-- ---- two numbers of a row: start and length, in a source of so many bytes

-- bytes that lie inside the source; an empty span may start at its end
abbrev pub asked_bytes : ℕ → ℤ → ℤ → ℕ → Step ℕ Span
asked_bytes size (pos a) (pos n) p = pick (leb (a + n) size) (ok (record { start = a; len = n }) p) (no 21)
asked_bytes size (pos a) (negsuc k) p = no 21
asked_bytes size (negsuc k) n p = no 21

-- null, which is start 0 and length -1, or bytes
abbrev pub asked_nullable : ℕ → ℤ → ℤ → ℕ → Step ℕ (Option Span)
asked_nullable size (pos a) (pos n) p = map_step some (asked_bytes size (pos a) (pos n) p)
asked_nullable size (pos a) (negsuc zero) p = pick (eqb a 0) (ok none p) (no 21)
asked_nullable size (pos a) (negsuc (suc k)) p = no 21
asked_nullable size (negsuc k) n p = no 21

-- ---- a header's row

-- its numbers are judged before its key
unfoldable pub header_asked : List ℤ → List ℕ → ℕ → Step ℕ HeaderSpans
header_asked t s row =
    and_then (asked_bytes (length s) (cell 4 t row 0) (cell 4 t row 1) row) (λ k _.
    and_then (asked_bytes (length s) (cell 4 t row 2) (cell 4 t row 3) row) (λ v _.
    pick (is_utf8 (bytes_of s k)) (ok (record { key = k; value = v }) (row + 1)) (no 22)))

-- a row that the table does not have is 21
unfoldable pub header_row_asked : List ℤ → List ℕ → ℕ → Step ℕ HeaderSpans
header_row_asked t s row = pick (ltb row (length t / 4)) (header_asked t s row) (no 21)

-- ---- a record's row

-- first header row and header count: the headers run on from those before, and lie within the table's whole rows
abbrev pub asked_count : ℕ → ℕ → ℤ → ℤ → ℕ → Step ℕ ℕ
asked_count rows first (pos named) (pos n) p =
    pick (eqb named first) (pick (leb (first + n) rows) (ok n p) (no 21)) (no 21)
asked_count rows first (pos named) (negsuc k) p = no 21
asked_count rows first (negsuc k) n p = no 21

-- the deltas: as every number of a table, timestampDelta is one of 64 bits; offsetDelta has to be one of 32
abbrev pub deltas_fit : (timestamp offset : ℤ) → Bool
deltas_fit timestamp offset = pick (in_bits 64 timestamp) (in_bits 32 offset) false

-- what the row itself says
unfoldable pub head_asked : Tables → List ℕ → ℕ → ℕ → Step ℕ Head
head_asked t s row first =
    let number : ℕ → ℤ = cell 8 t.records row in
    pick (deltas_fit (number 0) (number 1))
    (and_then (asked_nullable (length s) (number 2) (number 3) row) (λ k _.
    and_then (asked_nullable (length s) (number 4) (number 5) row) (λ v _.
    map_step (λ n. record { deltas = record { timestamp = number 0; offset = number 1 }; key = k; value = v; count = n })
    (asked_count (length t.headers / 4) first (number 6) (number 7) row))))
    (no 21)

-- a row that the table does not have is 21
unfoldable pub head_row_asked : Tables → List ℕ → ℕ → ℕ → Step ℕ Head
head_row_asked t s row first = pick (ltb row (length t.records / 8)) (head_asked t s row first) (no 21)

-- a record's row, and the header row from which its headers stand
pub record RowPlace : Type 0 where
  pub row : ℕ
  pub first : ℕ

abbrev pub row_place : ℕ → ℕ → RowPlace
row_place row first = record { row = row; first = first }

abbrev pub next_row : {A : Type 0} → ℕ → Step ℕ A → Step RowPlace A
next_row row (ok a first) = ok a (row_place (row + 1) first)
next_row row (no n) = no n

-- the row, and then as many header rows
unfoldable pub record_asked : Tables → List ℕ → RowPlace → Step RowPlace RecordSpans
record_asked t s p =
    next_row p.row
    (and_then (head_asked t s p.row p.first) (λ h _. map_step (with_headers h) (times (header_asked t.headers s) h.count p.first)))

-- ---- records: as many as are asked for, from the table's first row on; too few rows is judged first

unfoldable pub records_asked : Tables → List ℕ → ℕ → ℕ → Step RowPlace (List RecordSpans)
records_asked t s first count =
    pick (leb count (length t.records / 8)) (times (record_asked t s) count (row_place 0 first)) (no 21)

-- The tables: document 01, Tables.
use Rattle.std.specs.Prelude.{ℕ, ◌+◌, ◌*◌, ◌/◌, Bool, false, List, [], ◌∷◌, ◌++◌, map, leb, ℤ, pos, negsuc, length, take, drop, get_or}
use Rattle.std.proofs.Math.Option.{Option, none, some}
use Rattle.numbers.specs.Pick.{pick}
use Rattle.numbers.specs.Concat.{concat}
use Rattle.primitives.specs.Reading.{Span}
use Rattle.records.specs.Judgement.{HeaderSpans, RecordSpans}

-- ---- the rows of what was read

-- start and length; null is start 0, length -1
abbrev pub span_row : Option Span → List ℤ
span_row none = pos 0 ∷ negsuc 0 ∷ []
span_row (some x) = pos x.start ∷ pos x.len ∷ []

-- key start, key length, value start, value length
abbrev pub header_row : HeaderSpans → List ℤ
header_row h = span_row (some h.key) ++ span_row (some h.value)

-- timestampDelta, offsetDelta, key start, key length, value start, value length, first header row, header count
abbrev pub record_row : ℕ → RecordSpans → List ℤ
record_row first r =
    r.timestamp_delta ∷ r.offset_delta
    ∷ (span_row r.key ++ (span_row r.value ++ (pos first ∷ pos (length r.headers) ∷ [])))

-- how many headers records have together
unfoldable pub headers_in : List RecordSpans → ℕ
headers_in [] = 0
headers_in (r ∷ rest) = length r.headers + headers_in rest

-- first header rows run on, from a given one
unfoldable pub record_rows : ℕ → List RecordSpans → List (List ℤ)
record_rows first [] = []
record_rows first (r ∷ rest) = record_row first r ∷ record_rows (first + length r.headers) rest

unfoldable pub header_rows : List RecordSpans → List (List ℤ)
header_rows [] = []
header_rows (r ∷ rest) = map header_row r.headers ++ header_rows rest

-- ---- tables

-- number k of a row of a table whose rows have w
abbrev pub cell : ℕ → List ℤ → ℕ → ℕ → ℤ
cell w t row k = get_or t (row * w + k) (pos 0)

-- a table with rows of w numbers put in from a given row on; all else is as it was
unfoldable pub filled : ℕ → ℕ → List (List ℤ) → List ℤ → List ℤ
filled w first rows t = take (first * w) t ++ (concat rows ++ drop ((first + length rows) * w) t)

-- both tables that are lent
pub record Tables : Type 0 where
  pub records : List ℤ
  pub headers : List ℤ

abbrev pub tables : List ℤ → List ℤ → Tables
tables rs hs = record { records = rs; headers = hs }

-- whether so many rows are enough for records and for their headers, which stand from the first header row on
abbrev pub enough_rows : (records headers first : ℕ) → List RecordSpans → Bool
enough_rows records headers first rs = pick (leb (length rs) records) (leb (first + headers_in rs) headers) false

-- room is whole rows
unfoldable pub roomy : ℕ → List RecordSpans → Tables → Bool
roomy first rs t = enough_rows (length t.records / 8) (length t.headers / 4) first rs

unfoldable pub with_rows : ℕ → List RecordSpans → Tables → Tables
with_rows first rs t =
    record { records = filled 8 0 (record_rows first rs) t.records; headers = filled 4 first (header_rows rs) t.headers }

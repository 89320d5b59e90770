-- Words of private contracts: none of them stands in a promise. What the steps of the walk give, and the tables as the
-- walk fills them, row after row.
use Rattle.std.specs.Prelude.{ℕ, ◌+◌, ◌*◌, Result, Ok, Err, List, [], ◌∷◌, ◌++◌, leb, ℤ, length, take, drop}
use Rattle.numbers.specs.Pick.{pick}
use Rattle.primitives.specs.declared.Cursor.{Cursor}
use Rattle.primitives.specs.Step.{Step, ok, no}
use Rattle.primitives.specs.Answers.{view_read}
use Rattle.records.specs.declared.RecordFault.{RecordFault}
use Rattle.records.specs.Judgement.{HeaderSpans, RecordSpans}
use Rattle.records.specs.Rows.{header_row, record_row, headers_in, Tables, tables}
use Rattle.records.specs.Answers.{record_number_of}

-- ---- tables

-- the table with a row of w numbers in that row's place, or as it was where it has no such row
unfoldable pub put : ℕ → List ℤ → ℕ → List ℤ → List ℤ
put w t row numbers =
    pick (leb (row * w + w) (length t)) (take (row * w) t ++ (numbers ++ drop (row * w + w) t)) t

unfoldable pub put_headers : List ℤ → ℕ → List HeaderSpans → List ℤ
put_headers t row [] = t
put_headers t row (h ∷ rest) = put_headers (put 4 t row (header_row h)) (row + 1) rest

abbrev pub put_record : Tables → ℕ → ℕ → RecordSpans → Tables
put_record t row first r =
    tables (put 8 t.records row (record_row first r)) (put_headers t.headers first r.headers)

unfoldable pub put_records : Tables → ℕ → ℕ → List RecordSpans → Tables
put_records t row first [] = t
put_records t row first (r ∷ rest) = put_records (put_record t row first r) (row + 1) (first + length r.headers) rest

abbrev pub view_filled : Result Cursor RecordFault → List ℤ → Step ℕ (List ℤ)
view_filled (Ok c) t = ok t c.at
view_filled (Err f) t = no (record_number_of f)

-- ---- the walk: how many headers were passed, and what the tables hold

pub record Walked : Type 0 where
  pub headers : ℕ
  pub tables : Tables

abbrev pub walked_record : Tables → ℕ → ℕ → RecordSpans → Walked
walked_record t row first r = record { headers = length r.headers; tables = put_record t row first r }

abbrev pub walked_records : Tables → ℕ → ℕ → List RecordSpans → Walked
walked_records t row first rs = record { headers = headers_in rs; tables = put_records t row first rs }

abbrev pub view_walk : Result (ℕ × Cursor) RecordFault → Tables → Step ℕ Walked
view_walk r t = view_read record_number_of (λ n. record { headers = n; tables = t }) r

-- Which rows are wrong, said of their numbers alone, and the first that is, with document 01's number: Writer's
-- numbers, 21 and 22. It knows nothing of how rows are read.
use Rattle.std.specs.Prelude.{ℕ, suc, ◌+◌, ◌/◌, ◌<◌, ◌≤◌, ◌≡◌, ◌⊎◌, List, ℤ, pos, negsuc, length, take, drop}
use Rattle.numbers.specs.Format.{InBits}
use Rattle.utf8.specs.Grammar.{Octets}
use Rattle.records.specs.Rows.{cell, Tables}

-- ---- start and length

-- bytes inside a source of so many; an empty span may start at its end
pub record Inside (size : ℕ) (a n : ℤ) : Type 0 where
  pub start : ℕ
  pub len : ℕ
  pub start_is : a ≡ pos start
  pub len_is : n ≡ pos len
  pub ends : start + len ≤ size

-- null is start 0 and length -1
abbrev pub InsideOrNull : ℕ → ℤ → ℤ → Type 0
InsideOrNull size a n = ((a ≡ pos 0) × (n ≡ negsuc 0)) ⊎ Inside size a n

-- ---- a header's row

pub record HeaderNumbers (t : List ℤ) (size row : ℕ) : Type 0 where
  pub key : Inside size (cell 4 t row 0) (cell 4 t row 1)
  pub value : Inside size (cell 4 t row 2) (cell 4 t row 3)

abbrev pub asked_key : (t : List ℤ) (s : List ℕ) (row : ℕ) → HeaderNumbers t (length s) row → List ℕ
asked_key t s row x = take x.key.len (drop x.key.start s)

pub record HeaderRowRight (t : List ℤ) (s : List ℕ) (row : ℕ) : Type 0 where
  pub numbers : HeaderNumbers t (length s) row
  pub utf8 : Octets (asked_key t s row numbers)

-- its numbers come before its key
pub data HeaderRowWrong (t : List ℤ) (s : List ℕ) (row : ℕ) : ℕ → Type 0 where
  number : (HeaderNumbers t (length s) row → ⊥) → HeaderRowWrong t s row 21
  key : (x : HeaderNumbers t (length s) row) → (Octets (asked_key t s row x) → ⊥) → HeaderRowWrong t s row 22

-- as many rows from a row on: all are right; or those before one are right, and it is wrong
abbrev pub HeaderRowsRight : (t : List ℤ) (s : List ℕ) (row count : ℕ) → Type 0
HeaderRowsRight t s row count = (j : ℕ) → j < count → HeaderRowRight t s (row + j)

pub record HeaderRowsWrong (t : List ℤ) (s : List ℕ) (row count n : ℕ) : Type 0 where
  pub at : ℕ
  pub there : at < count
  pub before : HeaderRowsRight t s row at
  pub wrong : HeaderRowWrong t s (row + at) n

-- ---- a record's row

-- with so many headers, which run on from the given header row and lie within the table's whole rows
pub record RecordRowRight (t : Tables) (s : List ℕ) (row first count : ℕ) : Type 0 where
  pub timestamp : InBits 64 (cell 8 t.records row 0)
  pub offset : InBits 32 (cell 8 t.records row 1)
  pub key : InsideOrNull (length s) (cell 8 t.records row 2) (cell 8 t.records row 3)
  pub value : InsideOrNull (length s) (cell 8 t.records row 4) (cell 8 t.records row 5)
  pub runs_on : cell 8 t.records row 6 ≡ pos first
  pub counted : cell 8 t.records row 7 ≡ pos count
  pub within : first + count ≤ length t.headers / 4

-- ---- rows in their order, each record before its headers: as many records from a row on, and their headers from a
-- header row on

pub data RowsWrong (t : Tables) (s : List ℕ) : (row first count n : ℕ) → Type 0 where
  own : {row first k : ℕ} → ((count : ℕ) → RecordRowRight t s row first count → ⊥) → RowsWrong t s row first (suc k) 21
  header : {row first k count n : ℕ} → RecordRowRight t s row first count → HeaderRowsWrong t.headers s first count n
      → RowsWrong t s row first (suc k) n
  later : {row first k count n : ℕ} → RecordRowRight t s row first count → HeaderRowsRight t.headers s first count
      → RowsWrong t s (row + 1) (first + count) k n → RowsWrong t s row first (suc k) n

-- more records than rows is judged first
pub data AskedWrong (t : Tables) (s : List ℕ) (first count : ℕ) : ℕ → Type 0 where
  few : length t.records / 8 < count → AskedWrong t s first count 21
  rows : {n : ℕ} → count ≤ length t.records / 8 → RowsWrong t s 0 first count n → AskedWrong t s first count n

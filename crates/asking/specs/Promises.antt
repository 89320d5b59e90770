-- What each public function promises of its result, for every input. Lent bytes and tables are lent to be read: no
-- function here can change them.
use Rattle.std.specs.Prelude.{ℕ, ◌+◌, ◌≡◌, List, ℤ, Result}
use Rattle.std.specs.declared.num.TryFromIntError.{TryFromIntError}
use Rattle.records.specs.Rows.{Tables}
use Rattle.asking.specs.declared.WriteFault.{WriteFault}
use Rattle.asking.specs.declared.AskedHeader.{AskedHeader}
use Rattle.asking.specs.declared.AskedRecord.{AskedRecord}
use Rattle.asking.specs.Asked.{header_row_asked, head_row_asked}
use Rattle.asking.specs.Answers.{write_number_of, header_of, head_of, view_answer}

-- WriteFault::number
abbrev pub WriteNumberPromise : WriteFault → ℕ → Type 0
WriteNumberPromise f r = r ≡ write_number_of f

-- WriteFault::from what a number is that its type does not hold
abbrev pub FromIntErrorPromise : TryFromIntError → WriteFault → Type 0
FromIntErrorPromise e f = f ≡ WriteFault.Row

-- header_asked, on a table of headers, a source s and a row; the next row is after it
abbrev pub HeaderAskedPromise : List ℤ → List ℕ → ℕ → Result AskedHeader WriteFault → Type 0
HeaderAskedPromise t s row r = view_answer (row + 1) header_of r ≡ header_row_asked t s row

-- record_asked, on both tables, a source s, a row and the header row from which its headers stand
abbrev pub RecordAskedPromise : Tables → List ℕ → ℕ → ℕ → Result AskedRecord WriteFault → Type 0
RecordAskedPromise t s row first r = view_answer row head_of r ≡ head_row_asked t s row first

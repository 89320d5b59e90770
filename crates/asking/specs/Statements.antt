-- The laws of what rows ask for, each in words and then as a statement. What proves each stands in proofs/ under the
-- statement's name in small letters: `rows_refused : RowsRefused`.
use Rattle.std.specs.Prelude.{ℕ, ◌≤◌, ◌≡◌, List}
use Rattle.numbers.specs.Exactly.{Exactly}
use Rattle.primitives.specs.Step.{no}
use Rattle.records.specs.Rows.{Tables}
use Rattle.asking.specs.Asked.{records_asked}
use Rattle.asking.specs.RowFaults.{AskedWrong}

-- Rows are refused by none but the numbers 21 and 22.
abbrev pub RowsRefused : Type 0
RowsRefused = (t : Tables) (s : List ℕ) (first count n : ℕ) → records_asked t s first count ≡ no n → (21 ≤ n) × (n ≤ 22)

-- Rows are refused by the number of the first wrong one, and wherever there is one.
abbrev pub RowFaults : Type 0
RowFaults = (t : Tables) (s : List ℕ) (first count n : ℕ) → Exactly (records_asked t s first count ≡ no n) (AskedWrong t s first count n)

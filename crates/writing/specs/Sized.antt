-- Words of private contracts: none of them stands in a promise. What the walks over rows give.
use Rattle.std.specs.Prelude.{ℕ, ◌+◌, Result, Ok, Err}
use Rattle.primitives.specs.Step.{Step, ok, no}
use Rattle.records.specs.Judgement.{Head}
use Rattle.sizes.specs.Sizes.{length_in, head_size}
use Rattle.asking.specs.Asked.{RowPlace, row_place}
use Rattle.asking.specs.declared.WriteFault.{WriteFault}
use Rattle.asking.specs.Answers.{write_number_of}

-- what a record's row itself asks for
abbrev pub head_of_size : Head → ℕ
head_of_size h = head_size h.deltas.timestamp h.deltas.offset (length_in h.key) (length_in h.value) h.count

-- a step without its place
abbrev pub forget : {P A : Type 0} → Step P A → Step ℕ A
forget (ok a p) = ok a 0
forget (no n) = no n

-- what a record's row gives, by what it says, with the row after it and the header row after its own
abbrev pub view_row : {A B : Type 0} → ℕ → (A → B) → Result (A × ℕ) WriteFault → Step RowPlace B
view_row row value (Ok (x, first)) = ok (value x) (row_place (row + 1) first)
view_row row value (Err f) = no (write_number_of f)

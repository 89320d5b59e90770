-- What the writer answers, case by case: document 01's number, and the length that it names.
use Rattle.std.specs.Prelude.{ℕ, ◌+◌, List, ◌++◌, Result, Ok, Err, leb, length, take, drop}
use Rattle.numbers.specs.Pick.{pick}
use Rattle.primitives.specs.Step.{Step, ok, no}
use Rattle.records.specs.Judgement.{RecordSpans}
use Rattle.records.specs.Placed.{shown_records}
use Rattle.records.specs.Written.{written_records}
use Rattle.asking.specs.declared.WriteFault.{WriteFault}
use Rattle.asking.specs.Asked.{RowPlace}
use Rattle.asking.specs.Answers.{write_number_of}

-- 0 with the length that is written; any other number with 0
pub record Answer : Type 0 where
  pub number : ℕ
  pub bytes : ℕ

abbrev pub writes : ℕ → Answer
writes n = record { number = 0; bytes = n }

abbrev pub refuses : ℕ → Answer
refuses n = record { number = n; bytes = 0 }

abbrev pub view_written : Result ℕ WriteFault → Answer
view_written (Ok n) = writes n
view_written (Err f) = refuses (write_number_of f)

-- ---- records

-- document 01, Writer's numbers, 23: batchLength is at most 2147483647, and counts 49 bytes beside the records
abbrev pub most_bytes : ℕ
most_bytes = 2147483598

-- what is to be written, or the number by which it is refused
pub data Given : Type 0 where
  given : List ℕ → Given
  refused : ℕ → Given

-- the records that rows ask for
abbrev pub records_given : List ℕ → Step RowPlace (List RecordSpans) → Given
records_given s (ok rs p) =
    let bs : List ℕ = written_records (shown_records s rs) in
    pick (leb (length bs) most_bytes) (given bs) (refused 23)
records_given s (no n) = refused n

-- ---- the answer, and the output at exit

abbrev pub measured : Given → Answer
measured (given bs) = writes (length bs)
measured (refused n) = refuses n

-- bytes from a place on, and all else as it was
abbrev pub over : ℕ → List ℕ → List ℕ → List ℕ
over at bs out = take at out ++ (bs ++ drop (at + length bs) out)

-- document 01, Writer's numbers, 24
abbrev pub answer_due : ℕ → List ℕ → Given → Answer
answer_due at out (given bs) = pick (leb (at + length bs) (length out)) (writes (length bs)) (refuses 24)
answer_due at out (refused n) = refuses n

abbrev pub output_due : ℕ → List ℕ → Given → List ℕ
output_due at out (given bs) = pick (leb (at + length bs) (length out)) (over at bs out) out
output_due at out (refused n) = out

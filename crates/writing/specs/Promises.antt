-- What each public function promises of its result and of the lent output, for every input. Lent bytes and tables are
-- lent to be read: no function here can change them.
use Rattle.std.specs.Prelude.{ℕ, ◌≡◌, List, Result}
use Rattle.records.specs.Rows.{Tables}
use Rattle.asking.specs.declared.WriteFault.{WriteFault}
use Rattle.asking.specs.Asked.{records_asked}
use Rattle.writing.specs.Answers.{view_written, Given, records_given, measured, answer_due, output_due}

-- measure_records, of as many records, their headers from a first header row on, and a source s
abbrev pub MeasureRecordsPromise : Tables → ℕ → ℕ → List ℕ → Result ℕ WriteFault → Type 0
MeasureRecordsPromise t first count s r = view_written r ≡ measured (records_given s (records_asked t s first count))

-- the result of writing, with the output at exit
pub record WriteOutcome : Type 0 where
  pub result : Result ℕ WriteFault
  pub output : List ℕ

-- what writing gives where such bytes are to be written into an output from a place on
pub record WriteBy (g : Given) (at : ℕ) (out : List ℕ) (o : WriteOutcome) : Type 0 where
  pub answer : view_written o.result ≡ answer_due at out g
  pub output : o.output ≡ output_due at out g

-- write_records
abbrev pub WriteRecordsPromise : Tables → ℕ → ℕ → List ℕ → ℕ → List ℕ → WriteOutcome → Type 0
WriteRecordsPromise t first count s at out o = WriteBy (records_given s (records_asked t s first count)) at out o

-- Words of private contracts: what their answers say.
use Rattle.std.specs.Prelude.{ℕ, ◌≡◌, Bool, true, List, ℤ, Some, None, Result, Ok, Err}
use Rattle.std.specs.Prelude as std
use Rattle.std.proofs.Math.Option.{Option, none, some}
use Rattle.numbers.specs.Pick.{pick}
use Rattle.records.specs.Rows.{Tables}
use Rattle.asking.specs.declared.WriteFault.{WriteFault}
use Rattle.asking.specs.Answers.{write_number_of}
use Rattle.writing.specs.Answers.{refused}
use Rattle.writing.specs.Promises.{WriteOutcome, WriteBy}
use Rattle.layout.specs.declared.ControlMode.{ControlMode}
use Rattle.opening.specs.Judgement.{is}
use Rattle.batches.specs.declared.RecordBatch.{RecordBatch}
use Rattle.batches.specs.declared.ControlBatchOrRecords.{ControlBatchOrRecords}
use Rattle.batches.specs.Answers.{Answer, view_fields}
use Rattle.batches.specs.Writer.{view_wanted, batch_given}
use Rattle.oddrafisk.specs.Entries.{bare_asked, AskedBatch, entries_asked}
use Rattle.oddrafisk.specs.Promises.{Handed, entries_given}

-- what an answer that may be missing says
abbrev pub view_option : {A B : Type 0} → (A → B) → std.Option A → Option B
view_option view (Some x) = some (view x)
view_option view None = none

abbrev pub view_asked : RecordBatch × ControlBatchOrRecords → AskedBatch
view_asked (b, k) = record { fields = view_fields b; wanted = view_wanted k }

-- something, where a test holds
abbrev pub when : {A : Type 0} → Bool → A → Option A
when t x = pick t (some x) none

-- the number of entries that no batch has
abbrev pub wrong_number : ControlMode → ℤ → ℕ
wrong_number mode z = pick (bare_asked mode z) 41 21

-- what refuses entries for a mode and a codec by a number, whatever the tables and the source
pub record NotAsked (mode : ControlMode) (e : List ℤ) (codec : ℤ) (n : ℕ) : Type 0 where
  pub refuses : (t : Tables) (s : List ℕ) → refused n ≡ entries_given mode e codec t s
  pub nothing : (b : AskedBatch) → is 0 codec ≡ true → entries_asked e ≡ some b → ⊥

-- what asks by them for a batch that is given
pub record Asked (mode : ControlMode) (e : List ℤ) (codec : ℤ) (b : AskedBatch) : Type 0 where
  pub is : entries_asked e ≡ some b
  pub gives : (t : Tables) (s : List ℕ) → batch_given mode b.fields 0 b.wanted t s ≡ entries_given mode e codec t s

abbrev pub AsksBy : ControlMode → List ℤ → ℤ → Result (RecordBatch × ControlBatchOrRecords) WriteFault → Type 0
AsksBy mode e codec (Ok x) = Asked mode e codec (view_asked x)
AsksBy mode e codec (Err f) = NotAsked mode e codec (write_number_of f)

-- counts alone
abbrev pub counts_of : ℕ → ℕ → ℕ → Answer
counts_of n m bytes = record { number = 0; fields = none; kind = none; records = n; headers = m; bytes = bytes }

-- what is written for entries, which are of the machine's types
pub record WritesFor (mode : ControlMode) (e : List ℤ) (codec : ℤ) (t : Tables) (s out : List ℕ) (o : WriteOutcome) : Type 0 where
  pub handed : Handed e codec s
  pub by : WriteBy (entries_given mode e codec t s) 0 out o

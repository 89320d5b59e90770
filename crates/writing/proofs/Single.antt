-- Each promise admits a single answer: from what the answer says it can be made again, and the output is given.
-- Assumes nothing.
use Prim.Native.Nat.{ℕ}
use mathlib.Core.Path.{◌≡◌, refl}
use mathlib.Core.List.{List}
use lib.Dec.{eqb}
use Rattle.std.proofs.Common.{Result, Ok, Err}
use Rattle.numbers.specs.Pick.{pick}
use Rattle.numbers.specs.Single.{Single}
use Rattle.numbers.proofs.Single.{single_value, single_view}
use Rattle.records.specs.Rows.{Tables}
use Rattle.asking.specs.declared.WriteFault.{WriteFault}
use Rattle.asking.proofs.Single.{fault}
use Rattle.writing.specs.Answers.{Answer, view_written, Given}
use Rattle.writing.specs.Promises.{MeasureRecordsPromise, WriteBy, WriteRecordsPromise}

-- ---- an answer, made from what it says

abbrev answer : Answer → Result ℕ WriteFault
answer a = pick (eqb a.number 0) (Ok a.bytes) (Err (fault a.number))

answer_again : (r : Result ℕ WriteFault) → answer (view_written r) ≡ r
answer_again (Ok n) = refl
answer_again (Err WriteFault.Codec) = refl
answer_again (Err WriteFault.Row) = refl
answer_again (Err WriteFault.KeyNotUtf8) = refl
answer_again (Err WriteFault.TooLong) = refl
answer_again (Err WriteFault.ShortOutput) = refl
answer_again (Err WriteFault.BareMarker) = refl

-- answers that say the same are the same
pub single_written : (a : Answer) → Single (λ r. view_written r ≡ a)
single_written = single_view view_written answer answer_again

-- ---- the promises

pub single_measure_records : (t : Tables) (first count : ℕ) (s : List ℕ) → Single (MeasureRecordsPromise t first count s)
single_measure_records t first count s = single_written _

pub single_write_by : (g : Given) (at : ℕ) (out : List ℕ) → Single (WriteBy g at out)
single_write_by g at out o o' e e' =
    let p = single_written _ o.result o'.result e.answer e'.answer in
    let q = single_value _ o.output o'.output e.output e'.output in
    λ i. record { result = p i; output = q i }

pub single_write_records : (t : Tables) (first count : ℕ) (s : List ℕ) (at : ℕ) (out : List ℕ) → Single (WriteRecordsPromise t first count s at out)
single_write_records t first count s at out = single_write_by _ at out

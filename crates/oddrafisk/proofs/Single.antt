-- Each promise admits a single answer: it gives the number, the entries and what is lent to be changed. Assumes
-- nothing.
use Prim.Native.Nat.{ℕ}
use mathlib.Core.Path.{◌≡◌, sym, ◌∙◌}
use mathlib.Core.List.{List}
use native.Mathlib.Decide.{ℕ_discrete}
use lib.IntN.{ℤ}
use Rattle.numbers.specs.Single.{Single}
use Rattle.numbers.proofs.Single.{single_value}
use Rattle.records.specs.Rows.{Tables}
use Rattle.writing.specs.Answers as Writing
use Rattle.layout.specs.declared.ControlMode.{ControlMode}
use Rattle.batches.specs.Answers.{Answer}
use Rattle.batches.specs.Promises.{Canonical}
use Rattle.converting.specs.Answers as Converting
use Rattle.oddrafisk.specs.Promises.{Outcome, Says, CheckPromise, ReadPromise, Sizes, MeasurePromise, WritePromise, Tells, ConvertPromise, CanonicalPromise, RecordTimePromise, Crc32cPromise, VersionPromise}

-- ---- what is said

said_same : (o o' : Outcome) → o.number ≡ o'.number → o.answer ≡ o'.answer → o ≡ o'
said_same o o' p q = λ i. record { number = p i; answer = q i }

single_says : (a : Answer) → Single (Says a)
single_says a o o' e e' = said_same o o' (e.number ∙ sym e'.number) (e.answer ∙ sym e'.answer)

single_sizes : (a : Writing.Answer) → Single (Sizes a)
single_sizes a o o' e e' = said_same o o' (e.number ∙ sym e'.number) (e.answer ∙ sym e'.answer)

-- ---- the promises

pub single_check : (mode : ControlMode) (s : List ℕ) → Single (CheckPromise mode s)
single_check mode s o o' e e' = single_says _ o o' e.said e'.said

pub single_read : (mode : ControlMode) (s : List ℕ) (t : Tables) → Single (ReadPromise mode s t)
single_read mode s t o o' e e' =
    let p = single_says _ o.said o'.said e.said e'.said in
    let q = e.tables ∙ sym e'.tables in
    λ i. record { said = p i; tables = q i }

pub single_measure : (mode : ControlMode) (e : List ℤ) (codec : ℤ) (t : Tables) (s : List ℕ) → Single (MeasurePromise mode e codec t s)
single_measure mode e codec t s = single_sizes _

pub single_write : (mode : ControlMode) (e : List ℤ) (codec : ℤ) (t : Tables) (s out : List ℕ) → Single (WritePromise mode e codec t s out)
single_write mode e codec t s out o o' w w' =
    let p = single_sizes _ o.said o'.said w.said w'.said in
    let q = w.output ∙ sym w'.output in
    λ i. record { said = p i; output = q i }

single_tells : (a : Converting.Answer) → Single (Tells a)
single_tells a o o' e e' = said_same o o' (e.number ∙ sym e'.number) (e.answer ∙ sym e'.answer)

pub single_convert : (s out : List ℕ) → Single (ConvertPromise s out)
single_convert s out o o' e e' =
    let p = single_tells _ o.said o'.said e.said e'.said in
    let q = e.output ∙ sym e'.output in
    λ i. record { said = p i; output = q i }

pub single_is_canonical : (mode : ControlMode) (s : List ℕ) → Single (CanonicalPromise mode s)
single_is_canonical mode s r r' e e' =
    elim (ℕ_discrete r 1) [
      | yes h ↦ h ∙ sym (e'.yes.1 (e.yes.0 h))
      | no h ↦
          let never : Canonical mode s → ⊥ = λ is. h (e.yes.1 is) in
          e.no.1 never ∙ sym (e'.no.1 never)
    ]

pub single_record_time : (type first max delta : ℤ) → Single (RecordTimePromise type first max delta)
single_record_time type first max delta = single_value _

pub single_crc32c : (s : List ℕ) → Single (Crc32cPromise s)
single_crc32c s = single_value _

pub single_version : Single VersionPromise
single_version = single_value _

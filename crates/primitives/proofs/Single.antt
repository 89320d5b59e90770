-- Each promise admits a single answer: it gives the answer itself, or what the answer says, from which the answer can
-- be made again. Assumes nothing.
use Rattle.std.proofs.Common.{◌≡◌, ℕ, Bool, eqb, List, Result, Ok, Err, refl, ap}
use Rattle.std.proofs.Common as std
use mathlib.Core.Option.{Option, none, some}
use Rattle.numbers.specs.Pick.{pick}
use Rattle.numbers.specs.Single.{Single}
use Rattle.numbers.proofs.Single.{single_value, single_view}
use Rattle.numbers.specs.declared.Int8.{Int8}
use Rattle.numbers.specs.declared.Int16.{Int16}
use Rattle.numbers.specs.declared.Int32.{Int32}
use Rattle.numbers.specs.declared.Int64.{Int64}
use Rattle.numbers.specs.declared.Uint32.{Uint32}
use Rattle.numbers.specs.declared.Uint64.{Uint64}
use Rattle.numbers.specs.declared.Varint.{Varint}
use Rattle.numbers.specs.declared.Varlong.{Varlong}
use Rattle.primitives.specs.declared.Cursor.{Cursor}
use Rattle.primitives.specs.declared.Fault.{Fault}
use Rattle.primitives.specs.declared.Fault.TheVariants.{PastEnd, BeyondLimits, NegativeLength}
use Rattle.primitives.specs.declared.Span as declared
use Rattle.primitives.specs.Step.{Step, ok, no}
use Rattle.primitives.specs.Reading.{Span}
use Rattle.primitives.specs.Answers.{number_of, view_read, view_nullable, span_as_read}
use Rattle.primitives.specs.Promises.{NumberPromise, ReadInt8Promise, ReadInt16Promise, ReadInt32Promise, ReadInt64Promise, ReadUint32Promise, ReadUint64Promise, ReadVarintPromise, ReadVarlongPromise, ReadLengthPromise, ReadSpanPromise}

pub single_number : (f : Fault) → Single (NumberPromise f)
single_number f = single_value _

-- ---- the answer of a reading, made from what it says

abbrev pub fault_of : ℕ → Fault
fault_of n = pick (eqb n 8) PastEnd (pick (eqb n 9) BeyondLimits NegativeLength)

pub fault_again : (f : Fault) → fault_of (number_of f) ≡ f
fault_again PastEnd = refl
fault_again BeyondLimits = refl
fault_again NegativeLength = refl

module _ {E : Type 0} (number : E → ℕ) (fault : ℕ → E) (same : (f : E) → fault (number f) ≡ f)
    {A B : Type 0} (value : A → B) (of : B → A) (again : (a : A) → of (value a) ≡ a) where
  abbrev back : Step ℕ B → Result (A × Cursor) E
  back (ok b p) = Ok (of b, record { at = p })
  back (no n) = Err (fault n)

  view_back : (r : Result (A × Cursor) E) → back (view_read number value r) ≡ r
  view_back (Ok (a, c)) = ap (λ (x : A). Ok (x, c)) (again a)
  view_back (Err f) = ap Err (same f)

  pub single_read_by : (x : Step ℕ B) → Single (λ r. view_read number value r ≡ x)
  single_read_by = single_view (view_read number value) back view_back

module _ {A B : Type 0} (value : A → B) (of : B → A) (again : (a : A) → of (value a) ≡ a) where
  pub single_read_of : (x : Step ℕ B) → Single (λ r. view_read number_of value r ≡ x)
  single_read_of = single_read_by number_of fault_of fault_again value of again

pub single_read_int8 : (s : List ℕ) (at : ℕ) → Single (ReadInt8Promise s at)
single_read_int8 s at = single_read_of (λ (v : Int8). v.0) (λ z. record { 0 = z }) (λ v. refl) _

pub single_read_int16 : (s : List ℕ) (at : ℕ) → Single (ReadInt16Promise s at)
single_read_int16 s at = single_read_of (λ (v : Int16). v.0) (λ z. record { 0 = z }) (λ v. refl) _

pub single_read_int32 : (s : List ℕ) (at : ℕ) → Single (ReadInt32Promise s at)
single_read_int32 s at = single_read_of (λ (v : Int32). v.0) (λ z. record { 0 = z }) (λ v. refl) _

pub single_read_int64 : (s : List ℕ) (at : ℕ) → Single (ReadInt64Promise s at)
single_read_int64 s at = single_read_of (λ (v : Int64). v.0) (λ z. record { 0 = z }) (λ v. refl) _

pub single_read_uint32 : (s : List ℕ) (at : ℕ) → Single (ReadUint32Promise s at)
single_read_uint32 s at = single_read_of (λ (v : Uint32). v.0) (λ z. record { 0 = z }) (λ v. refl) _

pub single_read_uint64 : (s : List ℕ) (at : ℕ) → Single (ReadUint64Promise s at)
single_read_uint64 s at = single_read_of (λ (v : Uint64). v.0) (λ z. record { 0 = z }) (λ v. refl) _

pub single_read_varint : (s : List ℕ) (at : ℕ) → Single (ReadVarintPromise s at)
single_read_varint s at = single_read_of (λ (v : Varint). v.0) (λ z. record { 0 = z }) (λ v. refl) _

pub single_read_varlong : (s : List ℕ) (at : ℕ) → Single (ReadVarlongPromise s at)
single_read_varlong s at = single_read_of (λ (v : Varlong). v.0) (λ z. record { 0 = z }) (λ v. refl) _

abbrev pub nullable_of : {A B : Type 0} → (B → A) → Option B → std.Option A
nullable_of of (some x) = std.Some (of x)
nullable_of of none = std.None

pub nullable_again : {A B : Type 0} (value : A → B) (of : B → A) → ((a : A) → of (value a) ≡ a)
    → (x : std.Option A) → nullable_of of (view_nullable value x) ≡ x
nullable_again value of again (std.Some a) = ap std.Some (again a)
nullable_again value of again std.None = refl

pub single_read_length : (nullable : Bool) (s : List ℕ) (at : ℕ) → Single (ReadLengthPromise nullable s at)
single_read_length nullable s at =
    single_read_of (view_nullable (λ (n : ℕ). n)) (nullable_of (λ n. n)) (nullable_again (λ (n : ℕ). n) (λ n. n) (λ n. refl)) _

abbrev span_of_read : Span → declared.Span
span_of_read x = record { start = x.start; len = x.len }

pub single_read_span : (nullable : Bool) (s : List ℕ) (at : ℕ) → Single (ReadSpanPromise nullable s at)
single_read_span nullable s at =
    single_read_of (view_nullable span_as_read) (nullable_of span_of_read) (nullable_again span_as_read span_of_read (λ x. refl)) _

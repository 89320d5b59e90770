-- What each answer says, case by case: the value with the place after it, or document 01's number.
use Rattle.std.specs.Prelude.{ℕ, Result, Ok, Err, Some, None}
use Rattle.std.specs.Prelude as std
use Rattle.std.proofs.Math.Option.{Option, none, some}
use Rattle.primitives.specs.declared.Cursor.{Cursor}
use Rattle.primitives.specs.declared.Fault.{Fault}
use Rattle.primitives.specs.declared.Fault.TheVariants.{PastEnd, BeyondLimits, NegativeLength}
use Rattle.primitives.specs.declared.Span as declared
use Rattle.primitives.specs.Step.{Step, ok, no}
use Rattle.primitives.specs.Reading.{Span}

-- document 01, Reader's numbers
abbrev pub number_of : Fault → ℕ
number_of PastEnd = 8
number_of BeyondLimits = 9
number_of NegativeLength = 10

-- what is read with the place after it, by what its value says; or the number of the fault
abbrev pub view_read : {A B E : Type 0} → (E → ℕ) → (A → B) → Result (A × Cursor) E → Step ℕ B
view_read number value (Ok (x, c)) = ok (value x) c.at
view_read number value (Err f) = no (number f)

-- a value that may be null
abbrev pub view_nullable : {A B : Type 0} → (A → B) → std.Option A → Option B
view_nullable value (Some x) = some (value x)
view_nullable value None = none

abbrev pub span_as_read : declared.Span → Span
span_as_read x = record { start = x.start; len = x.len }

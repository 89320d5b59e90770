-- The number of a first fault in records is 8 to 11, or 13: by cases on the fault, since each kind has its number.
-- Assumes nothing.
use Prim.Native.Nat.{ℕ}
use mathlib.Core.Bool.{Bool, true, false}
use mathlib.Core.List.{List}
use native.Mathlib.Omega.{arith}
use Rattle.numbers.specs.Format.{Integer, Varies, Nullable}
use Rattle.primitives.specs.Faults.{Wrong, IntegerWrong, NumberWrong, LengthWrong, CountBytes, BytesWrong}
use Rattle.records.specs.Format.{HeaderBytes, RecordBytes}
use Rattle.records.specs.Faults.{KeyWrong, KeyBytes, First, Among, HeaderWrong, FieldsWrong, RecordWrong, RecordsWrong}
use Rattle.records.specs.Statements.{RecordFaultNumber, RecordFaultNumbers, FirstFaultNumbers}

-- faults that have such numbers
abbrev Numbered : Wrong → Type 0
Numbered W = (s : List ℕ) (p n : ℕ) → W s p n → RecordFaultNumber n

-- ---- fields

integer_number : (k : ℕ) → Numbered (IntegerWrong k)
integer_number k s p _ (IntegerWrong.past h) = (omega arith, omega arith, λ e. omega arith)

number_number : (w : ℕ) → Numbered (NumberWrong w)
number_number w s p _ (NumberWrong.past x) = (omega arith, omega arith, λ e. omega arith)
number_number w s p _ (NumberWrong.beyond f) = (omega arith, omega arith, λ e. omega arith)

length_number : (nullable : Bool) → Numbered (LengthWrong nullable)
length_number nullable s p n (LengthWrong.number x) = number_number 32 s p n x
length_number nullable s p _ (LengthWrong.low t x) = (omega arith, omega arith, λ e. omega arith)

bytes_number : (nullable : Bool) → Numbered (BytesWrong nullable)
bytes_number nullable s p n (BytesWrong.size x) = length_number nullable s p n x
bytes_number nullable s p _ (BytesWrong.past t h) = (omega arith, omega arith, λ e. omega arith)

key_number : Numbered KeyWrong
key_number s p n (KeyWrong.bytes x) = bytes_number false s p n x
key_number s p _ (KeyWrong.octets t f) = (omega arith, omega arith, λ e. omega arith)

-- ---- fields, one after the other

module _ {A : Type 0} (G : List ℕ → A → Type 0) (W : Wrong) (own : Numbered W) where
  first_number : (After : A → Wrong) → ((a : A) → Numbered (After a)) → Numbered (First G W After)
  first_number After later s p n (First.own x) = own s p n x
  first_number After later s p n (First.later {a} {q} t x) = later a s q n x

  among_number : (count : ℕ) → Numbered (Among G W count)
  among_number count s p n x = own s x.place n x.wrong

header_number : Numbered HeaderWrong
header_number = first_number KeyBytes KeyWrong key_number _ (λ _. bytes_number false)

fields_number : Numbered FieldsWrong
fields_number =
    first_number (Integer 1) (IntegerWrong 1) (integer_number 1) _ (λ _.
    first_number (Varies 64 false) (NumberWrong 64) (number_number 64) _ (λ _.
    first_number (Varies 32 false) (NumberWrong 32) (number_number 32) _ (λ _.
    first_number (Nullable true false) (BytesWrong true) (bytes_number true) _ (λ _.
    first_number (Nullable true false) (BytesWrong true) (bytes_number true) _ (λ _.
    first_number CountBytes (LengthWrong false) (length_number false) _ (λ count.
    among_number (HeaderBytes false) HeaderWrong header_number count))))))

-- ---- a record, and records

pub record_fault_numbers : RecordFaultNumbers
record_fault_numbers s p n (RecordWrong.size x) = length_number false s p n x
record_fault_numbers s p n (RecordWrong.field t x) = fields_number _ _ n x
record_fault_numbers s p _ (RecordWrong.left t x h) = (omega arith, omega arith, λ e. omega arith)

pub first_fault_numbers : FirstFaultNumbers
first_fault_numbers s count p n (RecordsWrong.one x) =
    among_number (RecordBytes false) RecordWrong record_fault_numbers count s p n x
first_fault_numbers s count p _ (RecordsWrong.left t e h) = (omega arith, omega arith, λ f. omega arith)

-- Each promise admits a single answer: from what the answer says it can be made again. Assumes nothing.
use Rattle.std.proofs.Common.{◌≡◌, ℕ, suc, eqb, List, get_or, ℤ, pos, refl, Option, Some, None}
use Rattle.numbers.specs.Pick.{pick}
use Rattle.numbers.specs.Single.{Single}
use Rattle.numbers.proofs.Single.{single_value, single_view}
use Rattle.primitives.specs.declared.Span.{Span}
use Rattle.primitives.specs.declared.Fault.{Fault}
use Rattle.primitives.specs.declared.Fault.TheVariants.{PastEnd, BeyondLimits, NegativeLength}
use Rattle.primitives.proofs.Single.{single_read_by, single_read_of}
use Rattle.records.specs.declared.RecordFault.{RecordFault}
use Rattle.records.specs.declared.RecordFault.TheVariants.{Field, KeyNotUtf8, BytesLeft}
use Rattle.records.specs.declared.Place.{Place}
use Rattle.records.specs.declared.RecordHeader.{RecordHeader}
use Rattle.records.specs.declared.Record.{Record}
use Rattle.records.specs.Answers.{record_number_of, place_row, view_header, Heading, view_record}
use Rattle.records.specs.Promises.{RecordNumberPromise, FromFaultPromise, FromSpanPromise, FromNullablePromise, ReadCountPromise, ReadHeaderPromise, ReadRecordPromise}

pub single_record_number : (f : RecordFault) → Single (RecordNumberPromise f)
single_record_number f = single_value _

pub single_from_fault : (f : Fault) → Single (FromFaultPromise f)
single_from_fault f = single_value _

-- ---- an answer, made from what it says

-- the refusal with that number, or another answer where no fault has it
abbrev pub refusal : {R : Type 0} → (RecordFault → R) → R → ℕ → R
refusal refused other n =
    pick (eqb n 8) (refused (Field PastEnd))
    (pick (eqb n 9) (refused (Field BeyondLimits))
    (pick (eqb n 10) (refused (Field NegativeLength))
    (pick (eqb n 11) (refused KeyNotUtf8)
    (pick (eqb n 13) (refused BytesLeft) other))))

pub refusal_again : {R : Type 0} (refused : RecordFault → R) (other : R) (f : RecordFault)
    → refusal refused other (record_number_of f) ≡ refused f
refusal_again refused other (Field PastEnd) = refl
refusal_again refused other (Field BeyondLimits) = refl
refusal_again refused other (Field NegativeLength) = refl
refusal_again refused other KeyNotUtf8 = refl
refusal_again refused other BytesLeft = refl

-- the fault with that number
abbrev pub record_fault_of : ℕ → RecordFault
record_fault_of = refusal (λ f. f) KeyNotUtf8

pub record_fault_again : (f : RecordFault) → record_fault_of (record_number_of f) ≡ f
record_fault_again = refusal_again (λ f. f) KeyNotUtf8

pub single_read_count : (s : List ℕ) (at : ℕ) → Single (ReadCountPromise s at)
single_read_count s at = single_read_of (λ (n : ℕ). n) (λ n. n) (λ n. refl) _

-- the place that two numbers of a row say, from number k on
abbrev place_of : List ℤ → ℕ → Place
place_of row k = record { start = get_or row k (pos 0); len = get_or row (suc k) (pos 0) }

single_place : (row : List ℤ) → Single (λ (y : Place). place_row y ≡ row)
single_place = single_view place_row (λ row. place_of row 0) (λ y. refl)

pub single_from_span : (x : Span) → Single (FromSpanPromise x)
single_from_span x = single_place _

pub single_from_nullable : (x : Option Span) → Single (FromNullablePromise x)
single_from_nullable (Some x) = single_from_span x
single_from_nullable None = single_place _

abbrev header_of : List ℤ → RecordHeader
header_of row = record { key = place_of row 0; value = place_of row 2 }

pub single_read_header : (s : List ℕ) (at : ℕ) → Single (ReadHeaderPromise s at)
single_read_header s at = single_read_by record_number_of record_fault_of record_fault_again view_header header_of (λ h. refl) _

abbrev record_of : Heading → Record
record_of h =
    record {
      deltas = record { timestamp = get_or h.numbers 0 (pos 0); offset = get_or h.numbers 1 (pos 0) };
      key = place_of h.numbers 2;
      value = place_of h.numbers 4;
      headers = h.count;
    }

pub single_read_record : (s : List ℕ) (at : ℕ) → Single (ReadRecordPromise s at)
single_read_record s at = single_read_of view_record record_of (λ r. refl) _

-- Each promise admits a single answer: from what the answer says it can be made again. Assumes nothing.
use Prim.Native.Nat.{ℕ, ◌+◌}
use mathlib.Core.Path.{◌≡◌, refl, ap}
use mathlib.Core.Option.{Option, none, some}
use mathlib.Core.List.{List}
use lib.Dec.{eqb}
use lib.IntN.{ℤ}
use Rattle.std.proofs.Common as std
use Rattle.std.specs.declared.num.TryFromIntError.{TryFromIntError}
use Rattle.std.proofs.Common.{Result, Ok, Err, Some, None}
use Rattle.primitives.specs.declared.Span as declared
use Rattle.numbers.specs.Pick.{pick}
use Rattle.numbers.specs.Single.{Single}
use Rattle.numbers.proofs.Single.{single_value, single_view}
use Rattle.primitives.specs.Reading.{Span}
use Rattle.primitives.specs.Step.{Step, ok, no}
use Rattle.records.specs.Judgement.{HeaderSpans, Head}
use Rattle.records.specs.Rows.{Tables}
use Rattle.asking.specs.declared.WriteFault.{WriteFault}
use Rattle.asking.specs.declared.AskedHeader.{AskedHeader}
use Rattle.asking.specs.declared.AskedRecord.{AskedRecord}
use Rattle.asking.specs.Answers.{write_number_of, span_of, header_of, head_of, view_answer}
use Rattle.asking.specs.Promises.{WriteNumberPromise, FromIntErrorPromise, HeaderAskedPromise, RecordAskedPromise}

pub single_write_number : (f : WriteFault) → Single (WriteNumberPromise f)
single_write_number f = single_value _

pub single_from_int_error : (e : TryFromIntError) → Single (FromIntErrorPromise e)
single_from_int_error e = single_value _

-- ---- a fault, made from its number

abbrev pub fault : ℕ → WriteFault
fault n =
    pick (eqb n 20) WriteFault.Codec
    (pick (eqb n 21) WriteFault.Row
    (pick (eqb n 22) WriteFault.KeyNotUtf8
    (pick (eqb n 23) WriteFault.TooLong
    (pick (eqb n 41) WriteFault.BareMarker WriteFault.ShortOutput))))

pub fault_again : (f : WriteFault) → fault (write_number_of f) ≡ f
fault_again WriteFault.Codec = refl
fault_again WriteFault.Row = refl
fault_again WriteFault.KeyNotUtf8 = refl
fault_again WriteFault.TooLong = refl
fault_again WriteFault.ShortOutput = refl
fault_again WriteFault.BareMarker = refl

-- ---- an answer, made from what it says

module _ {P A B : Type 0} (next : P) (value : A → B) (of : B → A) (again : (x : A) → of (value x) ≡ x) where
  abbrev back : Step P B → Result A WriteFault
  back (ok b p) = Ok (of b)
  back (no n) = Err (fault n)

  view_back : (r : Result A WriteFault) → back (view_answer next value r) ≡ r
  view_back (Ok x) = ap Ok (again x)
  view_back (Err f) = ap Err (fault_again f)

  pub single_answer : (x : Step P B) → Single (λ r. view_answer next value r ≡ x)
  single_answer = single_view (view_answer next value) back view_back

abbrev header : HeaderSpans → AskedHeader
header h =
    record {
      key = record { start = h.key.start; len = h.key.len };
      value = record { start = h.value.start; len = h.value.len };
    }

abbrev bytes : Option Span → std.Option declared.Span
bytes none = None
bytes (some x) = Some (record { start = x.start; len = x.len })

bytes_again : (x : std.Option declared.Span) → bytes (span_of x) ≡ x
bytes_again None = refl
bytes_again (Some x) = refl

abbrev row_of : Head → AskedRecord
row_of h =
    record {
      timestamp_delta = h.deltas.timestamp;
      offset_delta = h.deltas.offset;
      key = bytes h.key;
      value = bytes h.value;
      headers = h.count;
    }

row_again : (r : AskedRecord) → row_of (head_of r) ≡ r
row_again r = λ i. record {
  timestamp_delta = r.timestamp_delta;
  offset_delta = r.offset_delta;
  key = bytes_again r.key i;
  value = bytes_again r.value i;
  headers = r.headers;
}

-- ---- the promises

pub single_header_asked : (t : List ℤ) (s : List ℕ) (row : ℕ) → Single (HeaderAskedPromise t s row)
single_header_asked t s row = single_answer (row + 1) header_of header (λ h. refl) _

pub single_record_asked : (t : Tables) (s : List ℕ) (row first : ℕ) → Single (RecordAskedPromise t s row first)
single_record_asked t s row first = single_answer row head_of row_of row_again _

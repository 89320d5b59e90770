-- What is asked for, case by case: document 01's number of a fault, and the spans and numbers that a row gives.
use Rattle.std.specs.Prelude.{ℕ, Result, Ok, Err}
use Rattle.std.specs.Prelude as std
use Rattle.std.proofs.Math.Option.{Option}
use Rattle.primitives.specs.Step.{Step, ok, no}
use Rattle.primitives.specs.declared.Span as declared
use Rattle.primitives.specs.Reading.{Span}
use Rattle.primitives.specs.Answers.{view_nullable, span_as_read}
use Rattle.records.specs.Judgement.{HeaderSpans, Head}
use Rattle.asking.specs.declared.WriteFault.{WriteFault}
use Rattle.asking.specs.declared.AskedHeader.{AskedHeader}
use Rattle.asking.specs.declared.AskedRecord.{AskedRecord}

-- document 01, Writer's numbers, and C-24's 41
abbrev pub write_number_of : WriteFault → ℕ
write_number_of WriteFault.Codec = 20
write_number_of WriteFault.Row = 21
write_number_of WriteFault.KeyNotUtf8 = 22
write_number_of WriteFault.TooLong = 23
write_number_of WriteFault.ShortOutput = 24
write_number_of WriteFault.BareMarker = 41

-- what is asked for with the place after it, by what it says; or the number of the fault
abbrev pub view_answer : {P A B : Type 0} → P → (A → B) → Result A WriteFault → Step P B
view_answer next value (Ok x) = ok (value x) next
view_answer next value (Err f) = no (write_number_of f)

-- bytes of the source, or null
abbrev pub span_of : std.Option declared.Span → Option Span
span_of = view_nullable span_as_read

abbrev pub header_of : AskedHeader → HeaderSpans
header_of h = record { key = span_as_read h.key; value = span_as_read h.value }

-- a record's headers have rows of their own
abbrev pub head_of : AskedRecord → Head
head_of r =
    record {
      deltas = record { timestamp = r.timestamp_delta; offset = r.offset_delta };
      key = span_of r.key;
      value = span_of r.value;
      count = r.headers;
    }

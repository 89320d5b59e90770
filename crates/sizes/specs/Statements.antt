-- The laws of sizes, each in words and then as a statement: they are the lengths of what is written. What proves each
-- stands in proofs/ under the statement's name in small letters: `record_sized : RecordSized`.
use Rattle.std.specs.Prelude.{ℕ, ◌≤◌, ◌≡◌, Bool, List, map, ℤ, length}
use Rattle.std.proofs.Math.Option.{Option}
use Rattle.numbers.specs.Format.{shortest}
use Rattle.primitives.specs.Reading.{Span, shown}
use Rattle.records.specs.Format.{Record, FieldsBytes}
use Rattle.records.specs.Inside.{NullableInside}
use Rattle.records.specs.Judgement.{HeaderSpans, RecordSpans}
use Rattle.records.specs.Placed.{placed_fields, shown_header, shown_record, shown_records}
use Rattle.records.specs.Statements.{Each}
use Rattle.records.specs.Written.{written_bytes, written_nullable, written_header, written_headers, written_fields, written_record, written_records}
use Rattle.sizes.specs.Inside.{HeaderInside, RecordInside}
use Rattle.sizes.specs.Sizes.{span_size, place_size, length_in, header_size, headers_size, fields_size, record_size, records_size}

-- The shortest bytes of a number are at most ten.
abbrev pub NumberSmall : Type 0
NumberSmall = (n : ℤ) → length (shortest n) ≤ 10

-- Bytes are written after their length.
abbrev pub BytesSized : Type 0
BytesSized = (v : List ℕ) → length (written_bytes v) ≡ span_size (length v)

-- What spans inside a source show is written in as many bytes as their lengths say: of a key or a value, a header,
-- headers, what follows a record's length, a record, and records.
abbrev pub NullableSized : Type 0
NullableSized = (s : List ℕ) (x : Option Span) → NullableInside s x → length (written_nullable (shown s x)) ≡ place_size (length_in x)

abbrev pub HeaderSized : Type 0
HeaderSized = (s : List ℕ) (h : HeaderSpans) → HeaderInside s h → length (written_header (shown_header s h)) ≡ header_size h

abbrev pub HeadersSized : Type 0
HeadersSized =
    (s : List ℕ) (hs : List HeaderSpans) → Each (HeaderInside s) hs → length (written_headers (map (shown_header s) hs)) ≡ headers_size hs

abbrev pub FieldsSized : Type 0
FieldsSized = (s : List ℕ) (r : RecordSpans) → RecordInside s r → length (written_fields (shown_record s r)) ≡ fields_size r

abbrev pub RecordSized : Type 0
RecordSized = (s : List ℕ) (r : RecordSpans) → RecordInside s r → length (written_record (shown_record s r)) ≡ record_size r

abbrev pub RecordsSized : Type 0
RecordsSized =
    (s : List ℕ) (rs : List RecordSpans) → Each (RecordInside s) rs → length (written_records (shown_records s rs)) ≡ records_size rs

-- The parts of an encoding, wherever it stands, have the size of what is written for its record.
abbrev pub PlacedSized : Type 0
PlacedSized =
    (strict : Bool) (bs : List ℕ) (r : Record) (p : ℕ) (g : FieldsBytes strict bs r) → fields_size (placed_fields p g) ≡ length (written_fields r)

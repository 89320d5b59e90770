-- What each public function promises of its result, for every input. Lent bytes are lent to be read: no function here
-- can change them.
use Rattle.std.specs.Prelude.{ℕ, ◌≡◌, ◌^◌, List, [], ◌∷◌, pos, negsuc, Option, Some, None, Result}
use Rattle.primitives.specs.declared.Cursor.{Cursor}
use Rattle.primitives.specs.declared.Fault.{Fault}
use Rattle.primitives.specs.declared.Span.{Span}
use Rattle.primitives.specs.Step.{map_step}
use Rattle.primitives.specs.Reading.{signed_by}
use Rattle.primitives.specs.Answers.{number_of, view_read}
use Rattle.records.specs.declared.RecordFault.{RecordFault}
use Rattle.records.specs.declared.Place.{Place}
use Rattle.records.specs.declared.RecordHeader.{RecordHeader}
use Rattle.records.specs.declared.Record.{Record}
use Rattle.records.specs.Judgement.{count_at, header_at, head_at}
use Rattle.records.specs.Rows.{header_row}
use Rattle.records.specs.Answers.{record_number_of, place_row, view_header, heading_of, view_record}

-- RecordFault::number
abbrev pub RecordNumberPromise : RecordFault → ℕ → Type 0
RecordNumberPromise f r = r ≡ record_number_of f

-- RecordFault::from a fault of a field
abbrev pub FromFaultPromise : Fault → RecordFault → Type 0
FromFaultPromise f r = r ≡ RecordFault.Field f

-- Place::from a span: both numbers, and where 64 signed bits do not hold one, what its bits are in two's complement
abbrev pub FromSpanPromise : Span → Place → Type 0
FromSpanPromise x y = place_row y ≡ signed_by (2 ^ 63) x.start ∷ signed_by (2 ^ 63) x.len ∷ []

-- Place::from a span that may be null: start 0, length -1 for null
abbrev pub FromNullablePromise : Option Span → Place → Type 0
FromNullablePromise (Some x) y = FromSpanPromise x y
FromNullablePromise None y = place_row y ≡ pos 0 ∷ negsuc 0 ∷ []

-- read_count, on bytes s and a cursor at a place
abbrev pub ReadCountPromise : List ℕ → ℕ → Result (ℕ × Cursor) Fault → Type 0
ReadCountPromise s at r = view_read number_of (λ n. n) r ≡ count_at s at

-- RecordHeader::read
abbrev pub ReadHeaderPromise : List ℕ → ℕ → Result (RecordHeader × Cursor) RecordFault → Type 0
ReadHeaderPromise s at r = view_read record_number_of view_header r ≡ map_step header_row (header_at s at)

-- Record::read
abbrev pub ReadRecordPromise : List ℕ → ℕ → Result (Record × Cursor) Fault → Type 0
ReadRecordPromise s at r = view_read number_of view_record r ≡ map_step heading_of (head_at s at)

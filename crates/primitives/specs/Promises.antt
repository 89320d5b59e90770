-- What each public function promises of its result, for every input. Lent bytes are lent to be read: no function can
-- change them, so the outcome is the result alone.
use Rattle.std.specs.Prelude.{◌≡◌, ℕ, Bool, List, Option, Result}
use Rattle.numbers.specs.declared.Int8.{Int8}
use Rattle.numbers.specs.declared.Int16.{Int16}
use Rattle.numbers.specs.declared.Int32.{Int32}
use Rattle.numbers.specs.declared.Int64.{Int64}
use Rattle.numbers.specs.declared.Uint32.{Uint32}
use Rattle.numbers.specs.declared.Uint64.{Uint64}
use Rattle.numbers.specs.declared.Varint.{Varint}
use Rattle.numbers.specs.declared.Varlong.{Varlong}
use Rattle.primitives.specs.declared.Cursor.{Cursor}
use Rattle.primitives.specs.declared.Fault.{Fault}
use Rattle.primitives.specs.declared.Span.{Span}
use Rattle.primitives.specs.Reading.{unsigned_at, integer_at, varint_at, length_at, span_at}
use Rattle.primitives.specs.Answers.{number_of, view_read, view_nullable, span_as_read}

-- Fault::number
abbrev pub NumberPromise : Fault → ℕ → Type 0
NumberPromise f r = r ≡ number_of f

-- Cursor::read_int8 and the others, on bytes s and a cursor at a place
abbrev pub ReadInt8Promise : List ℕ → ℕ → Result (Int8 × Cursor) Fault → Type 0
ReadInt8Promise s at r = view_read number_of (λ (v : Int8). v.0) r ≡ integer_at 1 s at

abbrev pub ReadInt16Promise : List ℕ → ℕ → Result (Int16 × Cursor) Fault → Type 0
ReadInt16Promise s at r = view_read number_of (λ (v : Int16). v.0) r ≡ integer_at 2 s at

abbrev pub ReadInt32Promise : List ℕ → ℕ → Result (Int32 × Cursor) Fault → Type 0
ReadInt32Promise s at r = view_read number_of (λ (v : Int32). v.0) r ≡ integer_at 4 s at

abbrev pub ReadInt64Promise : List ℕ → ℕ → Result (Int64 × Cursor) Fault → Type 0
ReadInt64Promise s at r = view_read number_of (λ (v : Int64). v.0) r ≡ integer_at 8 s at

abbrev pub ReadUint32Promise : List ℕ → ℕ → Result (Uint32 × Cursor) Fault → Type 0
ReadUint32Promise s at r = view_read number_of (λ (v : Uint32). v.0) r ≡ unsigned_at 4 s at

abbrev pub ReadUint64Promise : List ℕ → ℕ → Result (Uint64 × Cursor) Fault → Type 0
ReadUint64Promise s at r = view_read number_of (λ (v : Uint64). v.0) r ≡ unsigned_at 8 s at

abbrev pub ReadVarintPromise : List ℕ → ℕ → Result (Varint × Cursor) Fault → Type 0
ReadVarintPromise s at r = view_read number_of (λ (v : Varint). v.0) r ≡ varint_at 32 s at

abbrev pub ReadVarlongPromise : List ℕ → ℕ → Result (Varlong × Cursor) Fault → Type 0
ReadVarlongPromise s at r = view_read number_of (λ (v : Varlong). v.0) r ≡ varint_at 64 s at

abbrev pub ReadLengthPromise : Bool → List ℕ → ℕ → Result (Option ℕ × Cursor) Fault → Type 0
ReadLengthPromise nullable s at r = view_read number_of (view_nullable (λ n. n)) r ≡ length_at nullable s at

abbrev pub ReadSpanPromise : Bool → List ℕ → ℕ → Result (Option Span × Cursor) Fault → Type 0
ReadSpanPromise nullable s at r = view_read number_of (view_nullable span_as_read) r ≡ span_at nullable s at

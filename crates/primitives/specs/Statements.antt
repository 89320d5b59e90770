-- The laws of the primitive layer, each in words and then as a statement. What proves each stands in proofs/ under the
-- statement's name in small letters: `zigzag_back : ZigzagBack`.
use Rattle.std.specs.Prelude.{◌≡◌, ℕ, ◌-◌, ◌<◌, ◌≤◌, Bool, false, List, [], ◌++◌, length, ℤ}
use Rattle.std.proofs.Math.Option.{Option, none, some}
use Rattle.numbers.specs.Bytes.{Bytes}
use Rattle.numbers.specs.Exactly.{Exactly}
use Rattle.numbers.specs.Format.{Unsigned, Integer, zigzag, Varies, Nullable}
use Rattle.primitives.specs.Step.{ok, no}
use Rattle.primitives.specs.Stands.{Stands, Encoding}
use Rattle.primitives.specs.Reading.{unsigned_at, integer_at, unzigzag, varint_at, length_at, Span, span_at, shown}
use Rattle.primitives.specs.Faults.{IntegerWrong, NumberWrong, LengthWrong, BytesWrong}
use Rattle.primitives.specs.Shifted.{moved_nullable, same, Shifted}

-- ---- integers, over the number of bytes

-- What is read as an unsigned integer of n bytes is one, and stands there.
abbrev pub UnsignedSound : Type 0
UnsignedSound = (n : ℕ) (s : List ℕ) (p v q : ℕ) → Bytes s → unsigned_at n s p ≡ ok v q → Encoding (Unsigned n) s p q v

-- An unsigned integer of n bytes that stands at any place of any list is read back, up to its end.
abbrev pub UnsignedComplete : Type 0
UnsignedComplete =
    (n : ℕ) (s : List ℕ) (p q : ℕ) (bs : List ℕ) (v : ℕ) → Stands s p q bs → Unsigned n bs v → unsigned_at n s p ≡ ok v q

-- The same of signed integers.
abbrev pub IntegerSound : Type 0
IntegerSound =
    (n : ℕ) (s : List ℕ) (p : ℕ) (z : ℤ) (q : ℕ) → 0 < n → Bytes s → integer_at n s p ≡ ok z q → Encoding (Integer n) s p q z

abbrev pub IntegerComplete : Type 0
IntegerComplete =
    (n : ℕ) (s : List ℕ) (p q : ℕ) (bs : List ℕ) (z : ℤ) → 0 < n → Stands s p q bs → Integer n bs z → integer_at n s p ≡ ok z q

-- ---- the zigzag

-- A number's code gives the number back, and a code's number gives the code back.
abbrev pub ZigzagBack : Type 0
ZigzagBack = (n : ℤ) → unzigzag (zigzag n) ≡ n

abbrev pub ZigzagAgain : Type 0
ZigzagAgain = (c : ℕ) → zigzag (unzigzag c) ≡ c

-- ---- numbers of varying length, over the width

-- What is read as a number of w bits is an encoding of it, and stands there.
abbrev pub VarintSound : Type 0
VarintSound =
    (w : ℕ) (s : List ℕ) (p : ℕ) (n : ℤ) (q : ℕ) → 0 < w → Bytes s → varint_at w s p ≡ ok n q → Encoding (Varies w false) s p q n

-- An encoding that stands at any place of any list is read back, up to its end.
abbrev pub VarintComplete : Type 0
VarintComplete =
    (w : ℕ) (strict : Bool) (s : List ℕ) (p q : ℕ) (bs : List ℕ) (n : ℤ) → 0 < w → Stands s p q bs → Varies w strict bs n
    → varint_at w s p ≡ ok n q

-- An encoding is no proper beginning of another, and two numbers do not share one.
abbrev pub VarintUnambiguous : Type 0
VarintUnambiguous =
    (w : ℕ) (strict strict' : Bool) (bs rest : List ℕ) (m n : ℤ) → 0 < w → Varies w strict bs m → Varies w strict' (bs ++ rest) n
    → (rest ≡ []) × (m ≡ n)

-- ---- bytes that follow their length

-- the span of v where it ends at the place q
abbrev pub ending_at : ℕ → Option (List ℕ) → Option Span
ending_at q none = none
ending_at q (some v) = some (record { start = q - length v; len = length v })

-- What is read is an encoding, stands there, and is shown by the span, which ends where the reading ends: it starts
-- just after its length.
abbrev pub SpanSound : Type 0
SpanSound =
    (nullable : Bool) (s : List ℕ) (p : ℕ) (x : Option Span) (q : ℕ) → Bytes s → span_at nullable s p ≡ ok x q
    → Encoding (Nullable nullable false) s p q (shown s x) × (x ≡ ending_at q (shown s x))

-- An encoding that stands at any place of any list is read back, up to its end, and the span shows its bytes.
abbrev pub SpanComplete : Type 0
SpanComplete =
    (nullable strict : Bool) (s : List ℕ) (p q : ℕ) (bs : List ℕ) (v : Option (List ℕ)) → Stands s p q bs → Nullable nullable strict bs v
    → (span_at nullable s p ≡ ok (ending_at q v) q) × (shown s (ending_at q v) ≡ v)

-- ---- something in front

-- A list with something in front moves starts and places, and nothing else: integers, numbers of varying length, and
-- bytes that follow their length.
abbrev pub IntegerShifted : Type 0
IntegerShifted = (n : ℕ) → Shifted same (integer_at n)

abbrev pub VarintShifted : Type 0
VarintShifted = (w : ℕ) → Shifted same (varint_at w)

abbrev pub SpanShifted : Type 0
SpanShifted = (nullable : Bool) → Shifted moved_nullable (span_at nullable)

-- ---- first faults

-- What is refused is refused by the number of its first fault, and wherever there is one: of an integer of k bytes, a
-- number of w bits, a length, and bytes that follow their length.
abbrev pub IntegerFaults : Type 0
IntegerFaults = (k : ℕ) (s : List ℕ) (p n : ℕ) → Exactly (integer_at k s p ≡ no n) (IntegerWrong k s p n)

abbrev pub NumberFaults : Type 0
NumberFaults =
    (w : ℕ) (s : List ℕ) (p n : ℕ) → 0 < w → Bytes s → p ≤ length s → Exactly (varint_at w s p ≡ no n) (NumberWrong w s p n)

abbrev pub LengthFaults : Type 0
LengthFaults =
    (nullable : Bool) (s : List ℕ) (p n : ℕ) → Bytes s → p ≤ length s
    → Exactly (length_at nullable s p ≡ no n) (LengthWrong nullable s p n)

abbrev pub BytesFaults : Type 0
BytesFaults =
    (nullable : Bool) (s : List ℕ) (p n : ℕ) → Bytes s → p ≤ length s → Exactly (span_at nullable s p ≡ no n) (BytesWrong nullable s p n)

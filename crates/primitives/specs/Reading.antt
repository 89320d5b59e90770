-- Reading, as functions of a list of bytes and a place in it, in document 01's order and with its numbers: 8 where a
-- field runs past the end, 9 where a number is beyond its limits, 10 where a length is negative. The end of the list is
-- the limit of every field. A place past the end is no fault of its own: a field there runs past.
use Rattle.std.specs.Prelude.{ℕ, zero, suc, ◌+◌, ◌-◌, ◌*◌, ◌/◌, ◌%◌, ◌^◌, Bool, List, length, take, drop, ℤ, pos, negsuc, ◌==◌, nat_le, nat_lt, slice_index}
use Rattle.std.proofs.Math.Option.{Option, none, some}
use Rattle.numbers.specs.Pick.{pick}
use Rattle.primitives.specs.Step.{Step, ok, no, and_then, map_step}

-- A signed number is `pos n`, which is n, or `negsuc k`, which is -(k + 1).

-- Kafka, message format; document 01, Fixed fields: n bytes from a place on as one number, the highest byte first
unfoldable pub big : ℕ → List ℕ → ℕ → ℕ
big zero s at = 0
big (suc k) s at = 256 * big k s at + slice_index s (at + k)

-- an unsigned integer of n bytes
unfoldable pub unsigned_at : ℕ → List ℕ → ℕ → Step ℕ ℕ
unsigned_at n s at = pick (nat_le (at + n) (length s)) (ok (big n s at) (at + n)) (no 8)

-- two's complement, by half of what the width holds: the upper half are the negative numbers
unfoldable pub signed_by : ℕ → ℕ → ℤ
signed_by half v = pick (nat_lt v half) (pos v) (negsuc (2 * half - suc v))

-- a signed integer of n bytes
unfoldable pub integer_at : ℕ → List ℕ → ℕ → Step ℕ ℤ
integer_at n s at = map_step (signed_by (2 ^ (8 * n - 1))) (unsigned_at n s at)

-- a single byte
unfoldable pub byte_at : List ℕ → ℕ → Step ℕ ℕ
byte_at s at = pick (nat_lt at (length s)) (ok (slice_index s at) (at + 1)) (no 8)

-- Kafka, message format, varint and varlong; document 01, Numbers of varying length:
-- seven bits a byte, lowest first, of at most k bytes with the top bit set and a last one below the limit
unfoldable pub code_at : ℕ → ℕ → List ℕ → ℕ → Step ℕ ℕ
code_at zero limit s at = and_then (byte_at s at) (λ b p. pick (nat_lt b limit) (ok b p) (no 9))
code_at (suc k) limit s at =
    and_then (byte_at s at) (λ b p. pick (nat_lt b 128) (ok b p) (map_step (λ c. b - 128 + 128 * c) (code_at k limit s p)))

-- an even code c is c / 2, an odd one is -(c / 2 + 1)
unfoldable pub unzigzag : ℕ → ℤ
unzigzag c = pick (c % 2 == 0) (pos (c / 2)) (negsuc (c / 2))

-- the limits of a number of w bits: 4 full bytes and a last one below 16 of 32 bits, 9 and 2 of 64
abbrev pub full : ℕ → ℕ
full w = (w - 1) / 7

abbrev pub limit : ℕ → ℕ
limit w = 2 ^ (w - 7 * full w)

-- a number of w bits: a Varint where w is 32, a Varlong where it is 64
unfoldable pub varint_at : ℕ → List ℕ → ℕ → Step ℕ ℤ
varint_at w s at = map_step unzigzag (code_at (full w) (limit w) s at)

-- document 01, A record, and Reader's numbers, 10: a length, or none for the null that -1 means where null is allowed
abbrev pub length_of : Bool → ℤ → ℕ → Step ℕ (Option ℕ)
length_of nullable (pos n) p = ok (some n) p
length_of nullable (negsuc zero) p = pick nullable (ok none p) (no 10)
length_of nullable (negsuc (suc k)) p = no 10

unfoldable pub length_at : Bool → List ℕ → ℕ → Step ℕ (Option ℕ)
length_at nullable s at = and_then (varint_at 32 s at) (length_of nullable)

-- document 01, Tables: where bytes start, counted from the first of the list, and how many they are
pub record Span : Type 0 where
  pub start : ℕ
  pub len : ℕ

-- bytes that follow their length: they start just after it, and a negative length is met before missing bytes
abbrev pub span_of : List ℕ → Option ℕ → ℕ → Step ℕ (Option Span)
span_of s none p = ok none p
span_of s (some n) p = pick (nat_le (p + n) (length s)) (ok (some (record { start = p; len = n })) (p + n)) (no 8)

unfoldable pub span_at : Bool → List ℕ → ℕ → Step ℕ (Option Span)
span_at nullable s at = and_then (length_at nullable s at) (span_of s)

-- the bytes that a span shows
abbrev pub bytes_of : List ℕ → Span → List ℕ
bytes_of s x = take x.len (drop x.start s)

abbrev pub shown : List ℕ → Option Span → Option (List ℕ)
shown s none = none
shown s (some x) = some (bytes_of s x)

-- What is written is of the grammar: its numbers are in their shortest bytes, and each length is held by a Varint since
-- the length of the whole is. Assumes nothing.
use Prim.Native.Nat.{ℕ, ◌+◌, ◌^◌, ◌<◌}
use mathlib.Core.Path.{◌≡◌, refl}
use mathlib.Core.Bool.{Bool, true, false}
use mathlib.Core.Option.{Option, none, some}
use mathlib.Core.List.{List, [], ◌∷◌}
use native.Mathlib.Omega.{arith}
use lib.IntN.{pos, negsuc}
use lib.ListN.{length, length-append}
use Rattle.numbers.specs.Format.{big_endian, Integer, shortest, Sized, Nullable}
use Rattle.numbers.proofs.Shortest.{shortest_encodes}
use Rattle.utf8.specs.Grammar.{Octets}
use Rattle.records.specs.Format.{Header, Record, Run, HeaderBytes, Unused, FieldsBytes}
use Rattle.records.specs.Written.{written_bytes, written_nullable, written_header, written_headers, written_fields, written_records}
use Rattle.records.specs.Statements.{Each, Writable, RecordEncodes, RunEncodes}
use Rattle.records.proofs.Sizes.{run_least, header_least}

-- ---- bytes after their length

pub written_length : (v : List ℕ) → length (written_bytes v) ≡ length (shortest (pos (length v))) + length v
unfolding written_bytes
written_length v = length-append (shortest (pos (length v))) v

sized_encodes : (strict : Bool) (v : List ℕ) → length v < 2 ^ 31 → Sized strict (written_bytes v) v
unfolding written_bytes
sized_encodes strict v b =
    record { size = shortest (pos (length v)); is = refl; sizes = shortest_encodes 32 strict (pos (length v)) (omega arith) (omega arith) b }

-- as a part of what is no longer than a Varint can say
part_encodes : (strict : Bool) (v : List ℕ) → length (written_bytes v) < 2 ^ 31 → Sized strict (written_bytes v) v
part_encodes strict v b = sized_encodes strict v (omega (arith, written_length v))

nullable_encodes : (strict : Bool) (v : Option (List ℕ)) → length (written_nullable v) < 2 ^ 31 → Nullable true strict (written_nullable v) v
nullable_encodes strict none b = (refl, shortest_encodes 32 strict (negsuc 0) (omega arith) (omega arith) (omega arith))
nullable_encodes strict (some v) b = part_encodes strict v b

-- ---- headers

header_encodes : (strict : Bool) (h : Header) → Octets h.key → length (written_header h) < 2 ^ 31 → HeaderBytes strict (written_header h) h
header_encodes strict h o b =
    let parts = length-append (written_bytes h.key) (written_bytes h.value) in
    record {
      key = written_bytes h.key;
      value = written_bytes h.value;
      is = refl;
      keyed = part_encodes strict h.key (omega arith);
      utf8 = o;
      valued = part_encodes strict h.value (omega arith);
    }

headers_encode : (strict : Bool) (hs : List Header) → Each (λ (h : Header). Octets h.key) hs → length (written_headers hs) < 2 ^ 31
    → Run (HeaderBytes strict) (written_headers hs) hs
unfolding written_headers Each
headers_encode strict [] keys b = Run.ended
headers_encode strict (h ∷ rest) (key, keys) b =
    let parts = length-append (written_header h) (written_headers rest) in
    Run.more (header_encodes strict h key (omega arith)) (headers_encode strict rest keys (omega arith))

-- ---- records

no_attributes : Integer 1 (0 ∷ []) (pos 0)
unfolding big_endian
no_attributes = record { is = refl; fits = omega arith }

none_used : (strict : Bool) → Unused strict (pos 0)
none_used true = refl
none_used false = tt

fields_encode : (strict : Bool) (r : Record) → Writable r → FieldsBytes strict (written_fields r) r
unfolding written_fields
fields_encode strict r w =
    let parts = simp length-append at w.size in
    let headed = headers_encode strict r.headers w.keys (omega arith) in
    record {
      attributes = 0 ∷ [];
      timestamp_delta = shortest r.timestamp_delta;
      offset_delta = shortest r.offset_delta;
      key = written_nullable r.key;
      value = written_nullable r.value;
      count = shortest (pos (length r.headers));
      headers = written_headers r.headers;
      is = refl;
      attribute = pos 0;
      attributed = no_attributes;
      unused = none_used strict;
      timestamped = shortest_encodes 64 strict r.timestamp_delta (omega arith) (omega arith) w.timestamp;
      offset = shortest_encodes 32 strict r.offset_delta (omega arith) (omega arith) w.offset;
      keyed = nullable_encodes strict r.key (omega arith);
      valued = nullable_encodes strict r.value (omega arith);
      counted =
          shortest_encodes 32 strict (pos (length r.headers)) (omega arith) (omega arith)
          (omega (arith, run_least 2 (header_least strict) headed));
      headed = headed;
    }

pub record_encodes : RecordEncodes
record_encodes strict r w =
    record { fields = written_fields r; sized = sized_encodes strict (written_fields r) w.size; holds = fields_encode strict r w }

pub run_encodes : RunEncodes
unfolding written_records Each
run_encodes strict [] each = Run.ended
run_encodes strict (r ∷ rest) (w, each) = Run.more (record_encodes strict r w) (run_encodes strict rest each)

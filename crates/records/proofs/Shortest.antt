-- Of all encodings what is written is the shortest, since each number is in its shortest bytes and a record that is
-- shorter has no greater length to say. Where a whole is as short as what is written each of its parts is: so its
-- numbers are in their shortest bytes too. Assumes nothing.
use Prim.Native.Nat.{ℕ, ◌+◌, ◌≤◌}
use mathlib.Core.Path.{◌≡◌, refl, ap, ◌∙◌}
use mathlib.Core.Bool.{Bool, true}
use mathlib.Core.Option.{Option, none, some}
use mathlib.Core.List.{List, ◌++◌}
use native.Mathlib.Omega.{arith}
use lib.IntN.{ℤ, pos}
use lib.ListN.{length, length-append}
use Rattle.numbers.specs.Format.{shortest, Varies, Sized, Nullable}
use Rattle.numbers.proofs.Integers.{integer_length}
use Rattle.numbers.proofs.Shortest.{shortest_within, shortest_least, shortest_only}
use Rattle.records.specs.Format.{Header, Record, Run, HeaderBytes, FieldsBytes}
use Rattle.records.specs.Written.{written_bytes, written_nullable, written_header, written_headers, written_fields, written_record, written_records}
use Rattle.records.specs.Statements.{RecordShortest, RunShortest, RecordTight}
use Rattle.records.proofs.Encodes.{written_length}

-- ---- numbers

varies_tight : {w : ℕ} {strict : Bool} {bs : List ℕ} {n : ℤ} → Varies w strict bs n → length bs ≡ length (shortest n) → Varies w true bs n
varies_tight {w} {strict} {bs} {n} g e =
    record {
      more = g.more;
      is = g.is;
      whole = g.whole;
      short = g.short;
      fits = g.fits;
      tight = shortest_only w strict bs n g e;
    }

-- ---- bytes after their length, beside those of bytes that are no longer

module _ {strict : Bool} {bs v : List ℕ} (u : List ℕ) (g : Sized strict bs v) (h : length u ≤ length v) where
  sized_length : length bs ≡ length g.size + length v
  sized_length = ap length g.is ∙ length-append g.size v

  size_within : length (shortest (pos (length u))) ≤ length g.size
  size_within = shortest_within (pos (length u)) (pos (length v)) g.sizes (omega arith)

  sized_within : length (written_bytes u) ≤ length bs
  sized_within = omega (arith, sized_length, size_within, written_length u)

  module _ (e : length bs ≡ length (written_bytes u)) where
    as_long : length v ≡ length u
    as_long = omega (arith, sized_length, size_within, written_length u)

    sized_tight : Sized true bs v
    sized_tight =
        record {
          size = g.size;
          is = g.is;
          sizes = varies_tight g.sizes (rw as_long (omega (arith, sized_length, size_within, written_length u)));
        }

nullable_shortest : (strict : Bool) (bs : List ℕ) (v : Option (List ℕ)) → Nullable true strict bs v → length (written_nullable v) ≤ length bs
nullable_shortest strict bs none g = shortest_least 32 strict bs _ g.1
nullable_shortest strict bs (some v) g = sized_within v g (omega arith)

nullable_tight : (strict : Bool) (bs : List ℕ) (v : Option (List ℕ)) → Nullable true strict bs v → length bs ≡ length (written_nullable v)
    → Nullable true true bs v
nullable_tight strict bs none g e = (refl, varies_tight g.1 e)
nullable_tight strict bs (some v) g e = sized_tight v g (omega arith) e

-- ---- two after each other, beside two that are no longer

module _ (x y u v : List ℕ) (a : length u ≤ length x) (b : length v ≤ length y) where
  both_within : length (u ++ v) ≤ length (x ++ y)
  both_within = simp length-append (omega arith)

  both_as_long : length (x ++ y) ≡ length (u ++ v) → (length x ≡ length u) × (length y ≡ length v)
  both_as_long e = let sums = simp length-append at e in (omega arith, omega arith)

-- ---- headers

module _ {strict : Bool} {bs : List ℕ} {h : Header} (g : HeaderBytes strict bs h) where
  key_within : length (written_bytes h.key) ≤ length g.key
  key_within = sized_within h.key g.keyed (omega arith)

  value_within : length (written_bytes h.value) ≤ length g.value
  value_within = sized_within h.value g.valued (omega arith)

  header_shortest : length (written_header h) ≤ length bs
  header_shortest = rw g.is (both_within g.key g.value (written_bytes h.key) (written_bytes h.value) key_within value_within)

  header_tight : length bs ≡ length (written_header h) → HeaderBytes true bs h
  header_tight e =
      let same = both_as_long g.key g.value (written_bytes h.key) (written_bytes h.value) key_within value_within (rw g.is at e) in
      record {
        key = g.key;
        value = g.value;
        is = g.is;
        keyed = sized_tight h.key g.keyed (omega arith) same.0;
        utf8 = g.utf8;
        valued = sized_tight h.value g.valued (omega arith) same.1;
      }

headers_shortest : {strict : Bool} {bs : List ℕ} {hs : List Header} → Run (HeaderBytes strict) bs hs → length (written_headers hs) ≤ length bs
unfolding written_headers
headers_shortest Run.ended = omega arith
headers_shortest (Run.more {x} {y} {a} {rest} g others) =
    both_within x y (written_header a) (written_headers rest) (header_shortest g) (headers_shortest others)

headers_tight : {strict : Bool} {bs : List ℕ} {hs : List Header} → Run (HeaderBytes strict) bs hs → length bs ≡ length (written_headers hs)
    → Run (HeaderBytes true) bs hs
unfolding written_headers
headers_tight Run.ended e = Run.ended
headers_tight (Run.more {x} {y} {a} {rest} g others) e =
    let (first, second) = both_as_long x y (written_header a) (written_headers rest) (header_shortest g) (headers_shortest others) e in
    Run.more (header_tight g first) (headers_tight others second)

-- ---- fields

module _ {strict : Bool} {bs : List ℕ} {r : Record} (g : FieldsBytes strict bs r) where
  -- their bytes and what is written, part by part
  record FieldsParts : Type 0 where
    whole : length bs
        ≡ length g.attributes
        + (length g.timestamp_delta
        + (length g.offset_delta
        + (length g.key + (length g.value + (length g.count + length g.headers)))))
    written : length (written_fields r)
        ≡ 1
        + (length (shortest r.timestamp_delta)
        + (length (shortest r.offset_delta)
        + (length (written_nullable r.key)
        + (length (written_nullable r.value)
        + (length (shortest (pos (length r.headers))) + length (written_headers r.headers))))))
    attributes : length g.attributes ≡ 1
    timestamp_delta : length (shortest r.timestamp_delta) ≤ length g.timestamp_delta
    offset_delta : length (shortest r.offset_delta) ≤ length g.offset_delta
    key : length (written_nullable r.key) ≤ length g.key
    value : length (written_nullable r.value) ≤ length g.value
    count : length (shortest (pos (length r.headers))) ≤ length g.count
    headers : length (written_headers r.headers) ≤ length g.headers

  fields_parts : FieldsParts
  unfolding written_fields
  fields_parts =
      record {
        whole = ap length g.is ∙ simp length-append;
        written = simp length-append (omega arith);
        attributes = integer_length g.attributed;
        timestamp_delta = shortest_least 64 strict g.timestamp_delta r.timestamp_delta g.timestamped;
        offset_delta = shortest_least 32 strict g.offset_delta r.offset_delta g.offset;
        key = nullable_shortest strict g.key r.key g.keyed;
        value = nullable_shortest strict g.value r.value g.valued;
        count = shortest_least 32 strict g.count (pos (length r.headers)) g.counted;
        headers = headers_shortest g.headed;
      }

  pub fields_shortest : length (written_fields r) ≤ length bs
  fields_shortest = let parts = fields_parts in omega arith

  fields_tight : g.attribute ≡ pos 0 → length bs ≡ length (written_fields r) → FieldsBytes true bs r
  fields_tight unused e =
      let parts = fields_parts in
      record {
        attributes = g.attributes;
        timestamp_delta = g.timestamp_delta;
        offset_delta = g.offset_delta;
        key = g.key;
        value = g.value;
        count = g.count;
        headers = g.headers;
        is = g.is;
        attribute = g.attribute;
        attributed = g.attributed;
        unused = unused;
        timestamped = varies_tight g.timestamped (omega arith);
        offset = varies_tight g.offset (omega arith);
        keyed = nullable_tight strict g.key r.key g.keyed (omega arith);
        valued = nullable_tight strict g.value r.value g.valued (omega arith);
        counted = varies_tight g.counted (omega arith);
        headed = headers_tight g.headed (omega arith);
      }

-- ---- records

pub record_shortest : RecordShortest
record_shortest strict bs r g = sized_within (written_fields r) g.sized (fields_shortest g.holds)

pub run_shortest : RunShortest
unfolding written_records
run_shortest strict bs rs Run.ended = omega arith
run_shortest strict bs rs (Run.more {x} {y} {a} {rest} g others) =
    both_within x y (written_record a) (written_records rest) (record_shortest strict x a g) (run_shortest strict y rest others)

pub record_tight : RecordTight
record_tight bs r g unused e =
    let within = fields_shortest g.holds in
    record {
      fields = g.fields;
      sized = sized_tight (written_fields r) g.sized within e;
      holds = fields_tight g.holds unused (as_long (written_fields r) g.sized within e);
    }

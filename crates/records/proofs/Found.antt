-- Each step of the reading reads one part of the format, from the place where the part before it ends: so what was read
-- is an encoding that stands there, and its spans are where the parts stand. Assumes nothing.
use Prim.Native.Nat.{ℕ, zero, suc, ◌+◌, ◌≤◌}
use mathlib.Core.Path.{◌≡◌, refl, ap, ◌∙◌, subst, subst₂}
use mathlib.Core.Bool.{true, false}
use mathlib.Core.Option.{Option, none, some}
use mathlib.Core.List.{List, [], ◌∷◌, ◌++◌}
use native.Mathlib.Omega.{arith}
use borrow.Author.Tests.{eqb-true}
use lib.Dec.{eqb}
use lib.IntN.{ℤ}
use lib.ListN.{length, take}
use Rattle.numbers.specs.Bytes.{Bytes}
use Rattle.numbers.specs.Format.{Integer, Varies, Sized, Nullable}
use Rattle.primitives.specs.Step.{Step, ok, times}
use Rattle.primitives.specs.Stands.{Stands, Encoding}
use Rattle.primitives.specs.Reading.{integer_at, varint_at, length_at, Span, span_at, bytes_of, shown}
use Rattle.primitives.specs.Faults.{CountBytes}
use Rattle.primitives.specs.Statements.{ending_at}
use Rattle.primitives.proofs.Steps.{and_then_ok, map_ok, pick_ok}
use Rattle.primitives.proofs.Places.{nothing, joined}
use Rattle.primitives.proofs.Integers.{integer_sound}
use Rattle.primitives.proofs.Varints.{varint_sound}
use Rattle.primitives.proofs.Spans.{length_found, span_sound}
use Rattle.primitives.proofs.Windows.{outside, window_bytes}
use Rattle.utf8.specs.Grammar.{Octets}
use Rattle.utf8.specs.Judgement.{is_utf8}
use Rattle.utf8.proofs.Sequences.{utf8_sound}
use Rattle.records.proofs.Parts.{starts}
use Rattle.records.proofs.Presence.{present_ok}
use Rattle.records.specs.Format.{Run, HeaderBytes, FieldsBytes, RecordBytes}
use Rattle.records.specs.Judgement.{HeaderSpans, RecordSpans, count_at, bytes_at, key_at, header_at, Deltas, deltas_at, Head, head_at, with_headers, fields_at, record_at}
use Rattle.records.specs.Placed.{placed_bytes, placed_nullable, placed_header, placed_run, placed_fields, placed_record}

-- from p up to q of s stands an encoding by the grammar G, and x is where its parts stand
pub record Found {A R : Type 0} (G : List ℕ → A → Type 0) (place : (x : List ℕ) (a : A) → ℕ → G x a → R)
    (s : List ℕ) (p : ℕ) (x : R) (q : ℕ) : Type 0 where
  pub value : A
  pub bytes : List ℕ
  pub stands : Stands s p q bytes
  pub encodes : G bytes value
  pub placed : x ≡ place bytes value p encodes

-- ---- things of one kind, one after the other

module _ {A R : Type 0} (G : List ℕ → A → Type 0) (place : (x : List ℕ) (a : A) → ℕ → G x a → R) (s : List ℕ) where
  -- k of them
  abbrev FoundRun : ℕ → ℕ → List R → ℕ → Type 0
  FoundRun k p xs q = (w : Found (Run G) (λ x a at g. placed_run place at g) s p xs q) × (length w.value ≡ k)

  none_found : (p : ℕ) → p ≤ length s → FoundRun 0 p [] p
  unfolding placed_run
  none_found p h = (record { value = []; bytes = []; stands = nothing s p h; encodes = Run.ended; placed = refl }, refl)

  more_found : {k p m q : ℕ} {x : R} {xs : List R} → Found G place s p x m → FoundRun k m xs q → FoundRun (suc k) p (x ∷ xs) q
  unfolding placed_run
  more_found a (w, n) = (
    record {
      value = a.value ∷ w.value;
      bytes = a.bytes ++ w.bytes;
      stands = joined a.stands w.stands;
      encodes = Run.more a.encodes w.encodes;
      placed = cc;
    },
    ap suc n,
  )

module _ {A R : Type 0} {G : List ℕ → A → Type 0} {place : (x : List ℕ) (a : A) → ℕ → G x a → R} {s : List ℕ} (f : ℕ → Step ℕ R)
    (each : (p : ℕ) (x : R) (q : ℕ) → f p ≡ ok x q → Found G place s p x q) where
  pub times_found : (k p : ℕ) {xs : List R} {q : ℕ} → p ≤ length s → times f k p ≡ ok xs q → FoundRun G place s k p xs q
  unfolding times
  times_found zero p {xs} {q} h e =
      let v : [] ≡ xs = cc in
      let w : p ≡ q = cc in
      subst₂ (FoundRun G place s 0 p) v w (none_found G place s p h)
  times_found (suc k) p {q = q} h e =
      let (x, m, i, j) = and_then_ok (f p) _ e in
      let (rest, l, w) = map_ok _ (times f k m) j in
      let a = each p x m i in
      subst (λ (xs : List R). FoundRun G place s (suc k) p xs q) w (more_found G place s a (times_found k m a.stands.within l))

  -- what ends within the list begins within it
  pub times_within : (k p : ℕ) {xs : List R} {q : ℕ} → q ≤ length s → times f k p ≡ ok xs q → p ≤ length s
  unfolding times
  times_within zero p {q = q} h e = let w : p ≡ q = cc in rw w h
  times_within (suc k) p h e =
      let (x, m, i, _) = and_then_ok (f p) _ e in
      let a = each p x m i in
      omega (arith, a.stands.end, a.stands.within)

-- ---- lengths, and bytes that follow their length

ends_placed : {s : List ℕ} {p q : ℕ} {bs : List ℕ} (v : Option (List ℕ)) → Stands s p q bs → (g : Nullable true false bs v)
    → ending_at q v ≡ placed_nullable false bs v p g
ends_placed none x g = refl
ends_placed (some v) x g = rw (starts x g)

module _ (s : List ℕ) (b : Bytes s) where
  pub count_found : (p n q : ℕ) → count_at s p ≡ ok n q → Encoding CountBytes s p q n
  unfolding count_at
  count_found p n q e = length_found false s b p (present_ok (length_at false s p) e)

  nullable_found : (p : ℕ) {x : Option Span} {q : ℕ} → span_at true s p ≡ ok x q → Found (Nullable true false) (placed_nullable false) s p x q
  nullable_found p {x} {q} e =
      let (t, w) = span_sound true s p x q b e in
      record {
        value = shown s x;
        bytes = t.bytes;
        stands = t.stands;
        encodes = t.encodes;
        placed = w ∙ ends_placed (shown s x) t.stands t.encodes;
      }

  pub bytes_found : (p : ℕ) {x : Span} {q : ℕ} → bytes_at s p ≡ ok x q
      → (t : Encoding (Sized false) s p q (bytes_of s x)) × (x ≡ placed_bytes (bytes_of s x) p t.encodes)
  unfolding bytes_at
  bytes_found p {x} {q} e =
      let (t, w) = span_sound false s p (some x) q b (present_ok (span_at false s p) e) in
      (record { bytes = t.bytes; stands = t.stands; encodes = t.encodes }, cc (w, starts t.stands t.encodes))

-- ---- a header

abbrev FoundHeader : List ℕ → ℕ → HeaderSpans → ℕ → Type 0
FoundHeader = Found (HeaderBytes false) (λ x h at g. placed_header at g)

pub key_read : (s : List ℕ) (p : ℕ) {x : Span} {q : ℕ} → key_at s p ≡ ok x q → (bytes_at s p ≡ ok x q) × Octets (bytes_of s x)
unfolding key_at
key_read s p {x} e =
    let (y, m, i, j) = and_then_ok (bytes_at s p) _ e in
    let (t, v, w) = pick_ok (is_utf8 (bytes_of s y)) y m 11 j in
    (cc, utf8_sound (bytes_of s x) (rw v at t))

pub header_found : (s : List ℕ) → Bytes s → (p : ℕ) (h : HeaderSpans) (q : ℕ) → header_at s p ≡ ok h q → FoundHeader s p h q
unfolding header_at
header_found s b p h q e =
    let (k, m, i, j) = and_then_ok (key_at s p) _ e in
    let (v, l, w) = map_ok _ (bytes_at s m) j in
    let (read, utf8) = key_read s p i in
    let (key, k-placed) = bytes_found s b p read in
    let (value, v-placed) = bytes_found s b m l in
    record {
      value = record { key = bytes_of s k; value = bytes_of s v };
      bytes = key.bytes ++ value.bytes;
      stands = joined key.stands value.stands;
      encodes = record { key = key.bytes; value = value.bytes; is = refl; keyed = key.encodes; utf8 = utf8; valued = value.encodes };
      placed = cc;
    }

-- ---- the fields of a record

abbrev FoundFields : List ℕ → ℕ → RecordSpans → ℕ → Type 0
FoundFields = Found (FieldsBytes false) (λ x r at g. placed_fields at g)

-- what stands before the headers, part by part
record FoundDeltas (s : List ℕ) (p : ℕ) (d : Deltas) (q : ℕ) : Type 0 where
  timestamp_place : ℕ
  offset_place : ℕ
  attribute : ℤ
  attributes : Encoding (Integer 1) s p timestamp_place attribute
  timestamp : Encoding (Varies 64 false) s timestamp_place offset_place d.timestamp
  offset : Encoding (Varies 32 false) s offset_place q d.offset

record FoundHead (s : List ℕ) (p : ℕ) (h : Head) (q : ℕ) : Type 0 where
  key_place : ℕ
  value_place : ℕ
  count_place : ℕ
  deltas : FoundDeltas s p h.deltas key_place
  key : Found (Nullable true false) (placed_nullable false) s key_place h.key value_place
  value : Found (Nullable true false) (placed_nullable false) s value_place h.value count_place
  count : Encoding CountBytes s count_place q h.count

with_headers_lem : {s : List ℕ} {p m q : ℕ} {h : Head} {hs : List HeaderSpans} → FoundHead s p h m
    → FoundRun (HeaderBytes false) (λ x h at g. placed_header at g) s h.count m hs q → FoundFields s p (with_headers h hs) q
with_headers_lem {h = h} a (w, n) =
    let d = a.deltas in
    let attributes = d.attributes in
    let timestamp = d.timestamp in
    let offset = d.offset in
    let key = a.key in
    let value = a.value in
    let count = a.count in
    record {
      value =
          record {
            timestamp_delta = h.deltas.timestamp;
            offset_delta = h.deltas.offset;
            key = key.value;
            value = value.value;
            headers = w.value;
          };
      bytes = attributes.bytes ++ (timestamp.bytes ++ (offset.bytes ++ (key.bytes ++ (value.bytes ++ (count.bytes ++ w.bytes)))));
      stands =
          joined attributes.stands (joined timestamp.stands (joined offset.stands (joined key.stands (joined value.stands
          (joined count.stands w.stands)))));
      encodes =
          record {
            attributes = attributes.bytes;
            timestamp_delta = timestamp.bytes;
            offset_delta = offset.bytes;
            key = key.bytes;
            value = value.bytes;
            count = count.bytes;
            headers = w.bytes;
            is = refl;
            attribute = d.attribute;
            attributed = attributes.encodes;
            unused = tt;
            timestamped = timestamp.encodes;
            offset = offset.encodes;
            keyed = key.encodes;
            valued = value.encodes;
            counted = rw n count.encodes;
            headed = w.encodes;
          };
      placed = cc;
    }

module _ (s : List ℕ) (b : Bytes s) where
  deltas_found : (p : ℕ) {d : Deltas} {q : ℕ} → deltas_at s p ≡ ok d q → FoundDeltas s p d q
  unfolding deltas_at
  deltas_found p {q = q} e =
      let (a, m, i, j) = and_then_ok (integer_at 1 s p) _ e in
      let (t, n, k, l) = and_then_ok (varint_at 64 s m) _ j in
      let (o, u, w) = map_ok _ (varint_at 32 s n) l in
      rw (← w)
      (record {
        timestamp_place = m;
        offset_place = n;
        attribute = a;
        attributes = integer_sound 1 s p a m (omega arith) b i;
        timestamp = varint_sound 64 s m t n (omega arith) b k;
        offset = varint_sound 32 s n o q (omega arith) b u;
      })

  head_found : (p : ℕ) {h : Head} {q : ℕ} → head_at s p ≡ ok h q → FoundHead s p h q
  unfolding head_at
  head_found p {q = q} e =
      let (d, m, i, j) = and_then_ok (deltas_at s p) _ e in
      let (k, n, i', j') = and_then_ok (span_at true s m) _ j in
      let (v, r, i'', j'') = and_then_ok (span_at true s n) _ j' in
      let (c, u, w) = map_ok _ (count_at s r) j'' in
      rw (← w)
      (record {
        key_place = m;
        value_place = n;
        count_place = r;
        deltas = deltas_found p i;
        key = nullable_found s b m i';
        value = nullable_found s b n i'';
        count = count_found s b r c q u;
      })

  pub fields_found : (p : ℕ) {r : RecordSpans} {q : ℕ} → fields_at s p ≡ ok r q → FoundFields s p r q
  unfolding fields_at
  fields_found p e =
      let (h, m, i, j) = and_then_ok (head_at s p) _ e in
      let (hs, k, w) = map_ok _ (times (header_at s) h.count m) j in
      let a = head_found p i in
      rw (← w) (with_headers_lem a (times_found (header_at s) (header_found s b) h.count m a.count.stands.within k))

-- ---- a record: its fields stand in the window that its length opens

abbrev FoundRecord : List ℕ → ℕ → RecordSpans → ℕ → Type 0
FoundRecord = Found (RecordBytes false) (λ x r at g. placed_record at g)

in_window : {s : List ℕ} {p m n q : ℕ} {r : RecordSpans} → Encoding CountBytes s p m n → FoundFields (take (m + n) s) m r q
    → q ≡ m + n → FoundRecord s p r q
in_window {m = m} {n} size f e =
    let l : length f.bytes ≡ n = omega (arith, f.stands.end) in
    record {
      value = f.value;
      bytes = size.bytes ++ f.bytes;
      stands = joined size.stands (outside (m + n) f.stands);
      encodes =
          record {
            fields = f.bytes;
            sized = record { size = size.bytes; is = refl; sizes = rw l size.encodes };
            holds = f.encodes;
          };
      placed = f.placed ∙ ap (λ (at : ℕ). placed_fields at f.encodes) size.stands.end;
    }

pub record_found : (s : List ℕ) → Bytes s → (p : ℕ) (r : RecordSpans) (q : ℕ) → record_at s p ≡ ok r q → FoundRecord s p r q
unfolding record_at
record_found s b p r q e =
    let (n, m, i, j) = and_then_ok (count_at s p) _ e in
    let (x, end, k, l) = and_then_ok (fields_at (take (m + n) s) m) _ j in
    let (t, v, w) = pick_ok (eqb end (m + n)) x end 13 l in
    let f = fields_found (take (m + n) s) (window_bytes (m + n) s b) m k in
    subst₂ (FoundRecord s p) v w (in_window (count_found s b p n m i) f (eqb-true end (m + n) t))

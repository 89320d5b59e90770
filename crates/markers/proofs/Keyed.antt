-- The keyed form: the record is read as any record, and the first four bytes of its key as a bare marker.
-- Assumes nothing.
use Prim.Native.Nat.{ℕ, ◌+◌, ◌≤◌}
use mathlib.Core.Path.{◌≡◌, refl, sym, ap, ◌∙◌, subst}
use mathlib.Core.Bool.{Bool, true, false}
use mathlib.Core.Option.{Option, none, some, none-ne-some, some-injective}
use mathlib.Core.List.{List, [], ◌∷◌, ◌++◌, append-nil}
use native.Mathlib.Omega.{arith}
use native.Mathlib.Nat.{add_assoc}
use borrow.Author.Tests.{le-ltb, ltb-false}
use lib.Dec.{ltb}
use lib.ListN.{length, length-append}
use lib.Seq.{take-append-add}
use Rattle.numbers.specs.Bytes.{Bytes}
use Rattle.numbers.specs.Format.{big_endian, shortest, fewest}
use Rattle.primitives.specs.Step.{ok, no}
use Rattle.primitives.specs.Stands.{Stands, Encoding}
use Rattle.primitives.specs.Reading.{Span, bytes_of, shown}
use Rattle.primitives.specs.Shifted.{moved_nullable, moved_step}
use Rattle.primitives.proofs.Steps.{ok_not_no, and_then_ok}
use Rattle.primitives.proofs.Windows.{window_bytes}
use Rattle.primitives.proofs.Picks.{passed_over}
use Rattle.primitives.proofs.Shifted.{ltb_add, moved}
use Rattle.records.specs.Format.{Record, RecordBytes}
use Rattle.records.specs.Judgement.{record_at}
use Rattle.records.specs.Inside.{NullableInside}
use Rattle.records.specs.Placed.{placed_record, shown_record}
use Rattle.records.specs.Written.{written_bytes, written_fields, written_headers, written_record}
use Rattle.records.specs.Statements.{Each, Writable}
use Rattle.records.proofs.Refusals.{Refuses, and_then_refuses, pick_refuses, record_refuses}
use Rattle.records.proofs.Shifted.{record_shifted}
use Rattle.records.proofs.Sound.{record_sound}
use Rattle.records.proofs.Complete.{record_complete}
use Rattle.records.proofs.Inside.{record_inside}
use Rattle.records.proofs.Encodes.{record_encodes}
use Rattle.records.proofs.Written.{record_written}
use Rattle.records.proofs.Sizes.{keyed_record_least}
use Rattle.records.proofs.AllBytes.{record_bytes}
use Rattle.layout.specs.Batch.{Marker, abort, commit}
use Rattle.layout.specs.Format.{marker_type, MarkerBytes, marker_record, KeyedBytes}
use Rattle.opening.specs.Judgement.{bare_marker_at, as_of, marker_in_key, keyed_marker_at}
use Rattle.opening.specs.Statements.{Placeless}
use Rattle.markers.specs.Markers.{written_marker}
use Rattle.markers.specs.Forms.{written_control, control_size}
use Rattle.markers.proofs.Encodes.{marker_encodes, marker_written}
use Rattle.markers.proofs.KeyFront.{key_inside, key_front, key_length, front_length, begins_there, there_begins}
use Rattle.markers.proofs.Bare.{bare_sound, bare_complete, bare_refuses, bare_placeless, bare_length, marker_octets}

-- ---- the key, where it lies in the list

-- a key that begins with a marker
record Begins (s : List ℕ) (key : Option Span) (m : Marker) : Type 0 where
  marker : List ℕ
  rest : List ℕ
  shows : shown s key ≡ some (marker ++ rest)
  marked : MarkerBytes marker m

module _ (s : List ℕ) (p q : ℕ) (m : Marker) where
  key_sound : Bytes s → (key : Option Span) → NullableInside s key → marker_in_key s key p ≡ ok m q
      → Begins s key m × (p ≡ q)
  key_sound b none h e = ok_not_no (sym e)
  key_sound b (some k) h e =
      let (t, i) = passed_over (ltb k.len 4) _ 12 e in
      let (n, r, j, l) = and_then_ok (bare_marker_at (key_front s k) k.start) (as_of p) i in
      let same : n ≡ m = cc in
      let x = (bare_sound (key_front s k) k.start r n (window_bytes (k.start + 4) s b) j).0 in (
        record {
          marker = x.bytes;
          rest = _;
          shows = ap some (there_begins s k h (ltb-false k.len 4 t) x.stands);
          marked = subst (MarkerBytes x.bytes) same x.encodes;
        },
        cc,
      )

key_complete : (s : List ℕ) (p : ℕ) (m : Marker) (key : Option Span) → NullableInside s key → Begins s key m
    → marker_in_key s key p ≡ ok m p
key_complete s p m none h g = absurd (none-ne-some _ g.shows)
key_complete s p m (some k) h g =
    let e = some-injective (bytes_of s k) (g.marker ++ g.rest) g.shows in
    let four = bare_length g.marked in
    let enough : 4 ≤ k.len = omega (arith, key_length s k h, ap length e, length-append g.marker g.rest, four) in
    let x = begins_there s k h g.marker g.rest e (omega (arith, four)) in
    let end : k.start + length g.marker ≡ length (key_front s k) = omega (arith, four, front_length s k h enough) in
    let y = subst (λ (q : ℕ). Stands (key_front s k) k.start q g.marker) end x in
    rw (le-ltb k.len 4 enough, bare_complete y g.marked)

-- ---- what is read is of the grammar, and the other way round

pub keyed_sound : (s : List ℕ) (p q : ℕ) (m : Marker) → Bytes s → keyed_marker_at s p ≡ ok m q
    → Encoding (KeyedBytes false) s p q m × (q ≡ length s)
unfolding keyed_marker_at
keyed_sound s p q m b e =
    let (r, k, i, j) = and_then_ok (record_at s p) _ e in
    let (t, l) = passed_over (ltb k (length s)) _ 13 j in
    let x = (record_sound s p r k b i).0 in
    let (g, same) = key_sound s k q m b r.key (key_inside s p b i) l in (
      record {
        bytes = x.bytes;
        stands = subst (λ (q : ℕ). Stands s p q x.bytes) same x.stands;
        encodes =
            record {
              shows = shown_record s r;
              holds = x.encodes;
              marker = g.marker;
              rest = g.rest;
              keyed = g.shows;
              marked = g.marked;
              plain = tt;
            };
      },
      omega (arith, same, ltb-false k (length s) t, x.stands.within),
    )

pub keyed_complete : (strict : Bool) (s : List ℕ) (p : ℕ) (bs : List ℕ) (m : Marker) → Stands s p (length s) bs
    → KeyedBytes strict bs m → keyed_marker_at s p ≡ ok m (length s)
unfolding keyed_marker_at
keyed_complete strict s p bs m x g =
    let (reads, shows) = record_complete strict s p (length s) bs g.shows x g.holds in
    let shown-key = ap (λ (r : Record). r.key) shows ∙ g.keyed in
    let begins : Begins s (placed_record p g.holds).key m
    = record { marker = g.marker; rest = g.rest; shows = shown-key; marked = g.marked } in
    rw (
      reads,
      le-ltb (length s) (length s) (omega arith),
      key_complete s (length s) m (placed_record p g.holds).key (record_inside x g.holds).key begins,
    )

-- ---- numbers and places

key_refuses : (s : List ℕ) (key : Option Span) (p : ℕ) → Refuses (marker_in_key s key p)
key_refuses s none p = (omega arith, omega arith)
key_refuses s (some k) p =
    pick_refuses (ltb k.len 4) (no 12) _ (omega arith, omega arith)
    (and_then_refuses (bare_marker_at (key_front s k) k.start) (as_of p) (bare_refuses (key_front s k) k.start) (λ m q. tt))

pub keyed_refuses : (s : List ℕ) (p : ℕ) → Refuses (keyed_marker_at s p)
unfolding keyed_marker_at
keyed_refuses s p =
    and_then_refuses (record_at s p) _ (record_refuses s p) (λ r k.
    pick_refuses (ltb k (length s)) (no 13) _ (omega arith, omega arith) (key_refuses s r.key k))

key_moved : (front s : List ℕ) (key : Option Span) (p : ℕ)
    → marker_in_key (front ++ s) (moved_nullable (length front) key) (length front + p)
    ≡ moved_step (λ m. m) (length front) (marker_in_key s key p)
key_moved front s none p = refl
key_moved front s (some k) p = simp (add_assoc, take-append-add, bare_placeless, moved)

pub keyed_placeless : Placeless keyed_marker_at
unfolding keyed_marker_at
keyed_placeless front s p = simp (record_shifted, length-append, ltb_add, key_moved, moved)

-- ---- what is written

fields_length : (m : Marker) → length (written_fields (marker_record (written_marker m))) ≡ 10
unfolding written_fields written_bytes written_headers written_marker big_endian shortest fewest
fields_length abort = refl
fields_length commit = refl

pub keyed_listed : (m : Marker) → written_control m ≡ 20 ∷ 0 ∷ 0 ∷ 0 ∷ 8 ∷ 0 ∷ 0 ∷ 0 ∷ marker_type m ∷ 1 ∷ 0 ∷ []
unfolding written_control written_fields written_bytes written_headers written_marker big_endian shortest fewest
keyed_listed abort = refl
keyed_listed commit = refl

marker_writable : (m : Marker) → Writable (marker_record (written_marker m))
unfolding Each
marker_writable m =
    record { timestamp = omega arith; offset = omega arith; keys = tt; size = omega (arith, fields_length m) }

record_holds : (m : Marker) → RecordBytes true (written_control m) (marker_record (written_marker m))
unfolding written_control
record_holds m = record_encodes true (marker_record (written_marker m)) (marker_writable m)

pub keyed_encodes : (m : Marker) → KeyedBytes true (written_control m) m
keyed_encodes m =
    record {
      shows = marker_record (written_marker m);
      holds = record_holds m;
      marker = written_marker m;
      rest = [];
      keyed = ap some (sym (append-nil (written_marker m)));
      marked = marker_encodes m;
      plain = refl;
    }

pub keyed_octets : (m : Marker) → Bytes (written_control m)
unfolding Each
keyed_octets m =
    record_bytes true (written_control m) (marker_record (written_marker m)) (record_holds m)
    (record { key = marker_octets m; value = tt; headers = tt })

pub keyed_written : (bs : List ℕ) (m : Marker) → KeyedBytes true bs m → bs ≡ written_control m
unfolding written_control
keyed_written bs m g =
    record_written bs g.shows g.holds ∙ ap written_record g.plain
    ∙ ap (λ (marker : List ℕ). written_record (marker_record marker)) (marker_written g.marker m g.marked)

-- ---- and nothing is shorter

pub control_size_lem : (m : Marker) → length (written_control m) ≡ control_size
control_size_lem m = ap length (keyed_listed m)

pub keyed_least : (strict : Bool) (bs : List ℕ) (m : Marker) → KeyedBytes strict bs m → 11 ≤ length bs
keyed_least strict bs m g =
    let four = bare_length g.marked in
    omega (arith, keyed_record_least g.holds g.keyed, length-append g.marker g.rest, four)

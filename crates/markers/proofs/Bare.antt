-- The form that is withdrawn: version and type, each an integer of two bytes, and nothing after them. Assumes nothing.
use Prim.Native.Nat.{ℕ, ◌+◌, ◌≤◌}
use mathlib.Core.Path.{◌≡◌, refl, ap, ◌∙◌, subst, subst₂}
use mathlib.Core.List.{List, ◌++◌}
use native.Mathlib.Omega.{arith}
use borrow.Author.Tests.{le-ltb, ltb-false}
use lib.Dec.{ltb}
use lib.IntN.{ℤ, pos}
use lib.ListN.{length, length-append}
use Rattle.numbers.specs.Bytes.{Bytes}
use Rattle.numbers.specs.Format.{big_endian, Integer}
use Rattle.numbers.proofs.Integers.{integer_length}
use Rattle.numbers.proofs.AllBytes.{joined_bytes, big_endian_bytes}
use Rattle.primitives.specs.Step.{ok, no, and_then}
use Rattle.primitives.specs.Stands.{Stands, Encoding}
use Rattle.primitives.specs.Reading.{integer_at}
use Rattle.primitives.proofs.Steps.{and_then_ok, and_then_and_then}
use Rattle.primitives.proofs.Places.{joined, first, second}
use Rattle.primitives.proofs.Moves.{integer_moves}
use Rattle.primitives.proofs.Integers.{integer_complete}
use Rattle.primitives.proofs.Picks.{picked, passed_over, and_then_pick}
use Rattle.primitives.proofs.Shifted.{ltb_add, moved, integer_shifted}
use Rattle.records.proofs.Refusals.{Refuses, and_then_refuses, pick_refuses, integer_refuses}
use Rattle.layout.specs.Batch.{Marker, abort, commit}
use Rattle.layout.specs.Format.{marker_type, MarkerBytes}
use Rattle.opening.specs.Judgement.{is, marker_of, ended_at, bare_marker_at}
use Rattle.opening.specs.Statements.{Placeless}
use Rattle.opening.proofs.Tests.{is_true}
use Rattle.opening.proofs.MarkerFaults.{marker_again, type_read, sixteen}
use Rattle.markers.specs.Markers.{written_marker}
use Rattle.markers.specs.Forms.{BareReads}

-- a marker has four bytes
pub bare_length : {bs : List ℕ} {m : Marker} → MarkerBytes bs m → length bs ≡ 4
bare_length g =
    ap length g.is ∙ length-append g.version g.kind
    ∙ omega (arith, integer_length g.versioned, integer_length g.typed)

-- ---- what is read is a marker

ended_read : (s : List ℕ) {m k : Marker} {p q : ℕ} → ended_at s k p ≡ ok m q → (length s ≤ q) × (k ≡ m) × (p ≡ q)
ended_read s {m} {k} {p} {q} e =
    let (t, i) = passed_over (ltb p (length s)) (ok k p) 13 e in
    let w : p ≡ q = cc in
    (rw (← w) (ltb-false p (length s) t), cc, w)

marker_joined : {s : List ℕ} {p k q : ℕ} {m : Marker} → Encoding (Integer 2) s p k (pos 0)
    → Encoding (Integer 2) s k q (pos (marker_type m)) → Encoding MarkerBytes s p q m
marker_joined x y =
    record {
      bytes = x.bytes ++ y.bytes;
      stands = joined x.stands y.stands;
      encodes = record { version = x.bytes; kind = y.bytes; is = refl; versioned = x.encodes; typed = y.encodes };
    }

pub bare_sound : (s : List ℕ) (p q : ℕ) (m : Marker) → Bytes s → bare_marker_at s p ≡ ok m q
    → Encoding MarkerBytes s p q m × (q ≡ length s)
unfolding bare_marker_at
bare_sound s p q m b e =
    let (v, k, i, j) = and_then_ok (integer_at 2 s p) _ e in
    let (t, l) = picked (is 0 v) _ 12 j in
    let (_, _, f, g) = and_then_ok (and_then (integer_at 2 s k) marker_of) (ended_at s) l in
    let (z, n, c, d) = and_then_ok (integer_at 2 s k) marker_of f in
    let (u, w) = type_read z (is 0 z) (is 1 z) refl refl d in
    let (h, a, o) = ended_read s g in
    let version = subst (Encoding (Integer 2) s p k) (is_true 0 v t) (sixteen s b i) in
    let known = u ∙ ap (λ (y : Marker). pos (marker_type y)) a in
    let kind = subst₂ (λ (r : ℕ) (n : ℤ). Encoding (Integer 2) s k r n) (w ∙ o) known (sixteen s b c) in
    let y = marker_joined version kind in
    (y, omega (arith, h, y.stands.within))

-- it ends with the list, whatever its elements are
pub bare_ends : (s : List ℕ) (p q : ℕ) (m : Marker) → bare_marker_at s p ≡ ok m q → length s ≤ p + 4
unfolding bare_marker_at
bare_ends s p q m e =
    let (v, k, i, j) = and_then_ok (integer_at 2 s p) _ e in
    let (_, l) = picked (is 0 v) _ 12 j in
    let (_, n, f, g) = and_then_ok (and_then (integer_at 2 s k) marker_of) (ended_at s) l in
    let (z, r, c, d) = and_then_ok (integer_at 2 s k) marker_of f in
    let (_, w) = type_read z (is 0 z) (is 1 z) refl refl d in
    let (h, _, o) = ended_read s g in
    omega (arith, (integer_moves 2 s p i).0, (integer_moves 2 s k c).0, h, o, w)

-- ---- a marker is read

pub bare_complete : {s : List ℕ} {p : ℕ} {bs : List ℕ} {m : Marker} → Stands s p (length s) bs → MarkerBytes bs m
    → bare_marker_at s p ≡ ok m (length s)
unfolding bare_marker_at
bare_complete {s} {p} {bs} {m} x g =
    let y = subst (Stands s p (length s)) g.is x in
    rw (
      integer_complete 2 s p _ g.version (pos 0) (omega arith) (first g.version g.kind y) g.versioned,
      integer_complete 2 s _ (length s) g.kind (pos (marker_type m)) (omega arith) (second g.version g.kind y) g.typed,
      marker_again m (length s),
      le-ltb (length s) (length s) (omega arith),
    )

-- ---- numbers and places

type_refuses : (z : ℤ) (p : ℕ) → Refuses (marker_of z p)
type_refuses z p =
    pick_refuses (is 0 z) (ok abort p) _ tt (pick_refuses (is 1 z) (ok commit p) (no 12) tt (omega arith, omega arith))

pub bare_refuses : (s : List ℕ) (p : ℕ) → Refuses (bare_marker_at s p)
unfolding bare_marker_at
bare_refuses s p =
    and_then_refuses (integer_at 2 s p) _ (integer_refuses 2 s p) (λ v k.
    pick_refuses (is 0 v) _ (no 12)
    (and_then_refuses (and_then (integer_at 2 s k) marker_of) _
    (and_then_refuses (integer_at 2 s k) _ (integer_refuses 2 s k) type_refuses)
    (λ m q. pick_refuses (ltb q (length s)) (no 13) (ok m q) (omega arith, omega arith) tt))
    (omega arith, omega arith))

pub bare_placeless : Placeless bare_marker_at
unfolding bare_marker_at
bare_placeless front s p = simp (integer_shifted, and_then_and_then, and_then_pick, length-append, ltb_add, moved)

-- ---- what is written

pub marker_octets : (m : Marker) → Bytes (written_marker m)
unfolding written_marker
marker_octets m =
    joined_bytes (big_endian 2 0) (big_endian 2 (marker_type m)) (big_endian_bytes 2 0) (big_endian_bytes 2 (marker_type m))

pub bare_reads : BareReads
bare_reads = record { sound = bare_sound; complete = λ strict s p bs m x g. bare_complete x g }

-- How far reading records moves: each field takes at least a byte, and ends within the list. So the bytes bound the
-- counts. Assumes nothing.
use Prim.Native.Nat.{ℕ, ◌+◌, ◌*◌, ◌≤◌, ◌<◌}
use mathlib.Core.Path.{◌≡◌, sym, ◌∙◌}
use mathlib.Core.Bool.{true, false}
use mathlib.Core.List.{List}
use native.Mathlib.Omega.{arith}
use borrow.Author.Tests.{eqb-true}
use lib.Dec.{eqb}
use lib.ListN.{length, take, length-take}
use Rattle.primitives.specs.Step.{ok, times}
use Rattle.primitives.specs.Reading.{integer_at, varint_at, length_at, Span, span_at, bytes_of}
use Rattle.primitives.proofs.Moves.{integer_moves, varint_moves, length_moves, span_moves, span_ends}
use Rattle.primitives.proofs.Steps.{and_then_ok, map_ok, pick_ok, times_each, times_count}
use Rattle.utf8.specs.Judgement.{is_utf8}
use Rattle.records.specs.Judgement.{HeaderSpans, RecordSpans, count_at, bytes_at, key_at, header_at, Deltas, deltas_at, Head, head_at, with_headers, fields_at, record_at, run_at}
use Rattle.records.proofs.Presence.{present_ok}
use Rattle.records.specs.Rows.{headers_in}
use Rattle.records.specs.Statements.{CountsBounded}

-- ---- lengths and bytes that may not be null

pub count_moves : (s : List ℕ) (p : ℕ) {n q : ℕ} → count_at s p ≡ ok n q → (p < q) × (q ≤ length s)
unfolding count_at
count_moves s p e = length_moves false s p (present_ok (length_at false s p) e)

bytes_ends : (s : List ℕ) (p : ℕ) {x : Span} {q : ℕ} → bytes_at s p ≡ ok x q
    → (p < q) × (x.start + x.len ≡ q) × (q ≤ length s)
unfolding bytes_at
bytes_ends s p e =
    let was = present_ok (span_at false s p) e in
    let (a, _) = span_moves false s p was in
    let (b, r) = span_ends false s p was in
    (a, b, r)

-- ---- a header

key_ends : (s : List ℕ) (p : ℕ) {x : Span} {q : ℕ} → key_at s p ≡ ok x q
    → (p < q) × (x.start + x.len ≡ q) × (q ≤ length s)
unfolding key_at
key_ends s p {x} {q} e =
    let (y, m, was, e') = and_then_ok (bytes_at s p) _ e in
    let (_, v, w) = pick_ok (is_utf8 (bytes_of s y)) y m 11 e' in
    let is : bytes_at s p ≡ ok x q = cc in
    bytes_ends s p is

header_moves : (s : List ℕ) (p : ℕ) {h : HeaderSpans} {q : ℕ} → header_at s p ≡ ok h q → (p + 2 ≤ q) × (q ≤ length s)
unfolding header_at
header_moves s p e =
    let (k, m, was, e') = and_then_ok (key_at s p) _ e in
    let (_, was', _) = map_ok _ (bytes_at s m) e' in
    let (a, _, _) = key_ends s p was in
    let (b, _, r) = bytes_ends s m was' in
    (omega arith, r)

headers_bound : (s : List ℕ) (k p : ℕ) {hs : List HeaderSpans} {q : ℕ} → times (header_at s) k p ≡ ok hs q → p ≤ length s
    → (p + 2 * length hs ≤ q) × (q ≤ length s)
headers_bound s k p e =
    times_each (header_at s) (λ p hs q. p ≤ length s → (p + 2 * length hs ≤ q) × (q ≤ length s)) (λ p l. (omega arith, l))
    (λ p h m rest q was after _.
    let (a, l) = header_moves s p was in
    let (b, r) = after l in
    (omega arith, r)) k p e

headers_move : (s : List ℕ) (k p : ℕ) {hs : List HeaderSpans} {q : ℕ} → times (header_at s) k p ≡ ok hs q → p ≤ length s
    → (length hs ≡ k) × (p + 2 * k ≤ q) × (q ≤ length s)
headers_move s k p e l =
    let n = times_count (header_at s) k p e in
    let (a, r) = headers_bound s k p e l in
    (n, omega arith, r)

-- ---- a record

deltas_move : (s : List ℕ) (p : ℕ) {d : Deltas} {q : ℕ} → deltas_at s p ≡ ok d q → (p + 3 ≤ q) × (q ≤ length s)
unfolding deltas_at
deltas_move s p e =
    let (_, m, was, e') = and_then_ok (integer_at 1 s p) _ e in
    let (t, n, was', e'') = and_then_ok (varint_at 64 s m) _ e' in
    let (_, was'', _) = map_ok _ (varint_at 32 s n) e'' in
    let (a, _) = integer_moves 1 s p was in
    let (b, _) = varint_moves 64 s m was' in
    let (c, r) = varint_moves 32 s n was'' in
    (omega arith, r)

-- what stands before the headers, part by part
pub head_parts : (s : List ℕ) (p : ℕ) {h : Head} {q : ℕ} → head_at s p ≡ ok h q
    → (m : ℕ) × (n : ℕ) × (o : ℕ) × (deltas_at s p ≡ ok h.deltas m) × (span_at true s m ≡ ok h.key n)
    × (span_at true s n ≡ ok h.value o) × (count_at s o ≡ ok h.count q)
unfolding head_at
head_parts s p e =
    let (d, m, was, e') = and_then_ok (deltas_at s p) _ e in
    let (k, n, was', e'') = and_then_ok (span_at true s m) _ e' in
    let (v, o, was'', e''') = and_then_ok (span_at true s n) _ e'' in
    let (_, was''', w) = map_ok _ (count_at s o) e''' in
    rw (← w) (m, n, o, was, was', was'', was''')

head_moves : (s : List ℕ) (p : ℕ) {h : Head} {q : ℕ} → head_at s p ≡ ok h q → (p + 6 ≤ q) × (q ≤ length s)
head_moves s p e =
    let (m, n, o, was, was', was'', was''') = head_parts s p e in
    let (a, _) = deltas_move s p was in
    let (b, _) = span_moves true s m was' in
    let (c, _) = span_moves true s n was'' in
    let (f, r) = count_moves s o was''' in
    (omega arith, r)

fields_move : (s : List ℕ) (p : ℕ) {r : RecordSpans} {q : ℕ} → fields_at s p ≡ ok r q
    → (p + 6 + 2 * length r.headers ≤ q) × (q ≤ length s)
unfolding fields_at
fields_move s p e =
    let (h, m, was, e') = and_then_ok (head_at s p) _ e in
    let (hs, was', w) = map_ok (with_headers h) (times (header_at s) h.count m) e' in
    let (a, l) = head_moves s p was in
    let (n, b, r) = headers_move s h.count m was' l in
    rw (← w) (omega arith, r)

-- a record that is read is its length, and its fields up to the end that this names
pub record_parts : (s : List ℕ) (p : ℕ) {r : RecordSpans} {q : ℕ} → record_at s p ≡ ok r q
    → (n : ℕ) × (m : ℕ) × (count_at s p ≡ ok n m) × (fields_at (take (m + n) s) m ≡ ok r q) × (q ≡ m + n)
unfolding record_at
record_parts s p e =
    let (n, m, was, e') = and_then_ok (count_at s p) _ e in
    let (r', o, was', e'') = and_then_ok (fields_at (take (m + n) s) m) _ e' in
    let (t, v, w) = pick_ok (eqb o (m + n)) r' o 13 e'' in
    (n, m, was, cc, sym w ∙ eqb-true o (m + n) t)

pub record_moves : (s : List ℕ) (p : ℕ) {r : RecordSpans} {q : ℕ} → record_at s p ≡ ok r q
    → (p + 7 + 2 * length r.headers ≤ q) × (q ≤ length s)
record_moves s p e =
    let (n, m, was, is, _) = record_parts s p e in
    let (a, _) = count_moves s p was in
    let (b, l) = fields_move (take (m + n) s) m is in
    (omega arith, omega (arith, length-take (m + n) s))

-- ---- so the bytes bound both counts

records_bound : (s : List ℕ) (k p : ℕ) {rs : List RecordSpans} {q : ℕ} → times (record_at s) k p ≡ ok rs q
    → p + 7 * length rs + 2 * headers_in rs ≤ q
unfolding headers_in
records_bound s k p e =
    times_each (record_at s) (λ p rs q. p + 7 * length rs + 2 * headers_in rs ≤ q) (λ p. omega arith)
    (λ p r m rest q was after. omega (arith, (record_moves s p was).0)) k p e

pub counts_bounded : CountsBounded
unfolding run_at
counts_bounded s count p rs q e =
    let n = times_count (record_at s) count p e in
    (n, omega (arith, records_bound s count p e))

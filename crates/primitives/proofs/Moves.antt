-- How far reading moves: a field takes at least a byte, and ends within the list. Assumes nothing.
use Rattle.std.proofs.Common.{◌≡◌, ℕ, zero, suc, ◌+◌, ◌-◌, ◌*◌, ◌^◌, ◌<◌, ◌≤◌, Bool, true, false, ltb, leb, List, length, get_or, ℤ, pos, negsuc, sym, arith, ltb-true, leb-true}
use mathlib.Core.Option.{Option, none, some}
use Rattle.numbers.specs.Pick.{pick}
use Rattle.primitives.specs.Step.{Step, ok, map_step}
use Rattle.primitives.specs.Reading.{big, unsigned_at, signed_by, integer_at, byte_at, code_at, full, limit, unzigzag, varint_at, length_of, length_at, Span, span_of, span_at}
use Rattle.primitives.proofs.Steps.{ok_not_no, and_then_ok, map_ok, pick_ok}

-- ---- integers

pub integer_moves : (n : ℕ) (s : List ℕ) (p : ℕ) {z : ℤ} {q : ℕ} → integer_at n s p ≡ ok z q → (q ≡ p + n) × (q ≤ length s)
unfolding integer_at unsigned_at
integer_moves n s p e =
    let (v, was, _) = map_ok (signed_by (2 ^ (8 * n - 1))) (unsigned_at n s p) e in
    let (t, _, w) = pick_ok (leb (p + n) (length s)) (big n s p) (p + n) 8 was in
    (sym w, omega (arith, leb-true (p + n) (length s) t))

-- ---- numbers of varying length

byte_moves : (s : List ℕ) (p : ℕ) {b q : ℕ} → byte_at s p ≡ ok b q → (p < q) × (q ≤ length s)
unfolding byte_at
byte_moves s p e =
    let (t, _, w) = pick_ok (ltb p (length s)) (get_or s p 0) (p + 1) 8 e in
    (omega arith, omega (arith, ltb-true p (length s) t))

-- a byte that is the last, or one that others follow
last_or_more : (last : Bool) (b m : ℕ) (f : ℕ → ℕ) (rest : Step ℕ ℕ) {l c q : ℕ} → pick last (ok b m) (map_step f rest) ≡ ok c q
    → m ≤ l → ((d : ℕ) → rest ≡ ok d q → (m < q) × (q ≤ l)) → (m ≤ q) × (q ≤ l)
last_or_more true b m f rest {q = q} e h more = let w : m ≡ q = cc in (omega arith, omega arith)
last_or_more false b m f rest e h more =
    let (d, was, _) = map_ok f rest e in
    let (g, r) = more d was in
    (omega arith, r)

code_moves : (k lim : ℕ) (s : List ℕ) (p : ℕ) {c q : ℕ} → code_at k lim s p ≡ ok c q → (p < q) × (q ≤ length s)
unfolding code_at
code_moves zero lim s p e =
    let (b, m, was, e') = and_then_ok (byte_at s p) _ e in
    let (_, _, w) = pick_ok (ltb b lim) b m 9 e' in
    rw (← w) (byte_moves s p was)
code_moves (suc k) lim s p e =
    let (b, m, was, e') = and_then_ok (byte_at s p) _ e in
    let (g, h) = byte_moves s p was in
    let (l, r) = last_or_more (ltb b 128) b m _ (code_at k lim s m) e' h (λ d was'. code_moves k lim s m was') in
    (omega arith, r)

pub varint_moves : (w : ℕ) (s : List ℕ) (p : ℕ) {n : ℤ} {q : ℕ} → varint_at w s p ≡ ok n q → (p < q) × (q ≤ length s)
unfolding varint_at
varint_moves w s p e =
    let (_, was, _) = map_ok unzigzag (code_at (full w) (limit w) s p) e in code_moves (full w) (limit w) s p was

-- ---- lengths, and bytes that follow their length

length_stays : (nullable : Bool) (z : ℤ) (m : ℕ) {n : Option ℕ} {q : ℕ} → length_of nullable z m ≡ ok n q → m ≡ q
length_stays nullable (pos k) m e = cc
length_stays true (negsuc zero) m e = cc
length_stays false (negsuc zero) m e = ok_not_no (sym e)
length_stays nullable (negsuc (suc k)) m e = ok_not_no (sym e)

pub length_moves : (nullable : Bool) (s : List ℕ) (p : ℕ) {n : Option ℕ} {q : ℕ} → length_at nullable s p ≡ ok n q
    → (p < q) × (q ≤ length s)
unfolding length_at
length_moves nullable s p e =
    let (z, m, was, e') = and_then_ok (varint_at 32 s p) (length_of nullable) e in
    rw (← length_stays nullable z m e') (varint_moves 32 s p was)

span_after : (s : List ℕ) (n : Option ℕ) (m : ℕ) {x : Option Span} {q : ℕ} → m ≤ length s → span_of s n m ≡ ok x q
    → (m ≤ q) × (q ≤ length s)
span_after s none m {q = q} h e = let w : m ≡ q = cc in (omega arith, omega arith)
span_after s (some n) m h e =
    let (t, _, w) = pick_ok (leb (m + n) (length s)) (some (record { start = m; len = n })) (m + n) 8 e in
    (omega arith, omega (arith, leb-true (m + n) (length s) t))

pub span_moves : (nullable : Bool) (s : List ℕ) (p : ℕ) {x : Option Span} {q : ℕ} → span_at nullable s p ≡ ok x q
    → (p < q) × (q ≤ length s)
unfolding span_at
span_moves nullable s p e =
    let (n, m, was, e') = and_then_ok (length_at nullable s p) (span_of s) e in
    let (l, h) = length_moves nullable s p was in
    let (g, r) = span_after s n m h e' in
    (omega arith, r)

span_is : (s : List ℕ) (n : Option ℕ) (m : ℕ) {x : Span} {q : ℕ} → span_of s n m ≡ ok (some x) q → x.start + x.len ≡ q
span_is s none m e = cc
span_is s (some n) m {x} e =
    let (_, is, w) = pick_ok (leb (m + n) (length s)) (some (record { start = m; len = n })) (m + n) 8 e in
    let v : ◌≡◌ {A = Span} (record { start = m; len = n }) x = cc in
    rw (← v) w

pub span_ends : (nullable : Bool) (s : List ℕ) (p : ℕ) {x : Span} {q : ℕ} → span_at nullable s p ≡ ok (some x) q
    → (x.start + x.len ≡ q) × (q ≤ length s)
unfolding span_at
span_ends nullable s p e =
    let (n, m, was, e') = and_then_ok (length_at nullable s p) (span_of s) e in
    (span_is s n m e', (span_moves nullable s p e).1)

-- Bytes that follow their length: the number is read as numbers are, and as many bytes as it says stand after it.
-- Assumes nothing.
use Rattle.std.proofs.Common.{◌≡◌, ℕ, zero, suc, ◌+◌, ◌-◌, ◌≤◌, Bool, true, false, leb, List, ◌++◌, length, take, drop, ℤ, pos, negsuc, sym, refl, ap, ◌∙◌, subst, add-sub_cancel, arith, length-drop, take-append-drop, length-take, drop-drop, le-leb, leb-true}
use mathlib.Core.Option.{Option, none, some}
use Rattle.numbers.specs.Bytes.{Bytes}
use Rattle.numbers.specs.Format.{Varies, Nullable}
use Rattle.primitives.specs.Step.{ok, and_then}
use Rattle.primitives.specs.Stands.{Stands, Encoding}
use Rattle.primitives.specs.Reading.{varint_at, length_of, length_at, Span, span_of, span_at, shown}
use Rattle.primitives.specs.Faults.{CountBytes}
use Rattle.primitives.specs.Statements.{ending_at, SpanSound, SpanComplete}
use Rattle.primitives.proofs.Places.{shows, joined, first, second}
use Rattle.primitives.proofs.Steps.{ok_not_no, and_then_ok, pick_ok, and_then_and_then}
use Rattle.primitives.proofs.Varints.{varint_sound, varint_complete}

-- ---- a length that is not null

length_of_lem : (nullable : Bool) {s : List ℕ} {p m n q : ℕ} (z : ℤ) → Encoding (Varies 32 false) s p m z → length_of nullable z m ≡ ok (some n) q
    → Encoding CountBytes s p q n
length_of_lem nullable {m = m} {n} {q} (pos k) t e =
    let v : k ≡ n = cc in
    let w : m ≡ q = cc in
    rw (← v, ← w) (record { bytes = t.bytes; stands = t.stands; encodes = t.encodes })
length_of_lem true (negsuc zero) t e = let z : ◌≡◌ {A = ℕ} 0 1 = cc in absurd (omega arith)
length_of_lem false (negsuc zero) t e = ok_not_no (sym e)
length_of_lem nullable (negsuc (suc k)) t e = ok_not_no (sym e)

pub length_found : (nullable : Bool) (s : List ℕ) → Bytes s → (p : ℕ) {n q : ℕ} → length_at nullable s p ≡ ok (some n) q → Encoding CountBytes s p q n
unfolding length_at
length_found nullable s b p e =
    let (z, m, i, j) = and_then_ok (varint_at 32 s p) (length_of nullable) e in
    length_of_lem nullable z (varint_sound 32 s p z m (omega arith) b i) j

pub length_reads : (nullable : Bool) {strict : Bool} {s : List ℕ} {p q : ℕ} {bs : List ℕ} {n : ℕ} → Stands s p q bs → Varies 32 strict bs (pos n)
    → length_at nullable s p ≡ ok (some n) q
unfolding length_at
length_reads nullable {strict} {s} {p} {q} {bs} {n} x g = rw (varint_complete 32 strict s p q bs (pos n) (omega arith) x g)

-- ---- bytes that follow it

module _ (s : List ℕ) (p n : ℕ) (h : p + n ≤ length s) where
  pub taken_length : length (take n (drop p s)) ≡ n
  taken_length = simp (length-take, length-drop) (omega arith)

  -- n bytes from a place on
  pub taken : Stands s p (p + n) (take n (drop p s))
  taken = record { split = rw (← drop-drop n p s) (sym (take-append-drop n (drop p s))); end = rw taken_length; within = h }

by_length : (nullable : Bool) {s : List ℕ} {p : ℕ} (n : ℤ) (m : ℕ) {x : Option Span} {q : ℕ}
    → Encoding (Varies 32 false) s p m n → and_then (length_of nullable n m) (span_of s) ≡ ok x q
    → Encoding (Nullable nullable false) s p q (shown s x) × (x ≡ ending_at q (shown s x))
by_length nullable {s} (pos n) m t e =
    let w = pick_ok (leb (m + n) (length s)) (some (record { start = m; len = n })) (m + n) 8 e in
    let h = leb-true (m + n) (length s) w.0 in
    let l = taken_length s m n h in
    rw (← w.1, ← w.2) (
      record {
        bytes = t.bytes ++ take n (drop m s);
        stands = joined t.stands (taken s m n h);
        encodes = record { size = t.bytes; is = refl; sizes = rw l t.encodes };
      },
      rw (l, add-sub_cancel),
    )
by_length true (negsuc zero) m {x} {q} t e =
    let v : none ≡ x = cc in
    let w : m ≡ q = cc in
    rw (← v, ← w) (record { bytes = t.bytes; stands = t.stands; encodes = (refl, t.encodes) }, refl)
by_length false (negsuc zero) m t e = ok_not_no (sym e)
by_length nullable (negsuc (suc k)) m t e = ok_not_no (sym e)

pub span_sound : SpanSound
unfolding span_at length_at
span_sound nullable s p x q b e =
    let f = sym (and_then_and_then (varint_at 32 s p) (length_of nullable) (span_of s)) ∙ e in
    let (n, m, i, j) = and_then_ok (varint_at 32 s p) (λ n m. and_then (length_of nullable n m) (span_of s)) f in
    by_length nullable n m (varint_sound 32 s p n m (omega arith) b i) j

pub span_complete : SpanComplete
unfolding span_at length_at
span_complete nullable strict s p q bs none x g =
    (rw (varint_complete 32 strict s p q bs (negsuc zero) (omega arith) x g.1, g.0), refl)
span_complete nullable strict s p q bs (some v) x g =
    let y = subst (Stands s p q) g.is x in
    let z = second g.size v y in
    let h = varint_complete 32 strict s p (p + length g.size) g.size (pos (length v)) (omega arith) (first g.size v y) g.sizes in
    let e : q - length v ≡ p + length g.size = omega (arith, z.end) in
    (rw (h, ← z.end, le-leb q (length s) x.within, e), rw e (ap some (shows z)))

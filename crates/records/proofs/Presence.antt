-- Lengths and bytes that may not be null: what was read of them is not, since -1 is refused there. Assumes nothing.
use Prim.Native.Nat.{ℕ, zero, suc, ◌+◌}
use mathlib.Core.Path.{◌≡◌, refl, sym}
use mathlib.Core.Bool.{false}
use mathlib.Core.Option.{Option, none, some}
use mathlib.Core.List.{List}
use native.Mathlib.Omega.{arith}
use lib.Dec.{leb}
use lib.IntN.{ℤ, pos, negsuc}
use lib.ListN.{length}
use Rattle.primitives.specs.Step.{Step, ok, no, and_then}
use Rattle.primitives.specs.Reading.{varint_at, length_of, length_at, Span, span_of, span_at}
use Rattle.primitives.proofs.Steps.{ok_not_no, and_then_ok, pick_ok}
use Rattle.records.specs.Judgement.{present, count_at, bytes_at}
use Rattle.records.specs.Rows.{span_row}
use Rattle.records.specs.Parts.{bytes_row}

pub present_ok : {A : Type 0} (x : Step ℕ (Option A)) {a : A} {q : ℕ} → and_then x present ≡ ok a q → x ≡ ok (some a) q
present_ok (ok none p) e = ok_not_no (sym e)
present_ok (ok (some b) p) e = cc
present_ok (no n) e = ok_not_no (sym e)

-- ---- no length and no bytes are read as null

module _ (s : List ℕ) (p : ℕ) where
  never_null : (n : ℤ) (m : ℕ) {q : ℕ} {X : Type 0} → length_of false n m ≡ ok none q → X
  never_null (pos n) m e = let z : ◌≡◌ {A = ℕ} 0 1 = cc in absurd (omega arith)
  never_null (negsuc zero) m e = ok_not_no (sym e)
  never_null (negsuc (suc k)) m e = ok_not_no (sym e)

  null_length : {q : ℕ} {X : Type 0} → length_at false s p ≡ ok none q → X
  unfolding length_at
  null_length e = let (n, m, _, j) = and_then_ok (varint_at 32 s p) (length_of false) e in never_null n m j

  never_null_bytes : (o : Option ℕ) (m : ℕ) {q : ℕ} {X : Type 0} → length_at false s p ≡ ok o m → span_of s o m ≡ ok none q → X
  never_null_bytes none m i j = null_length i
  never_null_bytes (some n) m i j =
      let (_, w, _) = pick_ok (leb (m + n) (length s)) (some (record { start = m; len = n })) (m + n) 8 j in
      let z : ◌≡◌ {A = ℕ} 0 1 = cc in
      absurd (omega arith)

  pub null_bytes : {q : ℕ} {X : Type 0} → span_at false s p ≡ ok none q → X
  unfolding span_at
  null_bytes e = let (o, m, i, j) = and_then_ok (length_at false s p) (span_of s) e in never_null_bytes o m i j

-- so that `present` refuses nothing
present_no : {A : Type 0} (x : Step ℕ (Option A)) → ((q : ℕ) → x ≡ ok none q → ⊥) → {n : ℕ} → and_then x present ≡ no n → x ≡ no n
present_no (ok none p) never e = absurd (never p refl)
present_no (ok (some a) p) never e = ok_not_no e
present_no (no m) never e = cc

pub count_no : (s : List ℕ) (p : ℕ) {n : ℕ} → count_at s p ≡ no n → length_at false s p ≡ no n
unfolding count_at
count_no s p e = present_no (length_at false s p) (λ q i. null_length s p i) e

pub bytes_no : (s : List ℕ) (p : ℕ) {n : ℕ} → bytes_at s p ≡ no n → span_at false s p ≡ no n
unfolding bytes_at
bytes_no s p e = present_no (span_at false s p) (λ q i. null_bytes s p i) e

pub bytes_of : (s : List ℕ) (p : ℕ) {x : Option Span} {q : ℕ} → span_at false s p ≡ ok x q → (y : Span) × (bytes_at s p ≡ ok y q) × (span_row x ≡ bytes_row y)
unfolding bytes_at
bytes_of s p {x = some y} e = (y, rw e, refl)
bytes_of s p {x = none} e = null_bytes s p e

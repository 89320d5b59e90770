-- A bare marker's first fault is the first refusal of its reading: its version and then its type run past the end or
-- are unknown, and then bytes are left. Assumes nothing.
use Prim.Native.Nat.{ℕ}
use mathlib.Core.Path.{◌≡◌, refl, sym, ap, ◌∙◌, subst}
use mathlib.Core.Bool.{Bool, true, false}
use mathlib.Core.Logic.{inl, inr}
use mathlib.Core.List.{List}
use native.Mathlib.Omega.{arith}
use borrow.Author.Tests.{ltb-true, lt-ltb}
use lib.Dec.{ltb}
use lib.IntN.{ℤ, pos}
use lib.ListN.{length}
use Rattle.numbers.specs.Bytes.{Bytes}
use Rattle.numbers.specs.Pick.{pick}
use Rattle.numbers.specs.Format.{Integer}
use Rattle.primitives.specs.Step.{Step, ok, no, and_then}
use Rattle.primitives.specs.Stands.{Encoding}
use Rattle.primitives.specs.Reading.{integer_at}
use Rattle.primitives.proofs.Steps.{ok_not_no, and_then_ok, and_then_no}
use Rattle.primitives.proofs.Picks.{pick_either}
use Rattle.primitives.proofs.Integers.{integer_sound, integer_complete}
use Rattle.primitives.proofs.FieldFaults.{integer_faults}
use Rattle.layout.specs.Batch.{Marker, abort, commit}
use Rattle.layout.specs.Format.{marker_type}
use Rattle.opening.specs.Judgement.{is, marker_of, ended_at, bare_marker_at}
use Rattle.opening.specs.Faults.{TypeWrong, BareMarkerWrong}
use Rattle.opening.specs.Statements.{BareMarkerFaults}
use Rattle.opening.proofs.Tests.{is_true, is_false, is_not}

-- ---- the tests of type and end

pub marker_again : (m : Marker) (p : ℕ) → marker_of (pos (marker_type m)) p ≡ ok m p
marker_again abort p = refl
marker_again commit p = refl

pub type_read : (z : ℤ) {m : Marker} {p q : ℕ} (a c : Bool) → is 0 z ≡ a → is 1 z ≡ c → pick a (ok abort p) (pick c (ok commit p) (no 12)) ≡ ok m q
    → (z ≡ pos (marker_type m)) × (p ≡ q)
type_read z {m} true c f g e = let w : abort ≡ m = cc in (is_true 0 z f ∙ ap (λ (m : Marker). pos (marker_type m)) w, cc)
type_read z {m} false true f g e = let w : commit ≡ m = cc in (is_true 1 z g ∙ ap (λ (m : Marker). pos (marker_type m)) w, cc)
type_read z false false f g e = ok_not_no (sym e)

type_tested : (a b : Bool) (p : ℕ) {n : ℕ} → pick a (ok abort p) (pick b (ok commit p) (no 12)) ≡ no n → (a ≡ false) × (b ≡ false) × (12 ≡ n)
type_tested true b p e = ok_not_no e
type_tested false true p e = ok_not_no e
type_tested false false p e = (refl, refl, cc)

not_known : (t : ℤ) → is 0 t ≡ false → is 1 t ≡ false → (m : Marker) → t ≡ pos (marker_type m) → ⊥
not_known t a b abort e = is_false 0 t a e
not_known t a b commit e = is_false 1 t b e

ended_no : (t : Bool) (m : Marker) (p : ℕ) {n : ℕ} → pick t (no 13) (ok m p) ≡ no n → (t ≡ true) × (13 ≡ n)
ended_no true m p e = (refl, cc)
ended_no false m p e = ok_not_no e

-- ---- the marker

module _ (s : List ℕ) (b : Bytes s) where
  reads : {p q : ℕ} {z : ℤ} → Encoding (Integer 2) s p q z → integer_at 2 s p ≡ ok z q
  reads {p} {q} {z} t = integer_complete 2 s p q t.bytes z (omega arith) t.stands t.encodes

  pub sixteen : {p q : ℕ} {z : ℤ} → integer_at 2 s p ≡ ok z q → Encoding (Integer 2) s p q z
  sixteen {p} {q} {z} e = integer_sound 2 s p z q (omega arith) b e

  abbrev type_at : ℕ → Step ℕ Marker
  type_at p = and_then (and_then (integer_at 2 s p) marker_of) (ended_at s)

  type_wrong : (p n : ℕ) → type_at p ≡ no n → TypeWrong s p n
  type_wrong p n e =
      elim (and_then_no (and_then (integer_at 2 s p) marker_of) (ended_at s) e) [
        | inl f ↦
            elim (and_then_no (integer_at 2 s p) marker_of f) [
              | inl i ↦ TypeWrong.past ((integer_faults 2 s p n).0 i)
              | inr v ↦
                  let (t, q, i, j) = v in
                  let (x, y, twelve) = type_tested (is 0 t) (is 1 t) q j in
                  subst (TypeWrong s p) twelve (TypeWrong.unknown (sixteen i) (not_known t x y))
            ]
        | inr v ↦
            let (m, q, f, g) = v in
            let (t, r, i, j) = and_then_ok (integer_at 2 s p) marker_of f in
            let (known, same) = type_read t (is 0 t) (is 1 t) refl refl j in
            let (more, thirteen) = ended_no (ltb q (length s)) m q g in
            subst (TypeWrong s p) thirteen
            (TypeWrong.left m (sixteen (i ∙ ap (ok t) same)) known (ltb-true q (length s) more))
      ]

  type_refused : (p : ℕ) {n : ℕ} → TypeWrong s p n → type_at p ≡ no n
  type_refused p {n} (TypeWrong.past x) = rw ((integer_faults 2 s p n).1 x)
  type_refused p (TypeWrong.unknown {t} x f) =
      rw (reads x, is_not 0 t (f abort), is_not 1 t (f commit))
  type_refused p (TypeWrong.left {t} {q} m x e h) = rw (reads x, ap (λ (z : ℤ). marker_of z q) e ∙ marker_again m q, lt-ltb q (length s) h)

  marker_wrong : (p n : ℕ) → bare_marker_at s p ≡ no n → BareMarkerWrong s p n
  unfolding bare_marker_at
  marker_wrong p n e =
      elim (and_then_no (integer_at 2 s p) _ e) [
        | inl i ↦ BareMarkerWrong.past ((integer_faults 2 s p n).0 i)
        | inr w ↦
            let (v, q, i, j) = w in
            elim (pick_either (is 0 v) (type_at q) 12 j) [
              | inl x ↦ BareMarkerWrong.later (sixteen (i ∙ ap (λ (z : ℤ). ok z q) (is_true 0 v x.0))) (type_wrong q n x.1)
              | inr x ↦ subst (BareMarkerWrong s p) x.1 (BareMarkerWrong.unknown (sixteen i) (is_false 0 v x.0))
            ]
      ]

  marker_refused : (p : ℕ) {n : ℕ} → BareMarkerWrong s p n → bare_marker_at s p ≡ no n
  unfolding bare_marker_at
  marker_refused p {n} (BareMarkerWrong.past x) = rw ((integer_faults 2 s p n).1 x)
  marker_refused p (BareMarkerWrong.unknown {v} x f) = rw (reads x, is_not 0 v f)
  marker_refused p (BareMarkerWrong.later {q} x y) = rw (reads x) (type_refused q y)

pub bare_marker_faults : BareMarkerFaults
bare_marker_faults s p n b l = (marker_wrong s b p n, λ x. marker_refused s b p x)

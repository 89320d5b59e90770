-- What the functions of the canonical check return: by the answer of each step before. A test that fails is one that a
-- strict record would pass. Records run on where each ends, which is one place only. The premises have the form in
-- which a proof finds them. Assumes nothing.
use Rattle.std.proofs.Common.{◌≡◌, ℕ, suc, ◌+◌, ◌-◌, ◌≤◌, ◌<◌, true, false, List, [], ◌∷◌, ◌++◌, Some, None, Result, Ok, Err, eqb, pos, length, get_or, take, refl, sym, ap, ◌∙◌, subst, Fits, w8, arith}
use mathlib.Core.Path.{subst₂}
use Rattle.std.specs.Result.{result_ok}
use Rattle.std.specs.List.{slice_range}
use Rattle.std.proofs.lemmas.Bool.{eq-eqb, eqb-true}
use native.Mathlib.Nat.{add-zero, le_refl}
use Rattle.numbers.specs.Exactly.{Exactly}
use Rattle.numbers.specs.Format.{shortest}
use Rattle.primitives.specs.declared.Cursor.{Cursor}
use Rattle.primitives.specs.Stands.{Stands, Encoding}
use Rattle.primitives.specs.Step.{Step, ok, no, map_step}
use Rattle.primitives.specs.Answers.{view_read}
use Rattle.primitives.proofs.Places.{nothing, joined, first, second}
use Rattle.primitives.proofs.Steps.{ok_not_no, map_ok}
use Rattle.records.specs.Format.{Record, Run, RecordBytes}
use Rattle.records.specs.Judgement.{RecordSpans, count_at, fields_at}
use Rattle.records.proofs.Complete.{record_complete}
use Rattle.records.proofs.RecordMoves.{count_moves}
use Rattle.canonical.specs.Promises.{StandStrictly}
use Rattle.canonical.specs.Tight.{fields_capped, Strictly}
use Rattle.canonical.proofs.Strict.{Passes, passes_strictly, strictly_passes}

-- ---- what was read, where its fault is of no account

some_ok : {T E : Type 0} (r : Result T E) {x : T} → Some x ≡ result_ok r → r ≡ Ok x
some_ok (Ok y) e = cc
some_ok (Err f) e = let z : ◌≡◌ {A = ℕ} 0 1 = cc in absurd (omega arith)

none_ok : {T E : Type 0} (r : Result T E) → None ≡ result_ok r → (f : E) × (r ≡ Err f)
none_ok (Ok y) e = let z : ◌≡◌ {A = ℕ} 0 1 = cc in absurd (omega arith)
none_ok (Err f) e = (f, refl)

module _ {A B E : Type 0} (number : E → ℕ) (value : A → B) (r : Result (A × Cursor) E) where
  pub value_read : {x : Step ℕ B} {a : A} {c : Cursor} → view_read number value r ≡ x → Some (a, c) ≡ result_ok r → ok (value a) c.at ≡ x
  value_read e f = rw (some_ok r f) at e

  pub none_read : {x : Step ℕ B} → view_read number value r ≡ x → None ≡ result_ok r → (n : ℕ) × (no n ≡ x)
  none_read e f = let (g, is) = none_ok r f in (number g, rw is at e)

-- bytes up to a place
pub cut_at : (s : List ℕ) (n : ℕ) {l : List ℕ} → l ≡ slice_range s 0 n → l ≡ take n s
cut_at s n e = let all : n - 0 ≡ n = omega arith in e ∙ ap (λ (m : ℕ). take m s) all

-- ---- a record

module _ (s : List ℕ) (at : ℕ) where
  pub no_length : (m : ℕ) × (no m ≡ count_at s at) → Strictly s at None
  no_length (_, e) q r x = ok_not_no (sym (strictly_passes x).tests.count ∙ sym e)

  module _ (n start : ℕ) (e : ok n start ≡ count_at s at) where
    pub length_moves : (at < start) × (start ≤ length s)
    length_moves = count_moves s at (sym e)

    -- what a strict record passes, with the length that was read
    record Strict : Type 0 where
      spans : RecordSpans
      tests : Passes s at n start spans
      here : start < length s
      within : start + n ≤ length s

    strict : {q : ℕ} {r : Record} → Encoding (RecordBytes true) s at q r → Strict
    strict x =
        let t = strictly_passes x in
        let is = t.tests.count in
        let size : t.n ≡ n = cc in
        let place : t.m ≡ start = cc in
        record {
          spans = t.r;
          tests = subst₂ (λ k m. Passes s at k m t.r) size place t.tests;
          here = omega (arith, place, t.here);
          within = omega (arith, size, place, t.within);
        }

    pub long_length : (k : ℕ) → k ≡ length (shortest (pos n)) → (at + k ≡ start → ⊥) → Strictly s at None
    long_length k size h q r x = h (ap (λ (m : ℕ). at + m) size ∙ (strict x).tests.short)

    pub nothing_left : length s ≤ start → Strictly s at None
    nothing_left h q r x = omega (arith, (strict x).here)

    pub attributes_used : (get_or s start 0 ≡ 0 → ⊥) → Strictly s at None
    attributes_used h q r x = h (strict x).tests.unused

    pub past_end : length s < start + n → Strictly s at None
    past_end h q r x = omega (arith, (strict x).within)

    pub no_fields : (m : ℕ) × (no m ≡ map_step fields_capped (fields_at (take (start + n) s) start)) → Strictly s at None
    no_fields (_, e') q r x = ok_not_no (sym (ap (map_step fields_capped) (strict x).tests.fields) ∙ sym e')

    module _ (written next : ℕ) (e' : ok written next ≡ map_step fields_capped (fields_at (take (start + n) s) start)) where
      reads : {q : ℕ} {r : Record} (x : Encoding (RecordBytes true) s at q r) → ok written next ≡ ok (fields_capped (strict x).spans) (start + n)
      reads x = e' ∙ ap (map_step fields_capped) (strict x).tests.fields

      pub ends_elsewhere : (next ≡ start + n → ⊥) → Strictly s at None
      ends_elsewhere h q r x = let same = reads x in h (cc)

      pub longer_fields : (written ≡ n → ⊥) → Strictly s at None
      longer_fields h q r x =
          let same = reads x in
          let is : written ≡ fields_capped (strict x).spans = cc in
          h (is ∙ (strict x).tests.size)

      pub strict_got : ((i : ℕ) → Fits w8 (get_or s i 0)) → (k : ℕ) → k ≡ length (shortest (pos n)) → at + k ≡ start
          → get_or s start 0 ≡ 0 → next ≡ start + n → written ≡ n → Strictly s at (Some (record { at = next }))
      strict_got bytes k size short unused end same =
          let (r, is, w) = map_ok fields_capped (fields_at (take (start + n) s) start) (sym e') in
          let t : Passes s at n start r =
          record {
            count = sym e;
            short = ap (λ (m : ℕ). at + m) (sym size) ∙ short;
            unused = unused;
            fields = is ∙ ap (ok r) end;
            size = w ∙ same;
          } in
          subst (λ (q : ℕ). (x : Record) × Encoding (RecordBytes true) s at q x) (sym end) (passes_strictly (λ i. (bytes i).fits) t)

-- ---- records, one after the other

-- the first of them stands, and the others from its end on
more_stand : {s : List ℕ} {p k : ℕ} {bs : List ℕ} {rs : List Record} → Stands s p (length s) bs → Run (RecordBytes true) bs rs → length rs ≡ suc k
    → (q : ℕ) × (a : Record) × Encoding (RecordBytes true) s p q a × StandStrictly s q k
more_stand z Run.ended l = absurd (omega arith)
more_stand {p = p} z (Run.more {x} {y} {a} {rest} g others) l = (
  p + length x,
  a,
  record { bytes = x; stands = first x y z; encodes = g },
  (rest, record { bytes = y; stands = second x y z; encodes = others }, omega arith),
)

none_stand : {s : List ℕ} {p : ℕ} {bs : List ℕ} {rs : List Record} → Stands s p (length s) bs → Run (RecordBytes true) bs rs → length rs ≡ 0
    → p ≡ length s
none_stand {p = p} x Run.ended l = sym (x.end ∙ add-zero p)
none_stand x (Run.more g others) l = absurd (omega arith)

-- a record ends at one place only
one_end : {s : List ℕ} {p q q' : ℕ} {a b : Record} → Encoding (RecordBytes true) s p q a → Encoding (RecordBytes true) s p q' b → q ≡ q'
one_end {s} {p} {q} {q'} {a} {b} x y =
    let one = (record_complete true s p q x.bytes a x.stands x.encodes).0 in
    let other = (record_complete true s p q' y.bytes b y.stands y.encodes).0 in
    cc

module _ {s : List ℕ} {p q k : ℕ} {a : Record} (x : Encoding (RecordBytes true) s p q a) where
  others_stand : StandStrictly s p (suc k) → StandStrictly s q k
  others_stand (rs, y, l) =
      let (m, b, z, others) = more_stand y.stands y.encodes l in
      subst (λ (i : ℕ). StandStrictly s i k) (one_end z x) others

  all_stand : StandStrictly s q k → StandStrictly s p (suc k)
  all_stand (rs, y, l) = (
    a ∷ rs,
    record { bytes = x.bytes ++ y.bytes; stands = joined x.stands y.stands; encodes = Run.more x.encodes y.encodes },
    ap suc l,
  )

false_not_true : {X : Type 0} → false ≡ true → X
false_not_true t = let z : ◌≡◌ {A = ℕ} 0 1 = cc in absurd (omega arith)

-- X is what is asked for in all
module _ (s : List ℕ) (k at : ℕ) {X : Type 0} (inv : Exactly (StandStrictly s at k) X) where
  pub run_turn : (next : Cursor) → 0 < k → Strictly s at (Some next) → Exactly (StandStrictly s next.at (k - 1)) X
  run_turn next some (a, x) =
      let count : k ≡ suc (k - 1) = omega arith in
      (λ t. inv.0 (rw count (all_stand x t)), λ t. others_stand x (rw count at (inv.1 t)))

  pub run_stop : 0 < k → Strictly s at None → Exactly (false ≡ true) X
  run_stop some refused =
      let count : k ≡ suc (k - 1) = omega arith in (
        false_not_true,
        λ t.
            let (rs, y, l) = rw count at (inv.1 t) in
            let (q, a, x, _) = more_stand y.stands y.encodes l in
            absurd (refused q a x),
      )

  pub run_done : k ≡ 0 → Exactly (eqb at (length s) ≡ true) X
  run_done none = (
    λ t.
        let end = eqb-true at (length s) t in
        inv.0 ([], record { bytes = []; stands = rw end (nothing s (length s) (le_refl (length s))); encodes = Run.ended }, sym none),
    λ t.
        let (rs, y, l) = inv.1 t in
        eq-eqb at (length s) (none_stand y.stands y.encodes (l ∙ none)),
  )

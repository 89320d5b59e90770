-- What the reading of attributes returns: the bits of the lower byte are those of both. The premises have the form in
-- which a proof finds them. Assumes nothing.
use Prim.Native.Nat.{ℕ, ◌+◌, ◌*◌, ◌/◌, ◌%◌, ◌^◌, ◌<◌}
use mathlib.Core.Path.{◌≡◌, refl, sym, ap, ◌∙◌}
use mathlib.Core.Bool.{Bool, true, false}
use mathlib.Core.List.{List}
use native.Mathlib.Omega.{arith}
use lib.Dec.{eqb, ltb}
use lib.IntN.{ℤ}
use lib.ListN.{get_or}
use mir.Syntax.{w8}
use mir.Val.{Fits}
use Rattle.numbers.specs.Pick.{pick}
use Rattle.numbers.specs.Format.{big_endian, complement}
use Rattle.primitives.specs.Step.{Step, ok, no}
use Rattle.primitives.specs.Reading.{unsigned_at, signed_by, integer_at}
use Rattle.primitives.proofs.Integers.{big_below, complement_of_signed}
use Rattle.primitives.proofs.Steps.{map_ok, map_no}
use Rattle.primitives.proofs.Values.{unsigned_value}
use Rattle.layout.specs.declared.RecordBatchTimestampType.{RecordBatchTimestampType}
use Rattle.layout.specs.Batch.{create_time, log_append_time}
use Rattle.layout.specs.Fixed.{view_type}
use Rattle.opening.specs.Judgement.{apart, count_from, count_of}
use Rattle.opening.specs.Judgement as Judgement
use Rattle.opening.specs.Opening.{attributes_by, attributes_at}

-- ---- attributes

second_byte : (v : ℕ) → get_or (big_endian 2 v) 1 0 ≡ v % 256
unfolding big_endian
second_byte v = omega arith

even_more : (k a : ℕ) → (2 * k + a) % 2 ≡ a % 2
even_more k a = omega arith

unknown : {A B : Type 0} {n : ℕ} (b : Bool) (x : A) (y : B) (p : ℕ) → ◌≡◌ {A = Step ℕ A} (no n) (pick b (no 5) (ok x p))
    → ◌≡◌ {A = Step ℕ B} (no n) (pick b (no 5) (ok y p))
unknown {n = n} true x y p e = let same : n ≡ 5 = cc in ap no same
unknown false x y p e = cc

known : (b : Bool) (k m p : ℕ) → ok k p ≡ pick b (no 5) (ok m p) → (b ≡ false) × (k ≡ m)
known true k m p e = cc
known false k m p e = (refl, cc)

module _ (v : ℕ) (bytes : List ℕ) (e : bytes ≡ big_endian 2 v) where
  low : get_or bytes 1 0 ≡ v % 256
  low = ap (λ (l : List ℕ). get_or l 1 0) e ∙ second_byte v

  bit_is : (d k : ℕ) → v / d ≡ 2 * (k * (v / 256)) + v % 256 / d → eqb (get_or bytes 1 0 / d % 2) 1 ≡ eqb (v / d % 2) 1
  bit_is d k h = ap (λ (b : ℕ). eqb b 1) (ap (λ (b : ℕ). b / d % 2) low ∙ sym (ap (λ (b : ℕ). b % 2) h ∙ even_more (k * (v / 256)) (v % 256 / d)))

  codec : get_or bytes 1 0 % 8 ≡ v % 8
  codec = omega (arith, low)

  abbrev coded : ℕ → Step ℕ ℕ
  coded p = pick (ltb 4 (get_or bytes 1 0 % 8)) (no 5) (ok (get_or bytes 1 0 % 8) p)

  pub attributes_unknown : {n : ℕ} (p : ℕ) → no n ≡ coded p → no n ≡ attributes_by v p
  attributes_unknown p e = unknown (ltb 4 (v % 8)) (v % 8) (apart v) p (rw codec at e)

  pub attributes_are : (k p : ℕ) → ok k p ≡ coded p → (t : RecordBatchTimestampType)
      → view_type t ≡ pick (eqb (get_or bytes 1 0 / 8 % 2) 1) log_append_time create_time
      → ◌≡◌ {A = Step ℕ Judgement.Attributes} (ok (record {
        codec = k;
        timestamp_type = view_type t;
        transactional = eqb (get_or bytes 1 0 / 16 % 2) 1;
        control = eqb (get_or bytes 1 0 / 32 % 2) 1;
      }) p) (attributes_by v p)
  attributes_are k p e t f =
      let (is_known, codec) = known (ltb 4 (v % 8)) k (v % 8) p (rw codec at e) in
      let stamp = f ∙ ap (λ (b : Bool). pick b log_append_time create_time) (bit_is 8 16 (omega arith)) in
      let transactional = bit_is 16 8 (omega arith) in
      let control = bit_is 32 4 (omega arith) in
      rw is_known
      (λ i. ok (record { codec = codec i; timestamp_type = stamp i; transactional = transactional i; control = control i }) p)

module _ (s : List ℕ) (at : ℕ) where
  pub attributes_refused : {n : ℕ} → no n ≡ integer_at 2 s at → no n ≡ attributes_at s at
  unfolding attributes_at integer_at
  attributes_refused e = rw (map_no (signed_by (2 ^ 15)) (unsigned_at 2 s at) (sym e))

  pub attributes_said : (x : ℤ) (next : ℕ) → ok x next ≡ integer_at 2 s at → ((i : ℕ) → Fits w8 (get_or s i 0))
      → attributes_by (complement 16 x) next ≡ attributes_at s at
  unfolding attributes_at integer_at
  attributes_said x next e bytes =
      let (v, there, is) = map_ok (signed_by (2 ^ 15)) (unsigned_at 2 s at) (sym e) in
      let below : v < 2 ^ 16 = omega (arith, unsigned_value 2 s at there, big_below 2 s at (λ i. (bytes i).fits)) in
      let raw : complement 16 x ≡ v = sym (sym (complement_of_signed 16 v (omega arith) below) ∙ ap (complement 16) is) in
      rw there (ap (λ (n : ℕ). attributes_by n next) raw)

-- Which entries a batch can have, by what the code finds of each; and what is asked for by the fields and the kind that
-- they give. The premises have the form in which a proof finds them. Assumes nothing.
use Prim.Native.Nat.{◌*◌}
use mathlib.Core.Path.{◌≡◌, refl, sym, ap, ◌∙◌}
use mathlib.Core.Bool.{Bool, true, false}
use mathlib.Core.Option.{none, some}
use mathlib.Core.List.{List}
use lib.IntN.{ℤ, pos, negsuc}
use lib.ListN.{get_or}
use mir.Syntax.{Width, w64}
use mir.Val.{SFits, to_z, of_z, bytes}
use mir.ValLaws.{to_z-of_z}
use Rattle.std.specs.Prelude.{Result, Ok, Err, Some, None}
use Rattle.std.specs.Prelude as std
use Rattle.std.specs.Result.{OkIff, result_ok}
use Rattle.numbers.specs.Format.{InBits, in_bits}
use Rattle.numbers.proofs.InBits.{test_in, tested_in}
use Rattle.numbers.proofs.Picks.{both_hold}
use Rattle.numbers.proofs.Widths.{sign_bit}
use Rattle.layout.specs.Batch.{TimestampType, Fields}
use Rattle.opening.specs.Judgement.{is}
use Rattle.batches.specs.declared.RecordBatch.{RecordBatch}
use Rattle.batches.specs.Answers.{view_fields}
use Rattle.oddrafisk.specs.Entries.{is0or1, widths_fit, flags_fit, fields_fit, fields_of}
use Rattle.oddrafisk.specs.Words.{view_option, when}

-- ---- a number of a narrower width, as try_from gives it

module _ (w : Width) (z : ℤ) where
  fits_width : InBits (8 * bytes w) z → SFits w z
  fits_width = go z
    where
      go : (y : ℤ) → InBits (8 * bytes w) y → SFits w y
      go (pos n) h = record { sfits = rw (sign_bit w) at h }
      go (negsuc j) h = record { sfits = rw (sign_bit w) at h }

  width_fits : SFits w z → InBits (8 * bytes w) z
  width_fits = go z
    where
      go : (y : ℤ) → SFits w y → InBits (8 * bytes w) y
      go (pos n) h = rw (sign_bit w) h.sfits
      go (negsuc j) h = rw (sign_bit w) h.sfits

  module _ {E : Type 0} (fits : SFits w64 z) (r : Result ℤ E) (e : OkIff r (SFits w (to_z w64 (of_z w64 z))) (to_z w64 (of_z w64 z))) (o : std.Option ℤ) (same : o ≡ result_ok r) where
    known : OkIff r (SFits w z) z
    known = rw (to_z-of_z w64 z fits) at e

    pub too_wide : o ≡ None → in_bits (8 * bytes w) z ≡ true → ⊥
    too_wide h t = go r known (sym same ∙ h)
      where
        go : (r : Result ℤ E) → OkIff r (SFits w z) z → result_ok r ≡ None → ⊥
        go (Ok x) k m = cc
        go (Err x) k m = k (fits_width (tested_in (8 * bytes w) z t))

    pub narrow : (x : ℤ) → o ≡ Some x → (in_bits (8 * bytes w) z ≡ true) × (to_z w (of_z w x) ≡ z)
    narrow x h = go r known (sym same ∙ h)
      where
        go : (r : Result ℤ E) → OkIff r (SFits w z) z → result_ok r ≡ Some x → (in_bits (8 * bytes w) z ≡ true) × (to_z w (of_z w x) ≡ z)
        go (Ok y) (f, is) m = let s : x ≡ z = cc in (test_in (8 * bytes w) z (width_fits f), rw s (to_z-of_z w z f))
        go (Err y) k m = cc

-- ---- what is told of a number, where a test holds of it

module _ {A B : Type 0} (view : A → B) (test : ℤ → Bool) (f : ℤ → B) (z : ℤ) (fits : SFits w64 z) (r : std.Option A)
    (e : view_option view r ≡ when (test (to_z w64 (of_z w64 z))) (f (to_z w64 (of_z w64 z)))) where
  told : view_option view r ≡ when (test z) (f z)
  told = rw (to_z-of_z w64 z fits) at e

  pub none_told : r ≡ None → test z ≡ true → ⊥
  none_told h t = let n : none ≡ some (f z) = ap (view_option view) (sym h) ∙ told ∙ rw t refl in cc

  pub some_told : (a : A) → r ≡ Some a → (test z ≡ true) × (view a ≡ f z)
  some_told a h = go (test z) (ap (view_option view) (sym h) ∙ told)
    where
      go : (t : Bool) → some (view a) ≡ when t (f z) → (t ≡ true) × (view a ≡ f z)
      go true m = let s : view a ≡ f z = cc in (refl, s)
      go false m = cc

-- ---- which entries fit

pub record Fit (e : List ℤ) : Type 0 where
  pub epoch : in_bits 32 (get_or e 1 (pos 0)) ≡ true
  pub delta : in_bits 32 (get_or e 2 (pos 0)) ≡ true
  pub producer : in_bits 16 (get_or e 6 (pos 0)) ≡ true
  pub sequence : in_bits 32 (get_or e 7 (pos 0)) ≡ true
  pub type : is0or1 (get_or e 8 (pos 0)) ≡ true
  pub flag : is0or1 (get_or e 9 (pos 0)) ≡ true
  pub first : is 0 (get_or e 14 (pos 0)) ≡ true
  pub second : is 0 (get_or e 15 (pos 0)) ≡ true

pub fit : (e : List ℤ) → fields_fit e ≡ true → Fit e
fit e h =
    let (w, x) = both_hold (widths_fit e) (flags_fit e) h in
    let (epoch, w) = both_hold (in_bits 32 (get_or e 1 (pos 0))) _ w in
    let (delta, w) = both_hold (in_bits 32 (get_or e 2 (pos 0))) _ w in
    let (producer, sequence) = both_hold (in_bits 16 (get_or e 6 (pos 0))) _ w in
    let (type, x) = both_hold (is0or1 (get_or e 8 (pos 0))) _ x in
    let (flag, x) = both_hold (is0or1 (get_or e 9 (pos 0))) _ x in
    let (first, second) = both_hold (is 0 (get_or e 14 (pos 0))) _ x in
    record {
      epoch = epoch;
      delta = delta;
      producer = producer;
      sequence = sequence;
      type = type;
      flag = flag;
      first = first;
      second = second;
    }

pub unfit : (e : List ℤ) {r : std.Option RecordBatch} → r ≡ None → (fields_fit e ≡ true → ⊥) → view_option view_fields r ≡ when (fields_fit e) (fields_of e)
unfit e h never = ap (view_option view_fields) h ∙ go (fields_fit e) never
  where
    go : (t : Bool) → (t ≡ true → ⊥) → none ≡ when t (fields_of e)
    go true n = absurd (n refl)
    go false n = refl

-- ---- fields that are equal, one by one

pub fields_same : {a0 a1 a2 a3 a4 a5 a6 a7 b0 b1 b2 b3 b4 b5 b6 b7 : ℤ} {a8 b8 : TimestampType} {a9 b9 : Bool} → a0 ≡ b0 → a1 ≡ b1 → a2 ≡ b2
    → a3 ≡ b3 → a4 ≡ b4 → a5 ≡ b5 → a6 ≡ b6 → a7 ≡ b7 → a8 ≡ b8 → a9 ≡ b9
    → ◌≡◌ {A = Fields}
    (record {
      base_offset = a0;
      partition_leader_epoch = a1;
      last_offset_delta = a2;
      first_timestamp = a3;
      max_timestamp = a4;
      producer_id = a5;
      producer_epoch = a6;
      base_sequence = a7;
      timestamp_type = a8;
      transactional = a9;
    })
    (record {
      base_offset = b0;
      partition_leader_epoch = b1;
      last_offset_delta = b2;
      first_timestamp = b3;
      max_timestamp = b4;
      producer_id = b5;
      producer_epoch = b6;
      base_sequence = b7;
      timestamp_type = b8;
      transactional = b9;
    })
fields_same e0 e1 e2 e3 e4 e5 e6 e7 e8 e9 =
    λ i. record {
      base_offset = e0 i;
      partition_leader_epoch = e1 i;
      last_offset_delta = e2 i;
      first_timestamp = e3 i;
      max_timestamp = e4 i;
      producer_id = e5 i;
      producer_epoch = e6 i;
      base_sequence = e7 i;
      timestamp_type = e8 i;
      transactional = e9 i;
    }

pub fitting : (e : List ℤ) (x : Fields) → x ≡ fields_of e → Fit e → some x ≡ when (fields_fit e) (fields_of e)
fitting e x same w =
    ap some same ∙ sym (rw (w.epoch, w.delta, w.producer, w.sequence, w.type, w.flag, w.first, w.second) refl)

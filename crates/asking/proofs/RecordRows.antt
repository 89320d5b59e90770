-- A record's row, as the machine reads it. Assumes nothing.
use Prim.Native.Nat.{ℕ, ◌*◌, ◌/◌}
use mathlib.Core.Path.{◌≡◌, refl, sym, ap, ◌∙◌}
use mathlib.Core.Bool.{Bool, true, false}
use mathlib.Core.Option.{Option}
use mathlib.Core.List.{List}
use native.Mathlib.Nat.{add-zero}
use lib.IntN.{ℤ, pos, negsuc}
use lib.ListN.{length, get_or}
use mir.Syntax.{w32, w64}
use mir.Val.{SFits, to_z, of_z}
use mir.ValLaws.{to_z-of_z}
use Rattle.std.proofs.Common as std
use Rattle.numbers.specs.Format.{in_bits}
use Rattle.numbers.proofs.InBits.{test_in, tested_in, in_bits_lem}
use Rattle.numbers.proofs.Picks.{second_fails}
use Rattle.primitives.specs.declared.Span as declared
use Rattle.primitives.specs.Reading.{Span}
use Rattle.primitives.specs.Step.{Step, ok, no}
use Rattle.records.specs.Rows.{cell, Tables}
use Rattle.asking.specs.Asked.{asked_nullable, asked_count, deltas_fit, head_asked}
use Rattle.asking.specs.Answers.{span_of, head_of}
use Rattle.asking.proofs.Places.{placed, nullable_placed, count_placed}

-- a number of 32 bits
fits_32 : (z : ℤ) → in_bits 32 z ≡ true → SFits w32 z
fits_32 (pos n) e = record { sfits = tested_in 32 (pos n) e }
fits_32 (negsuc k) e = record { sfits = tested_in 32 (negsuc k) e }

module _ (t : Tables) (s : List ℕ) (row first : ℕ) where
  -- a number of the row, and as it is passed on
  abbrev number : ℕ → ℤ
  number k = cell 8 t.records row k

  abbrev passed : ℕ → ℤ
  passed k = to_z w64 (of_z w64 (number k))

  abbrev Fits : ℕ → Type 0
  Fits k = SFits w64 (number k)

  pub offset_wide : Fits 1 → (SFits w32 (passed 1) → ⊥) → no 21 ≡ head_asked t s row first
  unfolding head_asked
  offset_wide f h = go (in_bits 32 (number 1)) refl
    where
      go : (b : Bool) → in_bits 32 (number 1) ≡ b → no 21 ≡ head_asked t s row first
      go true e = absurd (h (rw (to_z-of_z w64 (number 1) f) (fits_32 (number 1) e)))
      go false e = rw (e, second_fails (in_bits 64 (number 0))) refl

  -- two numbers as they are passed on
  at_row : (a b : ℕ) → Fits a → Fits b → {x : Step ℕ (Option Span)} → x ≡ asked_nullable (length s) (passed a) (passed b) 0
      → asked_nullable (length s) (number a) (number b) row ≡ placed row x
  at_row a b f g e =
      nullable_placed (length s) (number a) (number b) row
      ∙ ap (placed row) (sym (e ∙ (λ i. asked_nullable (length s) (to_z-of_z w64 (number a) f i) (to_z-of_z w64 (number b) g i) 0)))

  module _ (f0 : SFits w64 (get_or t.records (row * 8) (pos 0))) (f1 : Fits 1) (o : ℤ) (h : SFits w32 (passed 1) × (o ≡ passed 1)) (f2 : Fits 2)
      (f3 : Fits 3) where
    d_same : to_z w64 (of_z w64 (get_or t.records (row * 8) (pos 0))) ≡ number 0
    d_same = to_z-of_z w64 _ f0 ∙ ap (λ (i : ℕ). get_or t.records i (pos 0)) (sym (add-zero (row * 8)))

    o_same : to_z w32 (of_z w32 o) ≡ number 1
    o_same = rw h.1 (to_z-of_z w32 (passed 1) h.0) ∙ to_z-of_z w64 (number 1) f1

    small : deltas_fit (number 0) (number 1) ≡ true
    small =
        let wide : in_bits 64 (get_or t.records (row * 8) (pos 0)) ≡ true
        = test_in 64 (get_or t.records (row * 8) (pos 0)) (in_bits_lem w64 (get_or t.records (row * 8) (pos 0)) f0.sfits) in
        let narrow : in_bits 32 (passed 1) ≡ true = test_in 32 (passed 1) (in_bits_lem w32 (passed 1) h.0.sfits) in
        rw (add-zero (row * 8), wide) (rw (to_z-of_z w64 (number 1) f1) at narrow)

    pub key_wrong : (n : ℕ) → no n ≡ asked_nullable (length s) (passed 2) (passed 3) 0 → no n ≡ head_asked t s row first
    unfolding head_asked
    key_wrong n e = rw (small, at_row 2 3 f2 f3 e) refl

    module _ (k : std.Option declared.Span) (e : ok (span_of k) 0 ≡ asked_nullable (length s) (passed 2) (passed 3) 0) (f4 : Fits 4) (f5 : Fits 5) where
      pub value_wrong : (n : ℕ) → no n ≡ asked_nullable (length s) (passed 4) (passed 5) 0 → no n ≡ head_asked t s row first
      unfolding head_asked
      value_wrong n g = rw (small, at_row 2 3 f2 f3 e, at_row 4 5 f4 f5 g) refl

      module _ (v : std.Option declared.Span) (g : ok (span_of v) 0 ≡ asked_nullable (length s) (passed 4) (passed 5) 0) (f6 : Fits 6) (f7 : Fits 7) where
        count_is : {x : Step ℕ ℕ} → x ≡ asked_count (length t.headers / 4) first (passed 6) (passed 7) 0
            → asked_count (length t.headers / 4) first (number 6) (number 7) row ≡ placed row x
        count_is i =
            count_placed (length t.headers / 4) first (number 6) (number 7) row
            ∙ ap (placed row)
            (sym (i ∙ (λ j. asked_count (length t.headers / 4) first (to_z-of_z w64 (number 6) f6 j) (to_z-of_z w64 (number 7) f7 j) 0)))

        pub count_wrong : (n : ℕ) → no n ≡ asked_count (length t.headers / 4) first (passed 6) (passed 7) 0 → no n ≡ head_asked t s row first
        unfolding head_asked
        count_wrong n i = rw (small, at_row 2 3 f2 f3 e, at_row 4 5 f4 f5 g, count_is i) refl

        pub record_got : (m : ℕ) → ok m 0 ≡ asked_count (length t.headers / 4) first (passed 6) (passed 7) 0
            → ok
            (head_of
            (record {
              timestamp_delta = to_z w64 (of_z w64 (get_or t.records (row * 8) (pos 0)));
              offset_delta = to_z w32 (of_z w32 o);
              key = k;
              value = v;
              headers = m;
            }))
            row
            ≡ head_asked t s row first
        unfolding head_asked
        record_got m i = rw (d_same, o_same) (rw (small, at_row 2 3 f2 f3 e, at_row 4 5 f4 f5 g, count_is i) refl)

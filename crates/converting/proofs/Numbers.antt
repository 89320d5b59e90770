-- The numbers of the conversion are keyed mode's, but for 41: there alone the old rules accept a marker, and it is
-- converted. Assumes nothing.
use Prim.Native.Nat.{ℕ, ◌≤◌}
use mathlib.Core.Path.{◌≡◌, refl, sym, ap, ◌∙◌, subst}
use mathlib.Core.Logic.{inl, inr}
use mathlib.Core.List.{List}
use native.Mathlib.Omega.{arith}
use native.Mathlib.Decide.{dec_le}
use borrow.Author.Tests.{le-leb, lt-leb}
use lib.ListN.{length}
use Rattle.numbers.specs.Exactly.{Exactly}
use Rattle.layout.specs.declared.ControlMode.{ControlMode}
use Rattle.opening.specs.Judgement.{Judged, Judgement, more, refused, accepted, Accepted, way_of, judge}
use Rattle.opening.proofs.Verdicts.{more_not_accepted, more_not_refused, refused_not_accepted, same_accepted}
use Rattle.batches.specs.Answers.{Standing}
use Rattle.batches.proofs.Numbers.{refusals, ways_within}
use Rattle.converting.specs.Conversion.{Conversion, copied, conversion_of}
use Rattle.converting.specs.Answers.{Answer, answer_of}
use Rattle.converting.specs.Statements.{NumbersOf, ConvertedNumbers, ConvertNumbersOf, ConvertNumbers}
use Rattle.converting.proofs.Cases.{either}

module _ (s : List ℕ) where
  -- ---- what is copied is what is read

  copied_more : (j : Judgement) (n : ℕ) → Exactly (copied s j ≡ more n) (j ≡ more n)
  copied_more (more k) n = (λ e. cc, λ e. cc)
  copied_more (refused k) n = (λ e. more_not_refused (sym e), λ e. more_not_refused (sym e))
  copied_more (accepted b) n = (λ e. more_not_accepted (sym e), λ e. more_not_accepted (sym e))

  copied_refused : (j : Judgement) (n : ℕ) → Exactly (copied s j ≡ refused n) (j ≡ refused n)
  copied_refused (more k) n = (λ e. more_not_refused e, λ e. more_not_refused e)
  copied_refused (refused k) n = (λ e. cc, λ e. cc)
  copied_refused (accepted b) n = (λ e. refused_not_accepted (sym e), λ e. refused_not_accepted (sym e))

  copied_accepted : (j : Judgement) → Exactly ((c : Conversion) × (copied s j ≡ accepted c)) ((b : Accepted) × (j ≡ accepted b))
  copied_accepted (more k) = (λ (_, e). more_not_accepted e, λ (_, e). more_not_accepted e)
  copied_accepted (refused k) = (λ (_, e). refused_not_accepted e, λ (_, e). refused_not_accepted e)
  copied_accepted (accepted b) = (λ _. (b, refl), λ _. (_, refl))

  -- ---- both cases

  rekeyed_numbers : (c : Conversion) → conversion_of s ≡ accepted c → judge ControlMode.Keyed s ≡ refused 41 → NumbersOf s
  rekeyed_numbers c e f =
      record {
        wanting = λ n. (λ g. more_not_accepted (sym g ∙ e), λ g. more_not_refused (sym g ∙ f));
        refusing = λ n. (
          λ g. refused_not_accepted (sym g ∙ e),
          λ (g, h). absurd (h (let w : refused n ≡ refused 41 = sym g ∙ f in cc)),
        );
        standing = λ n g. refused_not_accepted (sym g ∙ e);
        accepting = (λ _. inr f, λ _. (c, e));
      }

  module _ (e : conversion_of s ≡ copied s (judge ControlMode.Keyed s)) (h : judge ControlMode.Keyed s ≡ refused 41 → ⊥) where
    abbrev read : Judgement
    read = judge ControlMode.Keyed s

    refused_there : (n : ℕ) → conversion_of s ≡ refused n → (read ≡ refused n) × (n ≡ 41 → ⊥)
    refused_there n f =
        let g = (copied_refused read n).0 (sym e ∙ f) in
        (g, λ w. h (g ∙ ap refused w))

    copied_numbers : NumbersOf s
    copied_numbers =
        record {
          wanting = λ n. (λ f. (copied_more read n).0 (sym e ∙ f), λ f. e ∙ (copied_more read n).1 f);
          refusing = λ n. (refused_there n, λ (f, _). e ∙ (copied_refused read n).1 f);
          standing = λ n f.
              let (g, w) = refused_there n f in
              (refusals (way_of ControlMode.Keyed) (ways_within ControlMode.Keyed) s 0 0 n g, w);
          accepting = (
            λ (c, f). inl ((copied_accepted read).0 (c, sym e ∙ f)),
            λ f. elim f [
              | inl x ↦ let (c, g) = (copied_accepted read).1 x in (c, e ∙ g)
              | inr x ↦ absurd (h x)
            ],
          );
        }

pub converted_numbers : ConvertedNumbers
converted_numbers s =
    elim (either s) [
      | inl (_, e, f) ↦ rekeyed_numbers s _ e f
      | inr (e, h) ↦ copied_numbers s e h
    ]

-- ---- of the function

-- what stands is neither 0 nor 1, and not 24
standing_not_24 : {n : ℕ} → Standing n → (2 ≤ n) × (n ≡ 24 → ⊥)
standing_not_24 (inl (l, h)) = (l, λ e. omega arith)
standing_not_24 (inr e) = (omega arith, λ f. omega arith)

module _ (s out : List ℕ) (n : ℕ) where
  numbers_by : (j : Judged Conversion) → conversion_of s ≡ j → n ≡ (answer_of j (length out)).number → ConvertNumbersOf s out n
  numbers_by (more k) e f =
      record {
        done = (λ g. absurd (omega arith), λ (c, g, _). more_not_accepted (sym e ∙ g));
        one = (λ _. (k, e), λ _. f);
        standing = (λ g. absurd (omega (arith, (standing_not_24 g).0)), λ g. more_not_refused (sym e ∙ g));
        twenty_four = (λ g. absurd (omega arith), λ (c, g, _). more_not_accepted (sym e ∙ g));
        no_other = inr (inl f);
      }
  numbers_by (refused k) e f =
      let (stands, other) = (converted_numbers s).standing k e in
      let (least, room) = standing_not_24 stands in
      record {
        done = (λ g. absurd (omega arith), λ (c, g, _). refused_not_accepted (sym e ∙ g));
        one = (λ g. absurd (omega arith), λ (_, g). more_not_refused (sym g ∙ e));
        standing = (λ _. e ∙ ap refused (sym f), λ _. subst Standing (sym f) stands);
        twenty_four = (λ g. absurd (room (sym f ∙ g)), λ (c, g, _). refused_not_accepted (sym e ∙ g));
        no_other = inr (inr (inr (subst Standing (sym f) stands, λ g. other (sym f ∙ g))));
      }
  numbers_by (accepted c) e f =
      elim (dec_le (length c.given) (length out)) [
        | yes h ↦
            let zero : n ≡ 0 = f ∙ rw (le-leb (length c.given) (length out) h) refl in
            record {
              done = (λ _. (c, e, h), λ _. zero);
              one = (λ g. absurd (omega arith), λ (_, g). more_not_accepted (sym g ∙ e));
              standing = (λ g. absurd (omega (arith, (standing_not_24 g).0)), λ g. refused_not_accepted (sym g ∙ e));
              twenty_four = (
                λ g. absurd (omega arith),
                λ (d, g, l). let same = ap (λ (c : Conversion). length c.given) (same_accepted (sym e ∙ g)) in absurd (omega arith),
              );
              no_other = inl zero;
            }
        | Dec.no h ↦
            let short : n ≡ 24 = f ∙ rw (lt-leb (length c.given) (length out) (omega arith)) refl in
            record {
              done = (
                λ g. absurd (omega arith),
                λ (d, g, l). let same = ap (λ (c : Conversion). length c.given) (same_accepted (sym e ∙ g)) in absurd (omega arith),
              );
              one = (λ g. absurd (omega arith), λ (_, g). more_not_accepted (sym g ∙ e));
              standing = (λ g. absurd ((standing_not_24 g).1 short), λ g. refused_not_accepted (sym g ∙ e));
              twenty_four = (λ _. (c, e, omega arith), λ _. short);
              no_other = inr (inr (inl short));
            }
      ]

pub convert_numbers : ConvertNumbers
convert_numbers s out o p = numbers_by s out _ (conversion_of s) refl (ap (λ (a : Answer). a.number) p.answer)

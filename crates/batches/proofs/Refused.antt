-- Where a refusal comes from, as a type: each place refuses by its own numbers, and what is refused is refused at one
-- of them. Assumes nothing.
use Prim.Native.Nat.{ℕ, ◌+◌}
use mathlib.Core.Path.{◌≡◌, sym, ap, ◌∙◌, subst}
use mathlib.Core.Bool.{Bool, true, false}
use mathlib.Core.Logic.{◌⊎◌, inl, inr}
use mathlib.Core.List.{List}
use native.Mathlib.Decide.{ℕ_discrete}
use borrow.Author.Tests.{eq-eqb, ne_eqb}
use lib.ListN.{take, drop}
use Rattle.primitives.specs.Step.{Step, ok, no, and_then, map_step}
use Rattle.primitives.proofs.Steps.{and_then_no, map_no}
use Rattle.crc32c.specs.Crc.{crc32c}
use Rattle.records.specs.Judgement.{records_at}
use Rattle.layout.specs.Table.{table}
use Rattle.layout.specs.Batch.{control, records}
use Rattle.opening.specs.Judgement.{Judged, more, refused, accepted, Accepted, unsigned_in, attributes_in, fields_in, total_at, opened_at, Control, content_at, whole_at, judgement_of, judge_whole, judge_with}
use Rattle.opening.proofs.Verdicts.{more_not_refused, refused_not_accepted}
use Rattle.opening.proofs.Tests.{Totals, totals, total_is, Openings, openings, opening_is}

-- ---- of the batch's bytes

-- the checksum is right
abbrev pub Right : List ℕ → ℕ → Type 0
Right s at = unsigned_in table.crc s at ≡ crc32c (drop (at + 21) s)

-- the checksum, what is met before the marker or the records, or these
pub data WholeRefusal (way : Control) (s : List ℕ) (at : ℕ) : ℕ → Type 0 where
  differs : (Right s at → ⊥) → WholeRefusal way s at 4
  unopened : {n : ℕ} → Right s at → Openings s at (no n) → WholeRefusal way s at n
  unread : {m p n : ℕ} → Right s at → opened_at s at ≡ ok m p → content_at way (attributes_in s at).control s m p ≡ no n
      → WholeRefusal way s at n

module _ (way : Control) (s : List ℕ) (at first total : ℕ) where
  differs_is : (Right s at → ⊥) → whole_at way s at first total ≡ no 4
  unfolding whole_at
  differs_is c = rw (ne_eqb (unsigned_in table.crc s at) (crc32c (drop (at + 21) s)) c)

  right_is : Right s at
      → whole_at way s at first total
      ≡ and_then (opened_at s at) (λ m p.
      map_step (λ c. record { fields = fields_in s at; content = c; first_header = first; consumed = total })
      (content_at way (attributes_in s at).control s m p))
  unfolding whole_at
  right_is c = rw (eq-eqb (unsigned_in table.crc s at) (crc32c (drop (at + 21) s)) c)

  whole_refusal : {n : ℕ} → whole_at way s at first total ≡ no n → WholeRefusal way s at n
  whole_refusal {n} e =
      elim (ℕ_discrete (unsigned_in table.crc s at) (crc32c (drop (at + 21) s))) [
        | yes c ↦
            elim (and_then_no (opened_at s at) _ (sym (right_is c) ∙ e)) [
              | inl f ↦ unopened c (subst (Openings s at) f (openings s at))
              | inr (m, p, f, g) ↦ unread c f (map_no _ (content_at way (attributes_in s at).control s m p) g)
            ]
        | Dec.no c ↦ let w : 4 ≡ n = cc (differs_is c, e) in subst (WholeRefusal way s at) w (differs c)
      ]

  whole_refused : {n : ℕ} → WholeRefusal way s at n → whole_at way s at first total ≡ no n
  whole_refused (differs c) = differs_is c
  whole_refused (unopened {n} c f) = right_is c ∙ rw (opening_is s at (no n) f)
  whole_refused (unread c f g) = right_is c ∙ rw (f, g)

-- ---- of the judgement

-- length and magic, or the batch's bytes
pub data Refusal (way : Control) (s : List ℕ) (at : ℕ) : ℕ → Type 0 where
  unsized : {n : ℕ} → Totals s at (refused n) → Refusal way s at n
  sized : {total n : ℕ} → Totals s at (accepted total) → WholeRefusal way (take (at + total) s) at n → Refusal way s at n

judgement_no : (x : Step ℕ Accepted) {n : ℕ} → judgement_of x ≡ refused n → x ≡ no n
judgement_no (ok b p) e = refused_not_accepted (sym e)
judgement_no (no m) {n} e = let w : m ≡ n = cc in ap no w

module _ (way : Control) (s : List ℕ) (at first : ℕ) where
  total_refusal : {n : ℕ} (x : Judged ℕ) → Totals s at x → judge_whole way s at first x ≡ refused n → Refusal way s at n
  total_refusal (more m) t e = more_not_refused e
  total_refusal {n} (refused m) t e = let w : m ≡ n = cc in subst (Refusal way s at) w (unsized t)
  total_refusal (accepted total) t e = sized t (whole_refusal way (take (at + total) s) at first total (judgement_no _ e))

  pub refusal : {n : ℕ} → judge_with way s at first ≡ refused n → Refusal way s at n
  unfolding judge_with
  refusal e = total_refusal (total_at s at) (totals s at) e

  pub refused_is : {n : ℕ} → Refusal way s at n → judge_with way s at first ≡ refused n
  unfolding judge_with
  refused_is (unsized {n} t) = rw (total_is s at (refused n) t)
  refused_is (sized {total} t w) = rw (total_is s at (accepted total) t, whole_refused way (take (at + total) s) at first total w)

-- a control batch is refused as its way refuses, another as its records are
pub content_no : (way : Control) (t : Bool) (s : List ℕ) (m p : ℕ) {n : ℕ} → content_at way t s m p ≡ no n
    → (way s p ≡ no n) ⊎ (records_at s m p ≡ no n)
content_no way true s m p e = inl (map_no control (way s p) e)
content_no way false s m p e = inr (map_no records (records_at s m p) e)

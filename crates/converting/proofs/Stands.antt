-- A conversion stands: both judgements do, and what is given is made of bytes of the batch. So the answers by it are
-- those of one conversion. Assumes nothing.
use Prim.Native.Nat.{ℕ, ◌-◌, ◌≤◌, ◌<◌}
use mathlib.Core.Path.{◌≡◌, refl, sym, ap, ◌∙◌, subst}
use mathlib.Core.Logic.{inl, inr}
use mathlib.Core.List.{List, ◌++◌}
use native.Mathlib.Omega.{arith}
use native.Mathlib.Decide.{dec_lt}
use borrow.Author.Tests.{le-leb, lt-leb}
use lib.ListN.{length, take, drop, length-drop}
use lib.Seq.{take-append-le, drop-append-le, take-append_seam, drop-append_seam}
use Rattle.layout.specs.declared.ControlMode.{ControlMode}
use Rattle.layout.specs.Table.{fixed_part}
use Rattle.layout.specs.Batch.{Marker}
use Rattle.opening.specs.Judgement.{Judged, Judgement, more, refused, accepted, way_of, bare_marker_at, judge_with, judge}
use Rattle.opening.proofs.Verdicts.{more_not_accepted}
use Rattle.batches.specs.Statements.{FormerMarker}
use Rattle.batches.proofs.Stands.{judge_stands_with, judge_stands}
use Rattle.converting.specs.Conversion.{Conversion, between, rekeyed_checked, rekeyed, copied, conversion_of}
use Rattle.converting.specs.Answers.{Answer, gives, refuses, view_converted, answer_of, output_of}
use Rattle.converting.specs.Promises.{ConvertOutcome, ConvertPromise}
use Rattle.converting.specs.Statements.{SameConversion, ConvertStands, ConvertUntouched}
use Rattle.converting.proofs.Cases.{marker_converts, either}
use Rattle.converting.proofs.Single.{view_converted_injective}
use Rattle.converting.proofs.Within.{accepted_within}

-- ---- the conversion

module _ (s after : List ℕ) where
  between_longer : (from to : ℕ) → from ≤ to → to ≤ length s → between from to (s ++ after) ≡ between from to s
  between_longer from to l h =
      ap (take (to - from)) (drop-append-le from s after (omega arith))
      ∙ take-append-le (to - from) (drop from s) after (omega (arith, length-drop from s))

  rekeyed_longer : (m : Marker) → fixed_part ≤ length s → rekeyed (s ++ after) m ≡ rekeyed s m
  unfolding rekeyed rekeyed_checked
  rekeyed_longer m h =
      let a = between_longer 0 8 (omega arith) (omega arith) in
      let b = between_longer 12 17 (omega arith) (omega arith) in
      let c = between_longer 21 61 (omega arith) (omega arith) in
      rw (a, b, c)

  marker_longer : FormerMarker s 0 0 → conversion_of (s ++ after) ≡ conversion_of s
  marker_longer x =
      let never : (n : ℕ) → judge_with bare_marker_at s 0 0 ≡ more n → ⊥ = λ n e. more_not_accepted (sym e ∙ x.judged) in
      let y : FormerMarker (s ++ after) 0 0
      = record {
        batch = x.batch;
        marker = x.marker;
        judged = judge_stands_with bare_marker_at 0 0 s after never ∙ x.judged;
        content = x.content;
      } in
      let (l, h) = accepted_within bare_marker_at s x.batch x.judged in
      marker_converts (s ++ after) y
      ∙ ap (λ (bs : List ℕ). accepted (record { taken = x.batch.consumed; given = bs })) (rekeyed_longer x.marker (omega arith))
      ∙ sym (marker_converts s x)

  copied_longer : (j : Judgement) → judge ControlMode.Keyed s ≡ j → copied (s ++ after) j ≡ copied s j
  copied_longer (more n) e = refl
  copied_longer (refused n) e = refl
  copied_longer (accepted b) e =
      ap (λ (bs : List ℕ). accepted (record { taken = b.consumed; given = bs }))
      (take-append-le b.consumed s after (accepted_within (way_of ControlMode.Keyed) s b e).1)

  pub conversion_stands : ((n : ℕ) → conversion_of s ≡ more n → ⊥) → conversion_of (s ++ after) ≡ conversion_of s
  conversion_stands never =
      elim (either s) [
        | inl (x, _, _) ↦ marker_longer x
        | inr (e, h) ↦
            let same = judge_stands ControlMode.Keyed s after (λ n f. never n (e ∙ ap (copied s) f)) in
            elim (either (s ++ after)) [
              | inl (_, _, f) ↦ absurd (h (sym same ∙ f))
              | inr (f, _) ↦ f ∙ ap (copied (s ++ after)) same ∙ copied_longer (judge ControlMode.Keyed s) refl ∙ sym e
            ]
      ]

-- ---- the answers by it

-- an outcome by a conversion, with an output
record By (j : Judged Conversion) (out : List ℕ) (o : ConvertOutcome) : Type 0 where
  answer : view_converted o.result ≡ answer_of j (length out)
  output : o.output ≡ output_of j out

promised : {s out : List ℕ} {o : ConvertOutcome} → ConvertPromise s out o → By (conversion_of s) out o
promised e = record { answer = e.answer; output = e.output }

abbrev number : ConvertOutcome → ℕ
number o = (view_converted o.result).number

module _ {c : Conversion} {out : List ℕ} {o : ConvertOutcome} (e : By (accepted c) out o) where
  abbrev size : ℕ
  size = length c.given

  with_room : size ≤ length out → (view_converted o.result ≡ gives c.taken size) × (o.output ≡ c.given ++ drop size out)
  with_room h = let w = le-leb size (length out) h in (e.answer ∙ rw w, e.output ∙ rw w)

  no_room : length out < size → (view_converted o.result ≡ refuses 24) × (o.output ≡ out)
  no_room h = let w = lt-leb size (length out) h in (e.answer ∙ rw w, e.output ∙ rw w)

  room : (number o ≡ 24 → ⊥) → size ≤ length out
  room twenty_four =
      elim (dec_lt (length out) size) [
        | yes h ↦ absurd (twenty_four (ap (λ (a : Answer). a.number) (no_room h).0))
        | no h ↦ omega arith
      ]

-- what is given has k bytes
same_given : (k : ℕ) {out out' : List ℕ} {o o' : ConvertOutcome} → (view_converted o.result).given ≡ k
    → view_converted o'.result ≡ view_converted o.result → take k o'.output ≡ take k o.output → drop k o.output ≡ drop k out
    → drop k o'.output ≡ drop k out' → SameConversion o o' out out'
same_given k {o = o} {o'} e r f g g' =
    record {
      result = view_converted_injective o'.result o.result r;
      given = rw e f;
      others = rw e g;
      others' = rw e g';
    }

same_by : (j : Judged Conversion) {out out' : List ℕ} {o o' : ConvertOutcome} → By j out o → By j out' o' → length out ≤ length out'
    → (number o ≡ 1 → ⊥) → (number o ≡ 24 → ⊥) → SameConversion o o' out out'
same_by (more n) e e' l one twenty_four = absurd (one (ap (λ (a : Answer). a.number) e.answer))
same_by (refused n) e e' l one twenty_four =
    same_given 0 (ap (λ (a : Answer). a.given) e.answer) (e'.answer ∙ sym e.answer) refl e.output e'.output
same_by (accepted c) {out} {out'} e e' l one twenty_four =
    let h = room e twenty_four in
    let (answer, output) = with_room e h in
    let (answer', output') = with_room e' (omega arith) in
    let n = length c.given in
    let begins : (out : List ℕ) → take n (c.given ++ drop n out) ≡ c.given = λ out. take-append_seam c.given (drop n out) in
    let ends : (out : List ℕ) → drop n (c.given ++ drop n out) ≡ drop n out = λ out. drop-append_seam c.given (drop n out) in
    same_given n (ap (λ (a : Answer). a.given) answer) (answer' ∙ sym answer)
    (ap (take n) output' ∙ begins out' ∙ sym (ap (take n) output ∙ begins out)) (ap (drop n) output ∙ ends out) (ap (drop n) output' ∙ ends out')

pub convert_stands : ConvertStands
convert_stands s after out out' o o' e e' l one twenty_four =
    let never : (n : ℕ) → conversion_of s ≡ more n → ⊥
    = λ n f. one (ap (λ (a : Answer). a.number) (e.answer ∙ ap (λ (j : Judged Conversion). answer_of j (length out)) f)) in
    let by = subst (λ (j : Judged Conversion). By j out' o') (conversion_stands s after never) (promised e') in
    same_by (conversion_of s) (promised e) by l one twenty_four

untouched_by : (j : Judged Conversion) {out : List ℕ} {o : ConvertOutcome} → By j out o → (number o ≡ 0 → ⊥) → o.output ≡ out
untouched_by (more n) e zero = e.output
untouched_by (refused n) e zero = e.output
untouched_by (accepted c) {out} e zero =
    elim (dec_lt (length out) (length c.given)) [
      | yes h ↦ (no_room e h).1
      | no h ↦ absurd (zero (ap (λ (a : Answer). a.number) (with_room e (omega arith)).0))
    ]

pub convert_untouched : ConvertUntouched
convert_untouched s out o e = untouched_by (conversion_of s) (promised e)

-- The conversion goes by what keyed mode says: 41 is where the old rules accept a marker, and there alone its bytes are
-- not copied. Assumes nothing.
use Prim.Native.Nat.{ℕ}
use mathlib.Core.Path.{◌≡◌, refl, sym, ap, ◌∙◌}
use mathlib.Core.Logic.{◌⊎◌, inl, inr}
use mathlib.Core.List.{List}
use native.Mathlib.Omega.{arith}
use Rattle.records.specs.Judgement.{RecordSpans}
use Rattle.layout.specs.declared.ControlMode.{ControlMode}
use Rattle.layout.specs.Batch.{Marker, Content, control, records}
use Rattle.opening.specs.Judgement.{Judgement, more, refused, accepted, Accepted, judge_with, bare_marker_at, judge}
use Rattle.opening.proofs.Verdicts.{more_not_accepted, refused_not_accepted, same_accepted}
use Rattle.batches.specs.Statements.{FormerMarker}
use Rattle.batches.proofs.Withdrawn.{withdrawn_at}
use Rattle.converting.specs.Conversion.{Conversion, rekeyed, copied, conversion_of}

-- what is given of a marker that stands alone
abbrev pub rekeyed_of : (s : List ℕ) → FormerMarker s 0 0 → Conversion
rekeyed_of s x = record { taken = x.batch.consumed; given = rekeyed s x.marker }

-- and this is given
pub marker_converts : (s : List ℕ) (x : FormerMarker s 0 0) → conversion_of s ≡ accepted (rekeyed_of s x)
unfolding conversion_of
marker_converts s x = rw (x.judged, x.content)

abbrev pub Either : List ℕ → Type 0
Either s =
    ((x : FormerMarker s 0 0) × (conversion_of s ≡ accepted (rekeyed_of s x)) × (judge ControlMode.Keyed s ≡ refused 41))
    ⊎ ((conversion_of s ≡ copied s (judge ControlMode.Keyed s)) × (judge ControlMode.Keyed s ≡ refused 41 → ⊥))

module _ (s : List ℕ) where
  -- nothing that the old rules do not accept is 41
  not_withdrawn : (FormerMarker s 0 0 → ⊥) → judge ControlMode.Keyed s ≡ refused 41 → ⊥
  not_withdrawn h e = h ((withdrawn_at ControlMode.Keyed s 0 0).0 e)

  records_not_control : {rs : List RecordSpans} {m : Marker} → records rs ≡ control m → ⊥
  records_not_control e = let z : ◌≡◌ {A = ℕ} 0 1 = cc in omega arith

  accepted_either : (b : Accepted) (c : Content RecordSpans) → judge_with bare_marker_at s 0 0 ≡ accepted b → b.content ≡ c → Either s
  unfolding conversion_of
  accepted_either b (control m) e f =
      let x : FormerMarker s 0 0 = record { batch = b; marker = m; judged = e; content = f } in
      inl (x, marker_converts s x, (withdrawn_at ControlMode.Keyed s 0 0).1 x)
  accepted_either b (records rs) e f =
      inr (
        rw (e, f),
        not_withdrawn (λ x. records_not_control (sym f ∙ ap (λ (b : Accepted). b.content) (same_accepted (sym e ∙ x.judged)) ∙ x.content)),
      )

  either_by : (j : Judgement) → judge_with bare_marker_at s 0 0 ≡ j → Either s
  unfolding conversion_of
  either_by (more n) e = inr (rw e, not_withdrawn (λ x. more_not_accepted (sym e ∙ x.judged)))
  either_by (refused n) e = inr (rw e, not_withdrawn (λ x. refused_not_accepted (sym e ∙ x.judged)))
  either_by (accepted b) e = accepted_either b b.content e refl

  pub either : Either s
  either = either_by (judge_with bare_marker_at s 0 0) refl

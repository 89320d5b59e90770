-- What is withdrawn: the judgement parts from the old rules' only at the marker, and there where one stands alone.
-- Assumes nothing.
use Prim.Native.Nat.{ℕ, ◌+◌}
use mathlib.Core.Path.{◌≡◌, refl, sym, ap, ◌∙◌, subst}
use mathlib.Core.Bool.{Bool, true, false}
use mathlib.Core.Logic.{◌⊎◌, inl, inr}
use mathlib.Core.List.{List}
use native.Mathlib.Omega.{arith}
use lib.ListN.{take}
use Rattle.numbers.specs.Bytes.{Bytes}
use Rattle.primitives.specs.Step.{Step, ok, no, map_step}
use Rattle.primitives.specs.Stands.{Encoding}
use Rattle.records.specs.Format.{Record}
use Rattle.records.specs.Judgement.{RecordSpans, records_at}
use Rattle.records.proofs.Refusals.{refusal_within}
use Rattle.layout.specs.declared.ControlMode.{ControlMode}
use Rattle.layout.specs.Batch.{Fields, Marker, control, records, Batch}
use Rattle.layout.specs.Format.{bare_grammar, BatchBytesWith}
use Rattle.opening.specs.Judgement.{Judged, Judgement, more, refused, accepted, Accepted, content_at, judge_with, bare_marker_at, former_way_of, withdrawn as unless, way_of, judge_at}
use Rattle.opening.specs.Opened.{KnownAt, open_at, judged_as, judged_from}
use Rattle.opening.proofs.Judging.{judged_by_opening}
use Rattle.opening.proofs.Verdicts.{more_not_accepted, refused_not_accepted, same_accepted}
use Rattle.markers.proofs.Bare.{bare_reads}
use Rattle.markers.proofs.Forms.{former_refuses}
use Rattle.batches.specs.Placed.{placed_batch, shown_content, shown_batch}
use Rattle.batches.specs.Statements.{former_at, FormerMarker, BareBatch, Withdrawn, WithdrawnAt, ElseAsBefore}
use Rattle.batches.proofs.Complete.{complete_with}
use Rattle.batches.proofs.Sound.{sound_with}
use Rattle.batches.proofs.Numbers.{refused_by_lem}

-- ---- the judgement, and what it was

-- a marker is accepted
abbrev Marked : Judgement → Type 0
Marked j = (b : Accepted) × (m : Marker) × (j ≡ accepted b) × (b.content ≡ control m)

-- of what is answered, what was answered, and what was answered in bare mode: nothing has changed, and no marker was
-- accepted in bare mode; or one was, and 41 is answered
abbrev Parted : Judgement → Judgement → Judgement → Type 0
Parted now former bare = ((now ≡ former) × (Marked bare → ⊥)) ⊎ ((now ≡ refused 41) × Marked bare)

module _ (x : Fields) (first total : ℕ) where
  marker_parted : (bare former : Step ℕ Marker)
      → Parted (judged_as x first total (map_step control (unless bare former))) (judged_as x first total (map_step control former))
      (judged_as x first total (map_step control bare))
  marker_parted (ok m p) former = inr (refl, (_, m, refl, refl))
  marker_parted (no n) former = inl (refl, λ (b, m, e, f). refused_not_accepted e)

  records_unmarked : (y : Step ℕ (List RecordSpans)) → Marked (judged_as x first total (map_step records y)) → ⊥
  records_unmarked (ok rs p) (b, m, e, f) =
      let z = ap (λ (b : Accepted). b.content) (same_accepted e) ∙ f in
      let w : ◌≡◌ {A = ℕ} 0 1 = cc in
      omega arith
  records_unmarked (no n) (b, m, e, f) = refused_not_accepted e

  content_parted : (mode : ControlMode) (is_control : Bool) (w : List ℕ) (n p : ℕ)
      → Parted (judged_as x first total (content_at (way_of mode) is_control w n p)) (judged_as x first total (content_at (former_way_of mode) is_control w n p))
      (judged_as x first total (content_at bare_marker_at is_control w n p))
  unfolding way_of
  content_parted mode true w n p = marker_parted (bare_marker_at w p) (former_way_of mode w p)
  content_parted mode false w n p = inl (refl, records_unmarked (records_at w n p))

module _ (mode : ControlMode) (s : List ℕ) (at first : ℕ) where
  parted_from : (y : Judged KnownAt)
      → Parted (judged_from (way_of mode) s at first y) (judged_from (former_way_of mode) s at first y) (judged_from bare_marker_at s at first y)
  parted_from (more n) = inl (refl, λ (b, m, e, f). more_not_accepted e)
  parted_from (refused n) = inl (refl, λ (b, m, e, f). refused_not_accepted e)
  parted_from (accepted o) =
      content_parted o.known.fields first o.total mode o.known.control (take (at + o.total) s) o.known.count o.next

  parted : Parted (judge_at mode s at first) (former_at mode s at first) (judge_with bare_marker_at s at first)
  parted =
      rw (judged_by_opening (way_of mode) s at first, judged_by_opening (former_way_of mode) s at first, judged_by_opening bare_marker_at s at first)
      (parted_from (open_at s at))

  -- by the old rules 41 was never answered
  never_before : former_at mode s at first ≡ refused 41 → ⊥
  never_before e =
      elim (refused_by_lem (former_way_of mode) s at first 41 e) [
        | inl (l, h) ↦ omega arith
        | inr (w, p, f) ↦ omega (arith, (refusal_within (former_refuses mode w p) f).1)
      ]

pub withdrawn_at : WithdrawnAt
withdrawn_at mode s at first = (told, is_told)
  where
    told : judge_at mode s at first ≡ refused 41 → FormerMarker s at first
    told e =
        elim (parted mode s at first) [
          | inl (same, _) ↦ absurd (never_before mode s at first (sym same ∙ e))
          | inr (_, (b, m, f, g)) ↦ record { batch = b; marker = m; judged = f; content = g }
        ]

    is_told : FormerMarker s at first → judge_at mode s at first ≡ refused 41
    is_told x =
        elim (parted mode s at first) [
          | inl (_, unmarked) ↦ absurd (unmarked (x.batch, x.marker, x.judged, x.content))
          | inr (e, _) ↦ e
        ]

pub else_as_before : ElseAsBefore
else_as_before mode s at first h =
    elim (parted mode s at first) [
      | inl (same, _) ↦ same
      | inr (e, _) ↦ absurd (h e)
    ]

-- ---- by the format

-- what the old rules accept as a marker stands there as one
pub marker_stands : (s : List ℕ) (at first : ℕ) → Bytes s → (x : FormerMarker s at first)
    → Encoding (BatchBytesWith bare_grammar false) s at (at + x.batch.consumed) (record { fields = x.batch.fields; content = control x.marker })
marker_stands s at first bytes x =
    let b = x.batch in
    let (y, _) = sound_with bare_grammar bare_marker_at bare_reads s at first b bytes x.judged in
    let marks : shown_batch s b ≡ record { fields = b.fields; content = control x.marker }
    = λ i. record { fields = b.fields; content = shown_content s (x.content i) } in
    subst (Encoding (BatchBytesWith bare_grammar false) s at (at + b.consumed)) marks y

pub withdrawn : Withdrawn
withdrawn mode s bytes = (told, is_told)
  where
    told : judge_at mode s 0 0 ≡ refused 41 → BareBatch s
    told e =
        let x = (withdrawn_at mode s 0 0).0 e in
        record { fields = x.batch.fields; marker = x.marker; end = 0 + x.batch.consumed; stands = marker_stands s 0 0 bytes x }

    is_told : BareBatch s → judge_at mode s 0 0 ≡ refused 41
    is_told x =
        let y = x.stands in
        let b : Batch Record = record { fields = x.fields; content = control x.marker } in
        let (judged, _) = complete_with bare_grammar bare_marker_at bare_reads false s 0 0 x.end y.bytes b y.stands y.encodes in
        (withdrawn_at mode s 0 0).1 (record { batch = placed_batch 0 0 y.encodes; marker = x.marker; judged = judged; content = refl })

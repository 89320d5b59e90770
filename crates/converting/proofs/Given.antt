-- What is given is a batch in keyed mode, in as many bytes as it has: so it is given again for itself, and it is longer
-- than what was taken only by what the keyed form is longer. Assumes nothing.
use Prim.Native.Nat.{ℕ}
use mathlib.Core.Path.{◌≡◌, refl, sym, ap, ◌∙◌, subst}
use mathlib.Core.Bool.{false}
use mathlib.Core.Logic.{inl, inr}
use mathlib.Core.List.{List, ◌++◌}
use native.Mathlib.Omega.{arith}
use lib.ListN.{length, take}
use lib.Seq.{length-take-le, take-append_seam}
use Rattle.numbers.specs.Bytes.{Bytes}
use Rattle.primitives.proofs.Places.{in_front, shows}
use Rattle.layout.specs.declared.ControlMode.{ControlMode}
use Rattle.opening.specs.Judgement.{Judgement, more, refused, accepted, Accepted, way_of, judge}
use Rattle.opening.proofs.Verdicts.{more_not_accepted, refused_not_accepted, same_accepted}
use Rattle.batches.specs.Placed.{placed_batch, shown_batch}
use Rattle.batches.specs.Statements.{FormerMarker}
use Rattle.batches.proofs.Complete.{complete}
use Rattle.batches.proofs.Sound.{sound}
use Rattle.batches.proofs.Withdrawn.{marker_stands}
use Rattle.converting.specs.Conversion.{Conversion, copied, conversion_of}
use Rattle.converting.specs.Statements.{Rekeyed, Copied, ConvertedReads, ConvertedTwice, ConvertedSize}
use Rattle.converting.proofs.Cases.{rekeyed_of, either}
use Rattle.converting.proofs.Rekeyed.{rekeyed_size_lem, rekeyed_reads}
use Rattle.converting.proofs.Within.{accepted_within}

-- ---- what it reads as

marker_rekeyed : (s : List ℕ) → Bytes s → (x : FormerMarker s 0 0) → Rekeyed s (rekeyed_of s x)
marker_rekeyed s bytes x =
    let y = marker_stands s 0 0 bytes x in
    record {
      former = x.batch;
      marker = x.marker;
      judged = x.judged;
      content = x.content;
      taken = refl;
      given = refl;
      reads = rekeyed_reads bytes y.stands y.encodes;
    }

batch_copied : (s : List ℕ) (c : Conversion) (j : Judgement) → judge ControlMode.Keyed s ≡ j → copied s j ≡ accepted c → Copied s c
batch_copied s c (more n) e f = more_not_accepted f
batch_copied s c (refused n) e f = refused_not_accepted f
batch_copied s c (accepted b) e f =
    let same = sym (same_accepted f) in
    record { batch = b; judged = e; taken = ap (λ (c : Conversion). c.taken) same; given = ap (λ (c : Conversion). c.given) same }

pub converted_reads : ConvertedReads
converted_reads s c bytes e =
    elim (either s) [
      | inl (x, f, _) ↦ inl (subst (Rekeyed s) (same_accepted (sym f ∙ e)) (marker_rekeyed s bytes x))
      | inr (f, _) ↦ inr (batch_copied s c (judge ControlMode.Keyed s) refl (sym f ∙ e))
    ]

-- ---- twice

abbrev Again : List ℕ → List ℕ → Type 0
Again bs after = conversion_of (bs ++ after) ≡ accepted (record { taken = length bs; given = bs })

-- a batch in keyed mode is its own bytes, with anything after them
own_bytes : (bs after : List ℕ) (b : Accepted) → judge ControlMode.Keyed (bs ++ after) ≡ accepted b → b.consumed ≡ length bs → Again bs after
own_bytes bs after b e n =
    elim (either (bs ++ after)) [
      | inl (_, _, f) ↦ refused_not_accepted (sym f ∙ e)
      | inr (f, _) ↦ f ∙ ap (copied (bs ++ after)) e ∙ rw (n, take-append_seam bs after)
    ]

-- it is judged by these alone
copied_again : (s after : List ℕ) (b : Accepted) → Bytes s → judge ControlMode.Keyed s ≡ accepted b → Again (take b.consumed s) after
copied_again s after b bytes e =
    let (y, _) = sound ControlMode.Keyed s 0 0 b bytes e in
    let bs = y.bytes in
    let n : b.consumed ≡ length bs = omega (arith, y.stands.end) in
    let (judged, _) = complete ControlMode.Keyed false (bs ++ after) 0 0 (length bs) bs (shown_batch s b) (in_front bs after) y.encodes in
    let own : bs ≡ take b.consumed s = sym (shows y.stands) ∙ ap (λ (k : ℕ). take k s) (sym n) in
    subst (λ (bs : List ℕ). Again bs after) own (own_bytes bs after (placed_batch 0 0 y.encodes) judged refl)

pub converted_twice : ConvertedTwice
converted_twice s after c bytes e =
    elim (converted_reads s c bytes e) [
      | inl r ↦ own_bytes c.given after _ (r.reads after) refl
      | inr r ↦ subst (λ (bs : List ℕ). Again bs after) (sym r.given) (copied_again s after r.batch bytes r.judged)
    ]

-- ---- sizes

pub converted_size : ConvertedSize
converted_size s c bytes e =
    elim (converted_reads s c bytes e) [
      | inl r ↦
          let x : FormerMarker s 0 0 = record { batch = r.former; marker = r.marker; judged = r.judged; content = r.content } in
          let y = marker_stands s 0 0 bytes x in
          let size = ap length r.given ∙ rekeyed_size_lem bytes y.stands y.encodes in
          (omega (arith, size, r.taken, y.stands.end), omega (arith, r.taken, y.stands.within))
      | inr r ↦
          let (_, within) = accepted_within (way_of ControlMode.Keyed) s r.batch r.judged in
          let size = ap length r.given ∙ length-take-le r.batch.consumed s within in
          (omega (arith, size, r.taken), omega (arith, r.taken))
    ]

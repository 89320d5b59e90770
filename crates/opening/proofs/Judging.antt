-- What the opening of a batch returns, how the judgement goes on from it, and that it lies within the bytes. The
-- premises have the form in which a proof finds them. Assumes nothing.
use Prim.Native.Nat.{ℕ, ◌+◌, ◌^◌, ◌≤◌}
use mathlib.Core.Path.{◌≡◌, refl, sym, ap, ◌∙◌, subst}
use mathlib.Core.Bool.{Bool, true, false}
use mathlib.Core.List.{List}
use native.Mathlib.Omega.{arith}
use lib.Dec.{eqb}
use lib.ListN.{length, take, drop, length-take}
use lib.Seq.{length-take-le}
use Rattle.numbers.specs.Pick.{pick}
use Rattle.primitives.specs.Step.{Step, ok, no, and_then, map_step}
use Rattle.primitives.specs.Reading.{signed_by}
use Rattle.primitives.proofs.Picks.{picked}
use Rattle.primitives.proofs.Steps.{map_ok}
use Rattle.primitives.proofs.Windows.{big_window}
use Rattle.crc32c.specs.Crc.{crc32c}
use Rattle.layout.specs.Table.{table}
use Rattle.layout.specs.Batch.{Fields}
use Rattle.opening.specs.declared.Frame.{Frame}
use Rattle.opening.specs.Judgement.{Judged, more, refused, accepted, unsigned_in, attributes_in, fields_in, total_at, opened_at, Control, content_at, whole_at, judgement_of, judge_whole, judge_with}
use Rattle.opening.specs.Opened.{Known, known_in, KnownAt, known_at, open_by, open_at, as_accepted, judged_from}
use Rattle.opening.specs.Opening.{framed, frame_at, opening_at, open_from}
use Rattle.opening.specs.Statements.{JudgedByOpening, Inside, OpenedInside}
use Rattle.opening.proofs.Verdicts.{more_not_accepted, refused_not_accepted, same_accepted}
use Rattle.opening.proofs.Tests.{Totals, few, low, short, unknown, lacking, there, totals, Openings, opened, openings}

-- ---- all bytes of the batch are there

pub record Within (s : List ℕ) (at total : ℕ) : Type 0 where
  pub end : at + total ≤ length s
  pub least : 21 ≤ total

pub total_within : (s : List ℕ) (at : ℕ) (y : Judged ℕ) (x : Frame) → Totals s at y → framed s at y ≡ accepted x → Within s at x.total
total_within s at y x (few h) e = more_not_accepted e
total_within s at y x (low h b) e = refused_not_accepted e
total_within s at y x (short h l n g) e = more_not_accepted e
total_within s at y x (unknown h l n m) e = refused_not_accepted e
total_within s at y x (lacking h l n m g) e = more_not_accepted e
total_within s at y x (there {n} h l m g r) e =
    let w : 12 + n ≡ x.total = ap total_of e in
    record { end = omega arith; least = omega arith }
  where
    total_of : Judged Frame → ℕ
    total_of (more k) = 0
    total_of (refused k) = 0
    total_of (accepted f) = f.total

-- what is cut at a place within has as many bytes
pub cut_length : (s : List ℕ) (e : ℕ) → e ≤ length s → e ≡ length (take e s)
cut_length s e h = sym (length-take-le e s h)

-- ---- the opening

-- base offset and leader epoch, read before the batch's bytes were cut off, are the same in these
opening_known : (s : List ℕ) (at total : ℕ) → 21 ≤ total → open_from s at (framed s at (accepted total)) ≡ open_by s at (accepted total)
unfolding opening_at known_in
opening_known s at total h =
    let w = take (at + total) s in
    let base = ap (signed_by (2 ^ 63)) (big_window 8 (at + total) s (at + 0) (omega arith)) in
    let epoch = ap (signed_by (2 ^ 31)) (big_window 4 (at + total) s (at + 12) (omega arith)) in
    λ i. known_at total (opening_at (sym base i) (sym epoch i) w at)

total_known : (s : List ℕ) (at : ℕ) (y : Judged ℕ) → Totals s at y → open_from s at (framed s at y) ≡ open_by s at y
total_known s at y (few h) = refl
total_known s at y (low h b) = refl
total_known s at y (short h l n g) = refl
total_known s at y (unknown h l n m) = refl
total_known s at y (lacking h l n m g) = refl
total_known s at y (there {n} h l m g r) = opening_known s at (12 + n) (omega arith)

open_known : (s : List ℕ) (at : ℕ) → open_from s at (frame_at s at) ≡ open_at s at
open_known s at = total_known s at (total_at s at) (totals s at)

module _ (s : List ℕ) (at : ℕ) (x : Frame) (e : accepted x ≡ frame_at s at) where
  pub frame_within : Within s at x.total
  frame_within = total_within s at (total_at s at) x (totals s at) (sym e)

  pub frame_inside : at + 21 ≤ length (take (at + x.total) s)
  frame_inside = rw length-take (omega (arith, frame_within.end, frame_within.least))

  pub opened_as : known_at x.total (opening_at x.base_offset x.partition_leader_epoch (take (at + x.total) s) at) ≡ open_at s at
  opened_as = ap (open_from s at) e ∙ open_known s at

-- what `open_at` is proved by
pub ruleset opens = (cut_length, frame_within, frame_inside, opened_as)

-- ---- the judgement, from what was opened

module _ (way : Control) (s : List ℕ) (at first : ℕ) where
  -- by the checksum and what was met before the marker or the records
  from_opening : (w : List ℕ) (total : ℕ) → w ≡ take (at + total) s → (x : Fields) (control t : Bool) (y : Step ℕ ℕ)
      → judgement_of (pick t (and_then y (λ n p. map_step (as_accepted x first total) (content_at way control w n p))) (no 4))
      ≡ judged_from way s at first (known_at total (pick t (map_step (λ n. record { fields = x; control = control; count = n }) y) (no 4)))
  from_opening w total e x control true (ok n p) = rw e
  from_opening w total e x control true (no n) = refl
  from_opening w total e x control false y = refl

  whole_opened : (total : ℕ) → judgement_of (whole_at way (take (at + total) s) at first total) ≡ judged_from way s at first (open_by s at (accepted total))
  unfolding whole_at known_in
  whole_opened total =
      let w = take (at + total) s in
      from_opening w total refl (fields_in w at) (attributes_in w at).control
      (eqb (unsigned_in table.crc w at) (crc32c (drop (at + 21) w))) (opened_at w at)

  total_opened : (y : Judged ℕ) → judge_whole way s at first y ≡ judged_from way s at first (open_by s at y)
  total_opened (more n) = refl
  total_opened (refused n) = refl
  total_opened (accepted total) = whole_opened total

pub judged_by_opening : JudgedByOpening
unfolding judge_with
judged_by_opening way s at first = total_opened way s at first (total_at s at)

-- ---- what is known lies within the bytes

known_from : (total : ℕ) (x : Step ℕ Known) (o : KnownAt) → known_at total x ≡ accepted o → (x ≡ ok o.known o.next) × (total ≡ o.total)
known_from total (ok k p) o e =
    (ap (λ (y : KnownAt). ok y.known y.next) (same_accepted e), ap (λ (y : KnownAt). y.total) (same_accepted e))
known_from total (no n) o e = refused_not_accepted e

opened_ends : (w : List ℕ) (at n p : ℕ) → Openings w at (ok n p) → (p ≡ at + 61) × (at + 61 ≤ length w)
opened_ends w at n _ (opened h c t o) = (refl, h)

known_ends : (w : List ℕ) (at : ℕ) {k : Known} {p : ℕ} → known_in w at ≡ ok k p → (p ≡ at + 61) × (at + 61 ≤ length w)
unfolding known_in
known_ends w at {p = p} e =
    let known : ℕ → Known = λ n. record { fields = fields_in w at; control = (attributes_in w at).control; count = n } in
    let (_, i) = picked (eqb (unsigned_in table.crc w at) (crc32c (drop (at + 21) w))) (map_step known (opened_at w at)) 4 e in
    let (n, j, _) = map_ok known (opened_at w at) i in
    opened_ends w at n p (subst (Openings w at) j (openings w at))

total_there : (s : List ℕ) (at n : ℕ) → Totals s at (accepted n) → at + n ≤ length s
total_there s at _ (there h l m g r) = r

opened_by : (s : List ℕ) (at : ℕ) (y : Judged ℕ) (o : KnownAt) → Totals s at y → open_by s at y ≡ accepted o → Inside s at o
opened_by s at (more n) o t e = more_not_accepted e
opened_by s at (refused n) o t e = refused_not_accepted e
opened_by s at (accepted total) o t e =
    let (is, same) = known_from total _ o e in
    let (end, within) = known_ends (take (at + total) s) at is in
    let all = total_there s at total t in
    record { next = end; fixed = omega (arith, within, length-take (at + total) s, same); end = omega (arith, same, all) }

pub opened_inside : OpenedInside
opened_inside s at o e = opened_by s at (total_at s at) o (totals s at) e

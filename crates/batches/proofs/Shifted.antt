-- Something in front of the batch moves the starts and nothing else: all that is tested and read is found that much
-- further on. The first header row is only handed through. Assumes nothing.
use Prim.Native.Nat.{ℕ, zero, suc, ◌+◌}
use mathlib.Core.Path.{◌≡◌, refl}
use mathlib.Core.Bool.{Bool, true, false}
use mathlib.Core.List.{List, ◌++◌}
use native.Mathlib.Nat.{add_assoc}
use lib.IntN.{ℤ, pos, negsuc}
use lib.ListN.{length, length-append}
use lib.Seq.{take-append-add, drop-append-add}
use Rattle.primitives.specs.Step.{Step, ok, no, map_step}
use Rattle.primitives.specs.Shifted.{same, moved_step, Shifted}
use Rattle.primitives.proofs.Steps.{and_then_and_then}
use Rattle.primitives.proofs.Shifted.{ltb_add, moved, big_shifted}
use Rattle.primitives.proofs.Picks.{and_then_pick}
use Rattle.records.proofs.Shifted.{records_shifted}
use Rattle.opening.specs.Judgement.{Judged, more, refused, accepted, Accepted, Attributes, total_at, count_of, opened_at, Control, content_at, whole_at, judgement_of, judge_whole, judge_with}
use Rattle.opening.specs.Statements.{Placeless}
use Rattle.batches.specs.Statements.{moved_content, moved_accepted, moved_judgement, PlaceShifted, FirstHeaderShifted}

-- ---- the place

total_shifted : (front s : List ℕ) (at : ℕ) → total_at (front ++ s) (length front + at) ≡ total_at s at
unfolding total_at
total_shifted front s at = simp (big_shifted, add_assoc, length-append, ltb_add)

count_of_moved : (a : Attributes) (z : ℤ) (k p : ℕ) → count_of a z (k + p) ≡ moved_step (same k) k (count_of a z p)
count_of_moved a (pos n) k p = simp moved
count_of_moved a (negsuc zero) k p = simp moved
count_of_moved a (negsuc (suc n)) k p = refl

opened_shifted : Shifted same opened_at
unfolding opened_at
opened_shifted front s p = simp (big_shifted, add_assoc, length-append, ltb_add, count_of_moved, moved)

module _ (way : Control) (placeless : Placeless way) where
  content_shifted : (t : Bool) (front s : List ℕ) (n p : ℕ)
      → content_at way t (front ++ s) n (length front + p) ≡ moved_step (moved_content (length front)) (length front) (content_at way t s n p)
  content_shifted true front s n p = simp (placeless, moved)
  content_shifted false front s n p = simp (records_shifted, moved)

  whole_shifted : (first total : ℕ) → Shifted moved_accepted (λ s at. whole_at way s at first total)
  unfolding whole_at
  whole_shifted first total front s at = simp (big_shifted, add_assoc, drop-append-add, opened_shifted, content_shifted, moved)

module _ (move : Accepted → Accepted) where
  judgement_moved : (k : ℕ) (x : Step ℕ Accepted) → judgement_of (moved_step move k x) ≡ moved_judgement move (judgement_of x)
  judgement_moved k (ok b p) = refl
  judgement_moved k (no n) = refl

  judgement_mapped : (x : Step ℕ Accepted) → judgement_of (map_step move x) ≡ moved_judgement move (judgement_of x)
  judgement_mapped (ok b p) = refl
  judgement_mapped (no n) = refl

module _ (way : Control) (placeless : Placeless way) (front s : List ℕ) (at first : ℕ) where
  judge_whole_shifted : (x : Judged ℕ)
      → judge_whole way (front ++ s) (length front + at) first x ≡ moved_judgement (moved_accepted (length front)) (judge_whole way s at first x)
  judge_whole_shifted (more n) = refl
  judge_whole_shifted (refused n) = refl
  judge_whole_shifted (accepted total) = simp (add_assoc, take-append-add, whole_shifted way placeless, judgement_moved)

pub place_shifted : PlaceShifted
unfolding judge_with
place_shifted way placeless front s at first =
    rw (total_shifted front s at) (judge_whole_shifted way placeless front s at first (total_at s at))

-- ---- the first header row

module _ (way : Control) (at first first' : ℕ) where
  abbrev from : Accepted → Accepted
  from b = record { fields = b.fields; content = b.content; first_header = first'; consumed = b.consumed }

  whole_from : (s : List ℕ) (total : ℕ) → whole_at way s at first' total ≡ map_step from (whole_at way s at first total)
  unfolding whole_at
  whole_from s total = simp (and_then_and_then, and_then_pick, moved)

  judge_whole_from : (s : List ℕ) (x : Judged ℕ) → judge_whole way s at first' x ≡ moved_judgement from (judge_whole way s at first x)
  judge_whole_from s (more n) = refl
  judge_whole_from s (refused n) = refl
  judge_whole_from s (accepted total) = simp (whole_from, judgement_mapped)

pub first_header_shifted : FirstHeaderShifted
unfolding judge_with
first_header_shifted way s at first first' = judge_whole_from way at first first' s (total_at s at)

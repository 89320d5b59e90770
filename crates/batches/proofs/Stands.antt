-- A judgement stands: what it asks of a list lies within it, so that a longer list answers the same, and the batch's
-- own bytes are the same bytes. So the answers by it are those of one judgement. Assumes nothing.
use Prim.Native.Nat.{ℕ, ◌+◌, ◌^◌, ◌*◌, ◌-◌, ◌≤◌}
use mathlib.Core.Path.{◌≡◌, refl, sym, ap, ◌∙◌, subst}
use mathlib.Core.List.{List, ◌++◌}
use native.Mathlib.Omega.{arith}
use lib.ListN.{length, length-append}
use lib.Seq.{take-append-le}
use Rattle.primitives.specs.Reading.{signed_by}
use Rattle.primitives.proofs.Windows.{big_longer}
use Rattle.records.specs.Rows.{Tables}
use Rattle.layout.specs.Table.{Slot, table}
use Rattle.opening.specs.Judgement.{way_of, Judged, Judgement, more, number_in, is, below, Control, judgement_of, whole_at, judge_whole, judge_with, judge}
use Rattle.opening.proofs.Tests.{Totals, few, low, short, unknown, lacking, there, totals, total_is}
use Rattle.batches.specs.Answers.{view_read, answer_with_room, rooms_of, answer_of}
use Rattle.batches.specs.Promises.{ReadOutcome, ReadBy}
use Rattle.batches.specs.Demand3.{StandsWith, Stands, JudgeStandsWith, JudgeStands, CheckStands, NoRoomStandsWith, NoRoomStands}
use Rattle.batches.proofs.Single.{view_check_injective}
use Rattle.batches.proofs.Rooms.{numbered, same_in_larger, same_in_as_many}

-- ---- the judgement

module _ (s after : List ℕ) (at : ℕ) where
  number_longer : (f : Slot) → at + f.place + f.bytes ≤ length s → number_in f (s ++ after) at ≡ number_in f s at
  number_longer f h = ap (signed_by (2 ^ (8 * f.bytes - 1))) (big_longer f.bytes s after (at + f.place) h)

  length_longer : at + 12 ≤ length s → number_in table.batch_length (s ++ after) at ≡ number_in table.batch_length s at
  length_longer h = number_longer table.batch_length (omega arith)

  magic_longer : at + 17 ≤ length s → number_in table.magic (s ++ after) at ≡ number_in table.magic s at
  magic_longer h = number_longer table.magic (omega arith)

  length_after : {n : ℕ} → n ≤ length s → n ≤ length (s ++ after)
  length_after h = omega (arith, length-append s after)

  whole_stands : (way : Control) (first : ℕ) (x : Judged ℕ) → Totals s at x → ((n : ℕ) → judge_whole way s at first x ≡ more n → ⊥)
      → Totals (s ++ after) at x × (judge_whole way (s ++ after) at first x ≡ judge_whole way s at first x)
  whole_stands way first _ (few h) never = absurd (never _ refl)
  whole_stands way first _ (low h e) never = (low (length_after h) (ap (below 9) (length_longer h) ∙ e), refl)
  whole_stands way first _ (short h e f g) never = absurd (never _ refl)
  whole_stands way first _ (unknown h e f m) never =
      (unknown (length_after h) (length_longer (omega arith) ∙ e) f (ap (is 2) (magic_longer h) ∙ m), refl)
  whole_stands way first _ (lacking h e f m g) never = absurd (never _ refl)
  whole_stands way first _ (there {n} h e f m g) never = (
    there (length_after h) (length_longer (omega arith) ∙ e) f (magic_longer h ∙ m) (length_after g),
    ap (λ (bs : List ℕ). judgement_of (whole_at way bs at first (12 + n))) (take-append-le (at + (12 + n)) s after g),
  )

pub judge_stands_with : JudgeStandsWith
unfolding judge_with
judge_stands_with way at first s after never =
    let (t, e) = whole_stands s after at way first _ (totals s at) never in
    ap (judge_whole way (s ++ after) at first) (total_is (s ++ after) at _ t) ∙ e

pub judge_stands : JudgeStands
judge_stands mode = judge_stands_with (way_of mode) 0 0

-- ---- the answers

-- "more bytes" has the number 1
not_more : (j : Judgement) (t : Tables) (o : ReadOutcome) → ReadBy j t o → ((view_read o.result).number ≡ 1 → ⊥)
    → (n : ℕ) → j ≡ more n → ⊥
not_more j t o e one n w = one (numbered (e.answer ∙ ap (λ (x : Judgement). answer_of x (rooms_of t)) w))

-- what is read of the longer list is read by the judgement of the shorter
module _ (way : Control) (at first : ℕ) (s after : List ℕ) (t t' : Tables) (o o' : ReadOutcome) where
  by_the_same : ReadBy (judge_with way s at first) t o → ReadBy (judge_with way (s ++ after) at first) t' o'
      → ((view_read o.result).number ≡ 1 → ⊥) → ReadBy (judge_with way s at first) t' o'
  by_the_same e e' one =
      subst (λ (j : Judgement). ReadBy j t' o') (judge_stands_with way at first s after (not_more _ t o e one)) e'

pub stands_with : StandsWith
stands_with way at first s after t t' o o' e e' l one =
    same_in_larger t t' o o' _ e (by_the_same way at first s after t t' o o' e e' one) l one

pub stands : Stands
stands mode s after t t' o o' e e' = stands_with (way_of mode) 0 0 s after t t' o o' e.by e'.by

pub no_room_stands_with : NoRoomStandsWith
no_room_stands_with way at first s after t t' o o' e e' r fourteen =
    same_in_as_many t t' o o' _ e (by_the_same way at first s after t t' o o' e e' (λ one. absurd (omega (arith, one, fourteen)))) r

pub no_room_stands : NoRoomStands
no_room_stands mode s after t t' o o' e e' = no_room_stands_with (way_of mode) 0 0 s after t t' o o' e.by e'.by

pub check_stands : CheckStands
check_stands mode s after r r' e e' one =
    let never : (n : ℕ) → judge mode s ≡ more n → ⊥ = λ n w. one (numbered (e.answer ∙ ap answer_with_room w)) in
    view_check_injective r' r (e'.answer ∙ ap answer_with_room (judge_stands mode s after never) ∙ sym e.answer)

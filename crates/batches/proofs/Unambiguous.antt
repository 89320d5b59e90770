-- A batch is accepted at the front of any list, and the judgement gives one answer: so no encoding is a proper
-- beginning of another, two batches do not share one, and after a refusal that stands there is no batch. Assumes
-- nothing.
use Prim.Native.Nat.{ℕ}
use mathlib.Core.Path.{◌≡◌, refl, sym, ap, ◌∙◌}
use mathlib.Core.Bool.{Bool, true, false}
use mathlib.Core.List.{List, ◌++◌}
use native.Mathlib.Omega.{arith}
use lib.ListN.{length}
use Rattle.numbers.specs.Pick.{pick}
use Rattle.primitives.proofs.Places.{in_front, whole, no_rest}
use Rattle.records.specs.Format.{Record}
use Rattle.layout.specs.Batch.{Batch}
use Rattle.opening.specs.Judgement.{more, refused, accepted, Accepted, Judgement, judge}
use Rattle.opening.proofs.Verdicts.{more_not_refused, refused_not_accepted}
use Rattle.batches.specs.Placed.{shown_batch}
use Rattle.batches.specs.Answers.{Answer, Standing, Rooms, rooms_of, answer_of, has_room, accepted_as, lacks_room}
use Rattle.batches.specs.Statements.{Unambiguous, Never}
use Rattle.batches.proofs.Complete.{complete}
use Rattle.batches.proofs.Standing.{standing_apart}
use Rattle.batches.proofs.Stands.{judge_stands}

-- one judgement consumes one number of bytes and shows one batch
same_judgement : (s : List ℕ) {j : Judgement} {u v : Accepted} {a b : Batch Record} → (j ≡ accepted u) × (shown_batch s u ≡ a)
    → (j ≡ accepted v) × (shown_batch s v ≡ b) → (u.consumed ≡ v.consumed) × (a ≡ b)
same_judgement s {u = u} {v} (e, f) (e', f') =
    let w : u ≡ v = cc in
    (ap (λ (x : Accepted). x.consumed) w, sym f ∙ ap (shown_batch s) w ∙ f')

pub unambiguous : Unambiguous
unambiguous mode strict strict' bs rest a b g h =
    let s = bs ++ rest in
    let (ends, values) =
    same_judgement s (complete mode strict s 0 0 (length bs) bs a (in_front bs rest) g) (complete mode strict' s 0 0 (length s) s b (whole s) h) in
    (no_rest bs rest ends, values)

-- ---- no batch after a refusal

-- 0 and 14 are not among the numbers that stand
room_not_standing : (room : Bool) (x y : Answer) → x.number ≡ 0 → y.number ≡ 14 → Standing (pick room x y).number → ⊥
room_not_standing true x y e f s = omega (arith, (standing_apart s).0)
room_not_standing false x y e f s = (standing_apart s).1 f

-- so these numbers are refusals
standing_refused : (j : Judgement) (r : Rooms) → Standing (answer_of j r).number → (n : ℕ) × (j ≡ refused n)
standing_refused (more n) r s = absurd (omega (arith, (standing_apart s).0))
standing_refused (refused n) r x = (n, refl)
standing_refused (accepted b) r x =
    absurd (room_not_standing (has_room b.content b.first_header r) (accepted_as b) (lacks_room _ _) refl refl x)

pub never : Never
never mode strict s after bs rest b t o promise standing e g =
    let (n, refusal) = standing_refused (judge mode s) (rooms_of t) (rw (ap (λ (x : Answer). x.number) promise.by.answer) at standing) in
    let later = judge_stands mode s after (λ m is. more_not_refused (sym is ∙ refusal)) in
    let one = (complete mode strict (bs ++ rest) 0 0 (length bs) bs b (in_front bs rest) g).0 in
    refused_not_accepted (sym refusal ∙ sym later ∙ ap (judge mode) e ∙ one)

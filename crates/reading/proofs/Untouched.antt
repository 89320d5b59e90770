-- Rows are put in with the answer 0 alone, and room is asked for only once all records were judged as the check judges
-- them. Assumes nothing.
use Prim.Native.Nat.{ℕ}
use mathlib.Core.Path.{◌≡◌, refl, sym, ap, ◌∙◌}
use mathlib.Core.Bool.{Bool, true, false}
use mathlib.Core.List.{List}
use Rattle.numbers.specs.Pick.{pick}
use Rattle.primitives.specs.Step.{Step, ok, no, map_step}
use Rattle.records.specs.Judgement.{RecordSpans, records_at}
use Rattle.records.specs.Rows.{Tables, roomy, with_rows}
use Rattle.reading.specs.Answers.{Counts, counts_of, Answer, accepted, no_room}
use Rattle.reading.specs.Promises.{answer_due, tables_due}
use Rattle.reading.specs.Statements.{Untouched, answered, CheckAgrees}

-- ---- by whether there is room

kept : (room : Bool) (n : Counts) (q : ℕ) (full t : Tables) → ((pick room (accepted n q) (no_room n)).number ≡ 0 → ⊥)
    → pick room full t ≡ t
kept true n q full t other = absurd (other refl)
kept false n q full t other = refl

agrees : (room : Bool) (n : Counts) (q : ℕ) → ((pick room (accepted n q) (no_room n)).number ≡ 14 → ⊥)
    → accepted n q ≡ pick room (accepted n q) (no_room n)
agrees true n q other = refl
agrees false n q other = absurd (other refl)

-- ---- by what is read

module _ (first : ℕ) (t : Tables) where
  due_kept : (x : Step ℕ (List RecordSpans)) → ((answer_due first t x).number ≡ 0 → ⊥) → tables_due first t x ≡ t
  due_kept (ok rs q) other = kept (roomy first rs t) (counts_of rs) q (with_rows first rs t) t other
  due_kept (no n) other = refl

  due_agrees : (x : Step ℕ (List RecordSpans)) → ((answer_due first t x).number ≡ 14 → ⊥)
      → answered (map_step counts_of x) ≡ answer_due first t x
  due_agrees (ok rs q) other = agrees (roomy first rs t) (counts_of rs) q other
  due_agrees (no n) other = refl

pub untouched : Untouched
untouched s at count first t o e other =
    e.tables ∙ due_kept first t (records_at s count at) (λ w. other (ap (λ (a : Answer). a.number) e.answer ∙ w))

pub check_agrees : CheckAgrees
check_agrees s at count first r t o c e other =
    ap answered c
    ∙ due_agrees first t (records_at s count at) (λ w. other (ap (λ (a : Answer). a.number) e.answer ∙ w))
    ∙ sym e.answer

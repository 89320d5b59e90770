-- What two outcomes by one judgement have in common: by cases on the judgement, and on whether there is room for what
-- is accepted. Larger tables have the room that smaller ones have. Assumes nothing.
use Prim.Native.Nat.{ℕ, ◌+◌, ◌<◌, ◌≤◌}
use mathlib.Core.Path.{◌≡◌, refl, sym, ap, ◌∙◌}
use mathlib.Core.Bool.{Bool, true, false}
use mathlib.Core.Logic.{◌⊎◌, inl, inr}
use mathlib.Core.List.{List}
use native.Mathlib.Omega.{arith}
use borrow.Author.Tests.{leb-true, leb-false, le-leb, lt-leb}
use lib.Dec.{leb}
use lib.ListN.{length}
use Rattle.numbers.proofs.Picks.{both_hold, one_fails, second_fails}
use Rattle.records.specs.Judgement.{RecordSpans}
use Rattle.records.specs.Rows.{headers_in, Tables}
use Rattle.layout.specs.Batch.{Content, control, records}
use Rattle.opening.specs.Judgement.{way_of, Judgement, more, refused, accepted, Accepted, judge_with, judge}
use Rattle.batches.specs.Answers.{Answer, view_check, view_read, answer_with_room, wants, refuses, accepted_as, lacks_room, records_in, headers_of, Rooms, rooms_of, has_room, answer_of, stored}
use Rattle.batches.specs.Promises.{ReadOutcome, ReadBy}
use Rattle.batches.specs.Statements.{Untouched, CheckAgrees}
use Rattle.batches.specs.Demand3.{AtLeast, Same, RoomFreeWith, RoomFree}
use Rattle.batches.proofs.Single.{view_read_injective}

-- ---- room

module _ (rs : List RecordSpans) (first : ℕ) (r : Rooms) where
  room_is : has_room (records rs) first r ≡ true → (length rs ≤ r.records) × (first + headers_in rs ≤ r.headers)
  room_is e =
      let (x, y) = both_hold (leb (length rs) r.records) (leb (first + headers_in rs) r.headers) e in
      (leb-true (length rs) r.records x, leb-true (first + headers_in rs) r.headers y)

  pub is_room : length rs ≤ r.records → first + headers_in rs ≤ r.headers → has_room (records rs) first r ≡ true
  is_room h k = rw (le-leb (length rs) r.records h, le-leb (first + headers_in rs) r.headers k)

  pub room_short : has_room (records rs) first r ≡ false → (r.records < length rs) ⊎ (r.headers < first + headers_in rs)
  room_short e =
      elim (one_fails (leb (length rs) r.records) (leb (first + headers_in rs) r.headers) e) [
        | inl x ↦ inl (leb-false (length rs) r.records x)
        | inr y ↦ inr (leb-false (first + headers_in rs) r.headers y)
      ]

  pub short_room : (r.records < length rs) ⊎ (r.headers < first + headers_in rs) → has_room (records rs) first r ≡ false
  short_room (inl h) = rw (lt-leb (length rs) r.records h)
  short_room (inr h) = rw (lt-leb (first + headers_in rs) r.headers h) (second_fails (leb (length rs) r.records))

room_grows : (c : Content RecordSpans) (first : ℕ) (t t' : Tables) → AtLeast t t' → has_room c first (rooms_of t) ≡ true
    → has_room c first (rooms_of t') ≡ true
room_grows (control m) first t t' l e = refl
room_grows (records rs) first t t' (l, l') e =
    let (h, k) = room_is rs first (rooms_of t) e in
    is_room rs first (rooms_of t') (omega arith) (omega arith)

-- ---- every way that reading by a judgement can go

pub data Goes (t : Tables) (o : ReadOutcome) : Judgement → Type 0 where
  wanting : {n : ℕ} → view_read o.result ≡ wants n → o.tables ≡ t → Goes t o (more n)
  refusing : {n : ℕ} → view_read o.result ≡ refuses n → o.tables ≡ t → Goes t o (refused n)
  roomy : {b : Accepted} → has_room b.content b.first_header (rooms_of t) ≡ true → view_read o.result ≡ accepted_as b
      → o.tables ≡ stored b.content b.first_header t → Goes t o (accepted b)
  cramped : {b : Accepted} → has_room b.content b.first_header (rooms_of t) ≡ false
      → view_read o.result ≡ lacks_room (records_in b.content) (headers_of b.content) → o.tables ≡ t → Goes t o (accepted b)

room_tested : (b : Accepted) (t : Tables) (o : ReadOutcome) → ReadBy (accepted b) t o
    → (x : Bool) → has_room b.content b.first_header (rooms_of t) ≡ x → Goes t o (accepted b)
room_tested b t o e true h = roomy {b = b} h (e.answer ∙ rw h) (e.tables ∙ rw h)
room_tested b t o e false h = cramped {b = b} h (e.answer ∙ rw h) (e.tables ∙ rw h)

pub goes : (j : Judgement) (t : Tables) (o : ReadOutcome) → ReadBy j t o → Goes t o j
goes (more n) t o e = wanting e.answer e.tables
goes (refused n) t o e = refusing e.answer e.tables
goes (accepted b) t o e = room_tested b t o e _ refl

pub numbered : {a b : Answer} → a ≡ b → a.number ≡ b.number
numbered e = ap (λ (a : Answer). a.number) e

-- ---- two outcomes by one judgement

module _ (t t' : Tables) (o o' : ReadOutcome) where
  alike : {a : Answer} → view_read o.result ≡ a → view_read o'.result ≡ a → o'.result ≡ o.result
  alike e e' = view_read_injective o'.result o.result (e' ∙ sym e)

  -- what is not "more bytes" or "no room" is the same for larger tables
  pub same_in_larger : (j : Judgement) → ReadBy j t o → ReadBy j t' o' → AtLeast t t' → ((view_read o.result).number ≡ 1 → ⊥)
      → ((view_read o.result).number ≡ 14 → ⊥) → Same j t t' o o'
  same_in_larger j e e' l one fourteen = by j (goes j t o e) e'
    where
      by : (j : Judgement) → Goes t o j → ReadBy j t' o' → Same j t t' o o'
      by _ (wanting a w) e' = absurd (one (numbered a))
      by _ (refusing a w) e' = record { result = alike a e'.answer; due = a; tables = w; tables' = e'.tables }
      by _ (roomy {b} h a w) e' =
          let h' = room_grows b.content b.first_header t t' l h in
          record { result = alike a (e'.answer ∙ rw h'); due = a; tables = w; tables' = e'.tables ∙ rw h' }
      by _ (cramped h a w) e' = absurd (fourteen (numbered a))

  -- an answer other than 0 and 14 is the same for all tables, and changes none
  same_in_any : (j : Judgement) → ReadBy j t o → ReadBy j t' o' → ((view_read o.result).number ≡ 0 → ⊥)
      → ((view_read o.result).number ≡ 14 → ⊥) → (o'.result ≡ o.result) × (o.tables ≡ t) × (o'.tables ≡ t')
  same_in_any j e e' none fourteen = by j (goes j t o e) e'
    where
      by : (j : Judgement) → Goes t o j → ReadBy j t' o' → (o'.result ≡ o.result) × (o.tables ≡ t) × (o'.tables ≡ t')
      by _ (wanting a w) e' = (alike a e'.answer, w, e'.tables)
      by _ (refusing a w) e' = (alike a e'.answer, w, e'.tables)
      by _ (roomy h a w) e' = absurd (none (numbered a))
      by _ (cramped h a w) e' = absurd (fourteen (numbered a))

  -- every answer is the same for as many rows
  pub same_in_as_many : (j : Judgement) → ReadBy j t o → ReadBy j t' o' → rooms_of t' ≡ rooms_of t → o'.result ≡ o.result
  same_in_as_many j e e' r = alike e.answer (e'.answer ∙ ap (answer_of j) r)

pub room_free_with : RoomFreeWith
room_free_with way at first s t t' o o' = same_in_any t t' o o' (judge_with way s at first)

pub room_free : RoomFree
room_free mode s t t' o o' e e' = room_free_with (way_of mode) 0 0 s t t' o o' e.by e'.by

-- ---- one outcome

pub untouched : Untouched
untouched mode s t o e none = by (judge mode s) (goes (judge mode s) t o e.by)
  where
    by : (j : Judgement) → Goes t o j → o.tables ≡ t
    by _ (wanting a w) = w
    by _ (refusing a w) = w
    by _ (roomy h a w) = absurd (none (numbered a))
    by _ (cramped h a w) = w

pub check_agrees : CheckAgrees
check_agrees mode s r t o c e fourteen = by (judge mode s) (goes (judge mode s) t o e.by) c.answer
  where
    by : (j : Judgement) → Goes t o j → view_check r ≡ answer_with_room j → view_check r ≡ view_read o.result
    by _ (wanting a w) c = c ∙ sym a
    by _ (refusing a w) c = c ∙ sym a
    by _ (roomy h a w) c = c ∙ sym a
    by _ (cramped h a w) c = absurd (fourteen (numbered a))

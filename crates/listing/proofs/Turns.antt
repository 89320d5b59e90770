-- What is listed at a place is what reading there answers, and where the listing goes on is further on: by cases on the
-- judgement, and on whether there is room for what is accepted. Assumes nothing.
use Prim.Native.Nat.{ℕ, ◌+◌, ◌-◌, ◌^◌, ◌≤◌, ◌<◌}
use mathlib.Core.Path.{◌≡◌, refl, sym, ap, ◌∙◌, subst}
use mathlib.Core.Bool.{Bool, true, false}
use mathlib.Core.Option.{Option, none, some}
use mathlib.Core.List.{List, []}
use native.Mathlib.Omega.{arith}
use native.Mathlib.Decide.{dec_le}
use borrow.Author.Tests.{lt-ltb, le-ltb, le-leb, lt-leb}
use borrow.Author.Rules.{part_to_end}
use lib.ListN.{length, take, drop, length-drop, drop_of_length-le}
use Rattle.std.specs.Prelude.{Result, Ok, Err}
use Rattle.records.specs.Rows.{Tables}
use Rattle.layout.specs.Batch.{Fields}
use Rattle.opening.specs.Judgement.{more, refused, accepted, Accepted, Judgement, total_at, judge_with, way_of, judge}
use Rattle.batches.specs.declared.BatchFound.{BatchFound}
use Rattle.batches.specs.declared.ReadError.{ReadError}
use Rattle.batches.specs.Answers.{Answer, Kind, view_read, Rooms, rooms_of, has_room, answer_of, tables_of}
use Rattle.batches.specs.Promises.{ReadOutcome, ReadPromise}
use Rattle.batches.proofs.Passed.{passed}
use Rattle.listing.specs.declared.Entry.{Entry}
use Rattle.listing.specs.Listing.{heading, too_long, batch_line, end_line, stop_line, Turn, line, last, most, listed_mode, first_turn, judged_turn, turn_at}
use Rattle.listing.specs.Answers.{entry_of}
use Rattle.listing.specs.Writing.{read_turn, NextFits}
use Rattle.listing.specs.Promises.{ListAtPromise}

-- ---- the first turn

pub first_too_long : (s : List ℕ) → most < length s → first_turn s ≡ last too_long
first_too_long s h = rw (lt-ltb most (length s) h)

pub first_heading : (s : List ℕ) → length s ≤ most → first_turn s ≡ line heading 0
first_heading s h = rw (le-ltb most (length s) h)

-- ---- the turn at a place

pub turn_end : (rooms : Rooms) (s : List ℕ) (place : ℕ) → length s ≤ place → turn_at rooms s place ≡ last (end_line (length s))
unfolding turn_at
turn_end rooms s place h = rw (le-leb (length s) place h)

turn_judged : (rooms : Rooms) (s : List ℕ) (place : ℕ) → place < length s → turn_at rooms s place ≡ judged_turn rooms place (judge listed_mode (drop place s))
unfolding turn_at
turn_judged rooms s place h = rw (lt-leb (length s) place h)

-- ---- what reading answers, as a turn

-- fields and kind are named where a batch is accepted
abbrev named : ℕ → Answer → Option Fields → Option Kind → Turn
named place a (some x) (some k) = line (batch_line x.base_offset a.bytes k a.records a.headers) (place + a.bytes)
named place a (some x) none = last (stop_line a.number place)
named place a none k = last (stop_line a.number place)

abbrev answered : ℕ → Answer → Turn
answered place a = named place a a.fields a.kind

read_answered : (place : ℕ) (r : Result BatchFound ReadError) → read_turn place r ≡ answered place (view_read r)
read_answered place (Ok b) = refl
read_answered place (Err (ReadError.MoreBytes bytes)) = refl
read_answered place (Err (ReadError.Refused f)) = refl
read_answered place (Err (ReadError.NoRoom n m)) = refl

-- by whether there is room
module _ (rooms : Rooms) (place : ℕ) where
  roomy_answered : (b : Accepted) (t : Bool) → has_room b.content b.first_header rooms ≡ t → judged_turn rooms place (accepted b) ≡ answered place (answer_of (accepted b) rooms)
  roomy_answered b true e = rw e
  roomy_answered b false e = rw e

  judged_answered : (j : Judgement) → judged_turn rooms place j ≡ answered place (answer_of j rooms)
  judged_answered (more n) = refl
  judged_answered (refused n) = refl
  judged_answered (accepted b) = roomy_answered b _ refl

turn_read : (s : List ℕ) (place : ℕ) (t : Tables) (o : ReadOutcome) → place < length s → ReadPromise listed_mode (drop place s) t o
    → read_turn place o.result ≡ turn_at (rooms_of t) s place
turn_read s place t o h e =
    read_answered place o.result
    ∙ ap (answered place) e.by.answer
    ∙ sym (judged_answered (rooms_of t) place (judge listed_mode (drop place s)))
    ∙ sym (turn_judged (rooms_of t) s place h)

-- ---- where it goes on

last_not_line : {X : Type 0} {text text' : List ℕ} {next : ℕ} → last text ≡ line text' next → X
last_not_line e = cc

-- what is accepted has bytes, and they are there
consumed_within : (s : List ℕ) (b : Accepted) → judge listed_mode s ≡ accepted b → (0 < b.consumed) × (b.consumed ≤ length s)
consumed_within s b j =
    let p = passed (way_of listed_mode) s 0 0 b j in
    let e : b.consumed ≡ 12 + p.size = ap (λ (x : Accepted). x.consumed) p.is in
    (omega arith, omega (arith, p.all_there))

module _ (rooms : Rooms) (place : ℕ) (text : List ℕ) (next : ℕ) where
  roomy_forward : (b : Accepted) (t : Bool) → has_room b.content b.first_header rooms ≡ t → judged_turn rooms place (accepted b) ≡ line text next → place + b.consumed ≡ next
  roomy_forward b true h e = let w : line _ (place + b.consumed) ≡ line text next = rw h at e in cc
  roomy_forward b false h e = last_not_line (rw h at e)

  judged_forward : (j : Judgement) → judged_turn rooms place j ≡ line text next → (b : Accepted) × (j ≡ accepted b) × (place + b.consumed ≡ next)
  judged_forward (more n) e = last_not_line e
  judged_forward (refused n) e = last_not_line e
  judged_forward (accepted b) e = (b, refl, roomy_forward b _ refl e)

pub turn_forward : (rooms : Rooms) (s : List ℕ) (place : ℕ) (text : List ℕ) (next : ℕ) → turn_at rooms s place ≡ line text next
    → (place < next) × (next ≤ length s)
turn_forward rooms s place text next e =
    elim (dec_le (length s) place) [
      | yes h ↦ last_not_line (sym (turn_end rooms s place h) ∙ e)
      | no g ↦
          let (b, j, w) = judged_forward rooms place text next (judge listed_mode (drop place s)) (sym (turn_judged rooms s place (omega arith)) ∙ e) in
          let (any, within) = consumed_within (drop place s) b j in
          (omega arith, omega (arith, length-drop place s))
    ]

read_fits : (rooms : Rooms) (s : List ℕ) (place : ℕ) → length s < 2 ^ 64 → (r : Result BatchFound ReadError) → read_turn place r ≡ turn_at rooms s place → NextFits place r
read_fits rooms s place h (Ok b) e = let (_, within) = turn_forward rooms s place _ _ (sym e) in omega arith
read_fits rooms s place h (Err x) e = tt

-- ---- what was read at a place, from the file's bytes from there to their end

module _ (s : List ℕ) (place : ℕ) (t t' : Tables) (r : Result BatchFound ReadError) (h : place < length s)
    (e : ReadPromise listed_mode (take (length s - place) (drop place s)) t (record { result = r; tables = t' })) where
  reads : ReadPromise listed_mode (drop place s) t (record { result = r; tables = t' })
  reads = subst (λ (x : List ℕ). ReadPromise listed_mode x t (record { result = r; tables = t' })) (part_to_end s place) e

  pub next_fits : length s < 2 ^ 64 → NextFits place r
  next_fits l = read_fits (rooms_of t) s place l r (turn_read s place t _ h reads)

  pub read_listed : (x : Entry) → x ≡ entry_of (read_turn place r) → ListAtPromise s place t (record { result = x; tables = t' })
  read_listed x f = record { result = f ∙ ap entry_of (turn_read s place t _ h reads); tables = reads.by.tables }

-- ---- past the end nothing is read

judge_none : judge listed_mode [] ≡ more 12
unfolding judge_with total_at
judge_none = refl

pub none_read : (s : List ℕ) (place : ℕ) (t : Tables) → length s ≤ place → t ≡ tables_of (judge listed_mode (drop place s)) t
none_read s place t h = sym (ap (λ (x : List ℕ). tables_of (judge listed_mode x) t) (drop_of_length-le s {i = place} h) ∙ ap (λ (j : Judgement). tables_of j t) judge_none)

-- The lines of the functions' entries are those of the definition's turns, one after the other; and each turn that goes
-- on leaves fewer bytes, so that the turns are enough. Assumes nothing.
use Prim.Native.Nat.{ℕ, zero, suc, ◌+◌, ◌/◌, ◌≤◌, ◌<◌}
use mathlib.Core.Path.{◌≡◌, refl, sym, ap, ◌∙◌, subst}
use mathlib.Core.Bool.{Bool, true, false}
use mathlib.Core.List.{List, [], ◌∷◌, ◌++◌, append-nil}
use native.Mathlib.Omega.{arith}
use lib.Dec.{ltb}
use lib.ListN.{length, drop, length-append}
use lib.Seq.{take-append_seam}
use Rattle.std.specs.Prelude.{Some, None}
use Rattle.records.specs.Rows.{Tables}
use Rattle.opening.specs.Judgement.{judge}
use Rattle.batches.specs.Answers.{Rooms, rooms_of, tables_of}
use Rattle.listing.specs.declared.Entry.{Entry}
use Rattle.listing.specs.Listing.{Turn, line, last, most, listed_mode, first_turn, turn_at, and_on, lines_from, listing}
use Rattle.listing.specs.Answers.{in_line, entry_of}
use Rattle.listing.specs.Promises.{ListOutcome}
use Rattle.listing.specs.Statements.{shown_line, text_of, Follow, done, goes_on, Listed, Follows, ProgramRooms, InUse, FirstInUse, AtInUse, Forward, TurnsEnough}
use Rattle.listing.proofs.Turns.{turn_forward}

shown_in : (text : List ℕ) → shown_line (in_line text) ≡ text
shown_in text = take-append_seam text _

-- ---- an entry, from the turn that it is of

in_use : (turn : Turn) (x : Entry) → x ≡ entry_of turn → InUse x
in_use (line text next) x e = rw e (rw length-append (omega arith))
in_use (last text) x e = rw e (rw length-append (omega arith))

pub first_in_use : FirstInUse
first_in_use s x e = in_use (first_turn s) x e

pub at_in_use : AtInUse
at_in_use s place t o e = in_use (turn_at (rooms_of t) s place) o.result e.result

goes_to : (turn : Turn) (x : Entry) (place : ℕ) → x ≡ entry_of turn → x.next ≡ Some place → (text : List ℕ) × (turn ≡ line text place)
goes_to (line text next) x place e f = let w : next ≡ place = cc in (text, ap (line text) w)
goes_to (last text) x place e f = let w : Some place ≡ None = sym f ∙ ap (λ (y : Entry). y.next) e in cc

pub forward : Forward
forward s place t o next e f =
    let (text, is) = goes_to (turn_at (rooms_of t) s place) o.result next e.result f in
    turn_forward (rooms_of t) s place text next is

-- ---- turns

module _ (rooms : Rooms) (s : List ℕ) where
  -- so many turns are enough after a turn
  abbrev Enough : ℕ → Turn → Type 0
  Enough k (line text next) = (next ≤ length s) × (length s < next + k)
  Enough k (last text) = Unit {0}

  enough_after : (k place : ℕ) → length s < place + suc k → (turn : Turn) → turn_at rooms s place ≡ turn → Enough k turn
  enough_after k place h (line text next) e = let (further, within) = turn_forward rooms s place text next e in (within, omega arith)
  enough_after k place h (last text) e = tt

  -- ---- the entries that follow one

  followed : (k : ℕ) (turn : Turn) → Enough k turn → (x : Entry) (rest : List Entry) → x ≡ entry_of turn → Follow s rooms x rest
      → text_of (x ∷ rest) ≡ and_on turn (lines_from k rooms s)
  unfolding text_of lines_from
  followed k (line text next) n x _ e (done f) = let w : Some next ≡ None = sym (ap (λ (y : Entry). y.next) e) ∙ f in cc
  followed k (last text) n x _ e (done f) = append-nil _ ∙ ap (λ (y : Entry). shown_line y.line) e ∙ shown_in text
  followed k (last text) n x _ e (goes_on {place = place} f r p y) = let w : Some place ≡ None = sym f ∙ ap (λ (y : Entry). y.next) e in cc
  followed zero (line text next) n x _ e (goes_on f r p y) = absurd (omega arith)
  followed (suc k) (line text next) n x _ e (goes_on {place = place} {o = o} {rest = rest} f r p y) =
      let a : place ≡ next = cc in
      let here : shown_line x.line ≡ text = ap (λ (y : Entry). shown_line y.line) e ∙ shown_in text in
      let turn : Turn = turn_at rooms s next in
      let is : o.result ≡ entry_of turn = p.result ∙ (λ i. entry_of (turn_at (r i) s (a i))) in
      λ i. here i ++ followed k turn (enough_after k next n.1 turn refl) o.result rest is y i

  -- ---- as many turns as one likes, where they are enough

  same_lines : (k k' : ℕ) (turn : Turn) → Enough k turn → Enough k' turn → and_on turn (lines_from k rooms s) ≡ and_on turn (lines_from k' rooms s)
  unfolding lines_from
  same_lines zero k' (last text) n n' = refl
  same_lines zero k' (line text next) n n' = absurd (omega arith)
  same_lines (suc k) k' (last text) n n' = refl
  same_lines (suc k) zero (line text next) n n' = absurd (omega arith)
  same_lines (suc k) (suc k') (line text next) n n' =
      let turn : Turn = turn_at rooms s next in
      ap (λ (l : List ℕ). text ++ l)
      (same_lines k k' turn (enough_after k next n.1 turn refl) (enough_after k' next n'.1 turn refl))

-- the first turn
first_enough : (rooms : Rooms) (s : List ℕ) (t : Bool) → ltb most (length s) ≡ t → Enough rooms s (suc (length s)) (first_turn s)
first_enough rooms s true e = rw e tt
first_enough rooms s false e = rw e (omega arith, omega arith)

pub listed : Listed
unfolding listing
listed s rooms x rest e f = followed rooms s (suc (length s)) (first_turn s) (first_enough rooms s _ refl) x rest e f

follows_turn : (s : List ℕ) (t : Tables) (k : ℕ) (turn : Turn) → Enough (rooms_of t) s k turn
    → (rest : List Entry) × Follow s (rooms_of t) (entry_of turn) rest
follows_turn s t zero (line text next) n = absurd (omega arith)
follows_turn s t zero (last text) n = ([], done refl)
follows_turn s t (suc k) (last text) n = ([], done refl)
follows_turn s t (suc k) (line text next) n =
    let turn : Turn = turn_at (rooms_of t) s next in
    let (rest, f) = follows_turn s t k turn (enough_after (rooms_of t) s k next n.1 turn refl) in
    let o : ListOutcome = record { result = entry_of turn; tables = tables_of (judge listed_mode (drop next s)) t } in
    (entry_of turn ∷ rest, goes_on {place = next} {t = t} {o = o} refl refl (record { result = refl; tables = refl }) f)

pub follows : Follows
follows s t x e =
    let (rest, f) = follows_turn s t (suc (length s)) (first_turn s) (first_enough (rooms_of t) s _ refl) in
    (rest, subst (λ (y : Entry). Follow s (rooms_of t) y rest) (sym e) f)

pub turns_enough : TurnsEnough
turns_enough k rooms s h = same_lines rooms s k (suc (length s)) (line [] 0) (omega arith, omega arith) (omega arith, omega arith)

-- ---- the program's tables

pub program_rooms_lem : ProgramRooms
program_rooms_lem t e f = λ i. record { records = e i / 8; headers = f i / 4 }

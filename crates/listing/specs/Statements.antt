-- The laws of the listing, each in words and then as a statement. What proves each stands in proofs/ under the
-- statement's name in small letters, with `_lem` after it where a definition has that name: `listed : Listed`,
-- `program_rooms_lem : ProgramRooms`.
use Rattle.std.specs.Prelude.{ℕ, suc, ◌+◌, ◌-◌, ◌*◌, ◌^◌, ◌<◌, ◌≤◌, ◌≡◌, List, [], ◌∷◌, ◌++◌, length, get_or, take, Some, None}
use Rattle.records.specs.Rows.{Tables}
use Rattle.batches.specs.Answers.{Rooms, rooms_of}
use Rattle.listing.specs.declared.Line.{Line}
use Rattle.listing.specs.declared.Entry.{Entry}
use Rattle.listing.specs.Text.{decimal}
use Rattle.listing.specs.Listing.{program_rooms, lines_from, listing}
use Rattle.listing.specs.Promises.{ListFirstPromise, ListOutcome, ListAtPromise}

-- ---- numbers in decimal

-- the number that digits spell, after a number that stands before them
unfoldable pub spelled : ℕ → List ℕ → ℕ
spelled before [] = before
spelled before (digit ∷ rest) = spelled (10 * before + (digit - 48)) rest

unfoldable pub AllDigits : List ℕ → Type 0
AllDigits [] = Unit {0}
AllDigits (digit ∷ rest) = (48 ≤ digit) × (digit ≤ 57) × AllDigits rest

-- Of every number of 64 bits the text is digits alone that spell it, at least one, and no zero stands in front of
-- another digit.
pub record Spells (text : List ℕ) (n : ℕ) : Type 0 where
  pub value : spelled 0 text ≡ n
  pub digits : AllDigits text
  pub some : 0 < length text
  pub front : 1 < length text → 48 < get_or text 0 0

abbrev pub Decimals : Type 0
Decimals = (n : ℕ) → n < 2 ^ 64 → Spells (decimal n) n

-- ---- the lines of the functions' entries, in order, are the listing

-- the bytes of a line that are in use
abbrev pub shown_line : Line → List ℕ
shown_line l = take l.len l.bytes

unfoldable pub text_of : List Entry → List ℕ
text_of [] = []
text_of (x ∷ rest) = shown_line x.line ++ text_of rest

-- From an entry on, what `list_at` answers one time after the other, up to the last: each time it is lent the place at
-- which the listing goes on, and tables with so many rows. What stands in these is nothing to the listing.
pub data Follow (s : List ℕ) (rooms : Rooms) : Entry → List Entry → Type 0 where
  done : {x : Entry} → x.next ≡ None → Follow s rooms x []
  goes_on : {x : Entry} {place : ℕ} {t : Tables} {o : ListOutcome} {rest : List Entry} → x.next ≡ Some place → rooms_of t ≡ rooms
      → ListAtPromise s place t o → Follow s rooms o.result rest → Follow s rooms x (o.result ∷ rest)

-- The first entry and those that follow it have, in order, the lines of the listing.
abbrev pub Listed : Type 0
Listed = (s : List ℕ) (rooms : Rooms) (x : Entry) (rest : List Entry) → ListFirstPromise s x → Follow s rooms x rest → text_of (x ∷ rest) ≡ listing rooms s

-- And there are always such entries, up to a last one.
abbrev pub Follows : Type 0
Follows = (s : List ℕ) (t : Tables) (x : Entry) → ListFirstPromise s x → (rest : List Entry) × Follow s (rooms_of t) x rest

-- ---- the program's tables

-- Document 01: the program `list` reads with 1,024 record rows and 2,048 header rows. Tables of 8192 numbers each, as
-- it lends them, have these rows.
abbrev pub ProgramRooms : Type 0
ProgramRooms = (t : Tables) → length t.records ≡ 8192 → length t.headers ≡ 8192 → rooms_of t ≡ program_rooms

-- ---- lines

-- A line has the bytes that are said to be in use.
abbrev pub InUse : Entry → Type 0
InUse x = x.line.len ≤ length x.line.bytes

abbrev pub FirstInUse : Type 0
FirstInUse = (s : List ℕ) (x : Entry) → ListFirstPromise s x → InUse x

abbrev pub AtInUse : Type 0
AtInUse = (s : List ℕ) (place : ℕ) (t : Tables) (o : ListOutcome) → ListAtPromise s place t o → InUse o.result

-- ---- the listing ends

-- Where it goes on is further on, and within the file.
abbrev pub Forward : Type 0
Forward =
    (s : List ℕ) (place : ℕ) (t : Tables) (o : ListOutcome) (next : ℕ) → ListAtPromise s place t o → o.result.next ≡ Some next
    → (place < next) × (next ≤ length s)

-- More turns than there are bytes left print the same lines, however many they are.
abbrev pub TurnsEnough : Type 0
TurnsEnough = (k : ℕ) (rooms : Rooms) (s : List ℕ) → length s < k → lines_from k rooms s 0 ≡ lines_from (suc (length s)) rooms s 0

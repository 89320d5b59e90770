-- What each public function promises of its result and of the lent tables, for every input. Lent bytes are lent to be
-- read: no function here can change them.
use Rattle.std.specs.Prelude.{ℕ, ◌≡◌, List, drop}
use Rattle.records.specs.Rows.{Tables}
use Rattle.opening.specs.Judgement.{judge}
use Rattle.batches.specs.Answers.{rooms_of, tables_of}
use Rattle.listing.specs.declared.Entry.{Entry}
use Rattle.listing.specs.Listing.{listed_mode, first_turn, turn_at}
use Rattle.listing.specs.Answers.{entry_of}

-- list_first, on the bytes s of a file
abbrev pub ListFirstPromise : List ℕ → Entry → Type 0
ListFirstPromise s r = r ≡ entry_of (first_turn s)

-- the result of list_at, with both tables at exit
pub record ListOutcome : Type 0 where
  pub result : Entry
  pub tables : Tables

-- list_at, on the bytes s of a file, a place and tables t: the tables hold what reading at the place leaves in them
pub record ListAtPromise (s : List ℕ) (place : ℕ) (t : Tables) (o : ListOutcome) : Type 0 where
  pub result : o.result ≡ entry_of (turn_at (rooms_of t) s place)
  pub tables : o.tables ≡ tables_of (judge listed_mode (drop place s)) t

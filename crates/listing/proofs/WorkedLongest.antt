-- A file is as long as it may be, or longer, by the number of its bytes alone. Assumes nothing.
use Prim.Native.Nat.{suc}
use mathlib.Core.Path.{refl}
use lib.ListN.{length}
use Rattle.examples.specs.Examples.{text}
use Rattle.listing.specs.Text.{ascii}
use Rattle.listing.specs.Listing.{lines_from, listing}
use Rattle.listing.specs.Worked.{LongestListed, LongerRefused, WorkedLongest}

pub longest_listed : LongestListed
unfolding text ascii listing
longest_listed rooms s e = (lines_from (suc (length s)) rooms s 0, rw e refl)

pub longer_refused : LongerRefused
unfolding text ascii listing
longer_refused rooms s e = rw e refl

pub worked_longest : WorkedLongest
worked_longest = (longest_listed, longer_refused)

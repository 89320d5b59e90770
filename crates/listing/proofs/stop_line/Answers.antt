-- `listing::stop_line` meets its contract. Assumes nothing.
use Rattle.listing.specs.Text.{ascii}
use Rattle.listing.specs.Listing.{stop_line}
use Rattle.listing.proofs.Lines.{on_same, onto}
use Rattle.listing.proofs.stop_line.Goals as goal

pub returns : goal.returns
unfolding ascii stop_line
returns c = onto _ _ _ (on_same _ _ c.new.ensures c.text.ensures) (onto _ _ _ c.number.ensures (onto _ _ _ c.text-2.ensures c.number-2.ensures))

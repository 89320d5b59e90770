-- `listing::end_line` meets its contract. Assumes nothing.
use Rattle.listing.specs.Text.{ascii}
use Rattle.listing.specs.Listing.{end_line}
use Rattle.listing.proofs.Lines.{on_same, onto}
use Rattle.listing.proofs.end_line.Goals as goal

pub returns : goal.returns
unfolding ascii end_line
returns c = onto _ _ _ (on_same _ _ c.new.ensures c.text.ensures) c.number.ensures

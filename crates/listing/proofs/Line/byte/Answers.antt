-- `listing::Line::byte` meets its contract. Assumes nothing.
use Rattle.listing.proofs.Lines.{pushed_full, pushed_fits}
use Rattle.listing.proofs.Line.byte.Goals as goal

pub returns-then-at-ge-SIZE : goal.returns-then-at-ge-SIZE
returns-then-at-ge-SIZE c = search pushed_full

pub returns : goal.returns
returns c = search pushed_fits

-- `listing::Line::text` meets its contract: what is left of the bytes is still to be written. Assumes nothing.
use mathlib.Core.Path.{◌≡◌}
use lib.ListN.{drop}
use Rattle.listing.specs.Writing.{written}
use Rattle.listing.proofs.Line.text.Given as goal

abbrev pub invariant-loop-b : goal.invariant-loop-b
invariant-loop-b l = written l.line (drop l.b-index l.s) ≡ written l.initial.line l.s

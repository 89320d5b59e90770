-- `listing::Line::number` meets its contract, digit by digit as `Spelled` has it. Assumes nothing.
use mathlib.Core.Path.{◌≡◌}
use Rattle.listing.proofs.Digits.{Spelled}
use Rattle.listing.proofs.Line.number.Given as goal

abbrev pub invariant-loop-at : goal.invariant-loop-at
invariant-loop-at l = (l.start ≡ 0) × Spelled l.n l.digits l.at l.rest

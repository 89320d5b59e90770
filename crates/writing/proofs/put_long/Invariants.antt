-- `writing::put_long` meets its contract. Assumes nothing.
use mathlib.Core.Path.{◌≡◌}
use lib.ListN.{drop}
use Rattle.numbers.specs.Pen.{pen, emit}
use Rattle.writing.proofs.put_long.Given as goal

abbrev pub invariant-loop-b : goal.invariant-loop-b
invariant-loop-b l = emit (drop l.b-index l.b-items) (pen l.at l.output) ≡ emit l.b-items (pen l.initial.at l.initial.output)

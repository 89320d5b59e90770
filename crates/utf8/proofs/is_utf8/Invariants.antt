-- `utf8::is_utf8` meets its contract: what stands before the rest are whole characters. Assumes nothing.
use mathlib.Core.Path.{◌≡◌}
use lib.ListN.{length}
use Rattle.utf8.specs.Judgement.{is_utf8}
use Rattle.utf8.proofs.is_utf8.Given as goal

abbrev pub invariant-loop-first : goal.invariant-loop-first
invariant-loop-first l = is_utf8 l.s ≡ is_utf8 l.rest

abbrev pub decreases-loop-first : goal.decreases-loop-first
decreases-loop-first l = length l.rest

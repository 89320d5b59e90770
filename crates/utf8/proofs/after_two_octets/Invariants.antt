-- `utf8::after_two_octets` meets its contract: what stands before the rest are whole characters. Assumes nothing.
use mathlib.Core.Path.{◌≡◌}
use Prim.Native.Nat.{◌≤◌}
use lib.ListN.{length}
use Rattle.utf8.specs.Judgement.{is_utf8}
use Rattle.utf8.proofs.after_two_octets.Given as goal

abbrev pub invariant-loop-rest : goal.invariant-loop-rest
invariant-loop-rest l = (length l.rest ≤ length l.s) × (is_utf8 l.s ≡ is_utf8 l.rest)

abbrev pub decreases-loop-rest : goal.decreases-loop-rest
decreases-loop-rest l = length l.rest

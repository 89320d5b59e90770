-- `utf8::is_utf8` meets its contract: what stands before the rest are whole characters. Assumes nothing.
use Prim.Native.Nat.{◌≤◌}
use lib.ListN.{length}
use native.Mathlib.Omega.{arith}
use Rattle.std.proofs.lemmas.Grind.{common_steps}
use Rattle.utf8.proofs.Turns.{at_end}
use Rattle.utf8.proofs.is_utf8.Goals as goal

pub returns : goal.returns
returns c =
    let h : length c.loop-first.rest.now ≤ 0 = grind (arith, common_steps) in
    at_end _ _ c.loop-first.invariant h

-- `utf8::after_two_octets` meets its contract: each turn goes past a whole character. Assumes nothing.
use Prim.Native.Nat.{◌-◌}
use mathlib.Core.Path.{◌≡◌, ◌∙◌}
use native.Mathlib.Omega.{arith}
use lib.ListN.{length, take, drop, length-drop}
use lib.Seq.{take_all}
use Rattle.utf8.proofs.Turns.{two_octets}
use Rattle.utf8.proofs.after_two_octets.Goals as goal

pub loop-rest-preserved : goal.loop-rest-preserved
loop-rest-preserved c =
    let s = c.loop-rest.rest.now in
    let (shorter, same) = c.loop-rest.invariant in
    let e : take (length s - 2) (drop 2 s) ≡ drop 2 s = take_all (length s - 2) (drop 2 s) (simp length-drop (omega arith)) in
    rw e (simp length-drop (omega (arith, shorter)), same ∙ two_octets s c.in-194-to-223.len_at_least (omega arith) (omega arith))

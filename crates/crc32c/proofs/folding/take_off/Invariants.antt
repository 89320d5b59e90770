-- `crc32c::folding::take_off` meets its contract: each turn takes one byte off. Assumes nothing.
use Rattle.crc32c.proofs.Kept.{Taken}
use Rattle.crc32c.proofs.folding.take_off.Given as goal

abbrev pub invariant-loop-j : goal.invariant-loop-j
invariant-loop-j l = Taken l.part l.initial.w l.j l.w

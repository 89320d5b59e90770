-- `numbers::many_bytes` meets its contract, turn by turn as `Written` has it. Assumes nothing.
use Rattle.numbers.proofs.Written.{Written}
use Rattle.numbers.proofs.many_bytes.Given as goal

abbrev pub invariant-loop-rest : goal.invariant-loop-rest
invariant-loop-rest l = Written l.c l.bytes l.n l.rest

abbrev pub decreases-loop-rest : goal.decreases-loop-rest
decreases-loop-rest l = l.rest

-- `replay::replay` is safe and ends. The measure is what is left of the input: a case has four bytes at least. Assumes
-- nothing.
use Rattle.std.specs.Prelude.{length}
use Rattle.replay.proofs.replay.Given as goal

abbrev pub decreases-loop-rest : goal.decreases-loop-rest
decreases-loop-rest g l = length l.rest

-- `pinning::print` is safe and ends. The bytes that are printed end within the output, by what writing promises.
-- Assumes nothing.
use native.Mathlib.Omega.{arith}
use lib.ListN.{length-take}
use Rattle.writing.proofs.Outcomes.{within}
use Rattle.pinning.proofs.print.Goals as goal

pub slice_bounds-output-end : goal.slice_bounds-output-end
slice_bounds-output-end g c = omega (arith, within _ _ _ _ c.write-written.ensures.by c.in-Ok.is)

pub slice_bounds-write_all-end : goal.slice_bounds-write_all-end
slice_bounds-write_all-end g c = simp length-take (omega (arith, within _ _ _ _ c.write-written.ensures.by c.in-Ok.is))

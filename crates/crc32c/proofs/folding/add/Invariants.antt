-- `crc32c::folding::add` meets its contract: each turn stores one byte of the sum. Assumes nothing.
use Prim.Native.Nat.{ℕ, ◌<◌}
use mathlib.Core.Path.{◌≡◌}
use lib.ListN.{length, get_or}
use Rattle.crc32c.specs.Folding.{front}
use Rattle.crc32c.proofs.folding.add.Given as goal

abbrev pub invariant-loop-j : goal.invariant-loop-j
invariant-loop-j l = (length l.r ≡ 209) × ((k : ℕ) → k < l.j → get_or l.r k 0 ≡ front (get_or l.end k 0) l.w k)

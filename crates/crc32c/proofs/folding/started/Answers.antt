-- `crc32c::folding::started` meets its contract: the bytes of the register stand before zeros. Assumes nothing.
use native.Mathlib.Omega.{arith}
use mathlib.Core.Path.{◌∙◌}
use Rattle.crc32c.proofs.Copied.{register_window}
use Rattle.crc32c.proofs.folding.started.Goals as goal

pub returns : goal.returns
returns c = register_window c.args.register 4 1233 _ (omega arith) (c.copy_from_slice.ensures.after ∙ c.to_le_bytes.ensures)

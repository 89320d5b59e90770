-- `crc32c::table::divide` meets its contract: the table is right at each of its entries, which is computed. Assumes
-- nothing.
use mathlib.Core.Path.{refl}
use Rattle.crc32c.specs.Crc.{bit_step, steps}
use Rattle.crc32c.proofs.Halves.{is_table}
use Rattle.crc32c.proofs.table.divide.Goals as goal

pub invariant_of-divide : goal.invariant_of-divide
unfolding steps bit_step
invariant_of-divide c = record { right = is_table _ tt refl }

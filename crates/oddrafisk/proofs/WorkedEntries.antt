-- The entries of the worked batches, by computation. Assumes nothing.
use mathlib.Core.Path.{refl}
use Rattle.examples.specs.Examples.{digits, paired, hex}
use Rattle.oddrafisk.specs.Entries.{entries_asked}
use Rattle.oddrafisk.specs.Worked.{WorkedEntries}

pub worked_entries : WorkedEntries
unfolding digits paired hex entries_asked
worked_entries = (refl, refl)

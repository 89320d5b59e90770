-- The times of the worked batches, by computation. Assumes nothing.
use mathlib.Core.Path.{refl}
use Rattle.layout.specs.Time.{record_time}
use Rattle.oddrafisk.specs.Worked.{WorkedTimes}

pub worked_times : WorkedTimes
unfolding record_time
worked_times = refl

-- The times of the records of the worked batches, by computation. Assumes nothing.
use mathlib.Core.Path.{refl}
use Rattle.layout.specs.Time.{record_time}
use Rattle.layout.specs.Worked.{WorkedTimes}

pub worked_times : WorkedTimes
unfolding record_time
worked_times = refl

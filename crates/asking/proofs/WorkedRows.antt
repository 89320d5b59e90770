-- What the rows of the worked batches ask for, by computation. Assumes nothing.
use mathlib.Core.Path.{refl}
use Rattle.primitives.specs.Step.{times}
use Rattle.utf8.specs.Judgement.{after, goes_on}
use Rattle.examples.specs.Examples.{text, digits, paired, hex}
use Rattle.asking.specs.Asked.{header_asked, head_asked, record_asked, records_asked}
use Rattle.asking.specs.Worked.{WorkedRows}

pub worked_rows : WorkedRows
unfolding text digits paired hex records_asked record_asked head_asked header_asked times after goes_on
worked_rows = refl

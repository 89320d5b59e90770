-- The wrong rows beside the worked batches, refused by computation. Assumes nothing.
use mathlib.Core.Path.{refl}
use Rattle.primitives.specs.Step.{times}
use Rattle.utf8.specs.Judgement.{after, goes_on}
use Rattle.examples.specs.Examples.{digits, paired, hex}
use Rattle.asking.specs.Asked.{header_asked, head_asked, record_asked, records_asked}
use Rattle.asking.specs.Worked.{WorkedNumbers}

pub worked_numbers : WorkedNumbers
unfolding digits paired hex records_asked record_asked head_asked header_asked times after goes_on
worked_numbers = refl

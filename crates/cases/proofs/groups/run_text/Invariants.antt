-- `cases::groups::run_text` is safe and ends. The measure is what is left of the text. Assumes nothing.
use Rattle.std.specs.Prelude.{◌-◌, length}
use Rattle.cases.proofs.groups.run_text.Given as goal

abbrev pub decreases-loop-at : goal.decreases-loop-at
decreases-loop-at g l = length l.text - l.at

-- The fixed fields follow each other. Assumes nothing.
use mathlib.Core.Path.{refl}
use Rattle.layout.specs.Statements.{RunOn, TableRunsOn}

pub table_runs_on : TableRunsOn
unfolding RunOn
table_runs_on =
    ((refl, (refl, refl)), (refl, (refl, (refl, refl))), (refl, (refl, (refl, (refl, (refl, (refl, (refl, (refl, refl)))))))), refl)

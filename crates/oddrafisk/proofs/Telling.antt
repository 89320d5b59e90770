-- What is told of a conversion has a number for each count, from what the layer below promises. Assumes nothing.
use Prim.Native.Nat.{ℕ, ◌≤◌}
use mathlib.Core.Path.{subst⁻¹}
use mathlib.Core.List.{List}
use Rattle.converting.specs.Answers.{view_converted}
use Rattle.converting.specs.Promises as Conversions
use Rattle.oddrafisk.proofs.Counts.{Told, convert_counted}

pub convert_fits : (s out : List ℕ) (o : Conversions.ConvertOutcome) → Conversions.ConvertPromise s out o
    → ((view_converted o.result).taken ≤ 2147483659) × ((view_converted o.result).given ≤ 2147483659)
convert_fits s out o e = subst⁻¹ Told e.answer (convert_counted s _ e.lent)

-- What is said has a number for each count, from what the layer below promises. The premises have the form in which a
-- proof finds them. Assumes nothing.
use Prim.Native.Nat.{ℕ}
use mathlib.Core.Path.{◌≡◌, ◌∙◌, subst⁻¹}
use mathlib.Core.List.{List}
use Rattle.std.specs.Prelude.{Result}
use Rattle.records.specs.Rows.{Tables}
use Rattle.layout.specs.declared.ControlMode.{ControlMode}
use Rattle.opening.specs.declared.OpenError.{OpenError}
use Rattle.batches.specs.declared.BatchFound.{BatchFound}
use Rattle.batches.specs.declared.ReadError.{ReadError}
use Rattle.batches.specs.Answers.{view_check, view_read, rooms_of}
use Rattle.batches.specs.Promises as Batches
use Rattle.oddrafisk.specs.Statements.{Counted}
use Rattle.oddrafisk.proofs.Counts.{check_counted, read_counted}

pub check_fits : (mode : ControlMode) (s : List ℕ) (r : Result BatchFound OpenError) → Batches.CheckPromise mode s r → (w : Result BatchFound ReadError)
    → view_read w ≡ view_check r → Counted (view_read w)
check_fits mode s r e w same = subst⁻¹ Counted (same ∙ e.answer) (check_counted mode s)

pub read_fits : (mode : ControlMode) (s : List ℕ) (t : Tables) (o : Batches.ReadOutcome) → Batches.ReadPromise mode s t o → Counted (view_read o.result)
read_fits mode s t o e = subst⁻¹ Counted e.by.answer (read_counted mode s (rooms_of t))

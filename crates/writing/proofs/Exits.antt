-- The exit of a `?`, in a step over a record's row, and in measuring as a whole. Assumes nothing.
use Prim.Native.Nat.{ℕ}
use mathlib.Core.Path.{◌≡◌, ap, ◌∙◌}
use Rattle.std.proofs.Common.{Result, IsErrAnd}
use Rattle.primitives.specs.Step.{Step, no}
use Rattle.primitives.proofs.Exits.{exit}
use Rattle.asking.specs.declared.WriteFault.{WriteFault}
use Rattle.asking.specs.Asked.{RowPlace}
use Rattle.asking.specs.Answers.{write_number_of}
use Rattle.writing.specs.Answers.{Answer, refuses, view_written}
use Rattle.writing.specs.Sized.{view_row}

module _ {A B : Type 0} (row : ℕ) (value : A → B) (r : Result (A × ℕ) WriteFault) where
  pub row_exit : (f : WriteFault) {s : Step RowPlace B} → IsErrAnd r (λ e. e ≡ f) → no (write_number_of f) ≡ s → view_row row value r ≡ s
  row_exit f x e = ap (view_row row value) (exit r x) ∙ e

pub written_exit : (r : Result ℕ WriteFault) (f : WriteFault) {a : Answer} → IsErrAnd r (λ e. e ≡ f) → refuses (write_number_of f) ≡ a → view_written r ≡ a
written_exit r f x e = ap view_written (exit r x) ∙ e

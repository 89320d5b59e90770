-- The exit of a `?`: the fault that was met is returned, and stands for all that would have followed. Assumes nothing.
use Rattle.std.proofs.Common.{◌≡◌, Result, IsErrAnd, ap, ◌∙◌}
use Rattle.primitives.specs.Step.{Step, no}
use Rattle.primitives.proofs.Exits.{exit}
use Rattle.asking.specs.declared.WriteFault.{WriteFault}
use Rattle.asking.specs.Answers.{write_number_of, view_answer}

module _ {P A B : Type 0} (next : P) (value : A → B) (r : Result A WriteFault) where
  pub refused : (f : WriteFault) {s : Step P B} → IsErrAnd r (λ e. e ≡ f) → no (write_number_of f) ≡ s → view_answer next value r ≡ s
  refused f x e = ap (view_answer next value) (exit r x) ∙ e

-- The exit of a `?`: the fault that was met is returned, and stands for all that would have followed. The premises have
-- the form in which a proof finds them. Assumes nothing.
use Rattle.std.proofs.Common.{◌≡◌, ℕ, Result, Err, IsErrAnd, ap, ◌∙◌}
use Rattle.std.proofs.lemmas.Result.{err_from_is_err_and}
use Rattle.primitives.specs.declared.Cursor.{Cursor}
use Rattle.primitives.specs.Step.{Step, no, and_then, map_step}
use Rattle.primitives.specs.Answers.{view_read}

pub exit : {T E : Type 0} (r : Result T E) {f : E} → IsErrAnd r (λ e. e ≡ f) → r ≡ Err f
exit r x = let p = err_from_is_err_and r x in p.1 ∙ ap Err p.2

module _ {A B E : Type 0} (number : E → ℕ) (value : A → B) (r : Result (A × Cursor) E) where
  pub refused : {f : E} {s : Step ℕ B} → IsErrAnd r (λ e. e ≡ f) → no (number f) ≡ s → view_read number value r ≡ s
  refused x e = ap (view_read number value) (exit r x) ∙ e

  -- it was the first of two steps
  pub refused_first : {C : Type 0} {f : E} {s : Step ℕ C} (next : C → ℕ → Step ℕ B) → IsErrAnd r (λ e. e ≡ f) → no (number f) ≡ s
      → view_read number value r ≡ and_then s next
  refused_first next x e = refused x (ap (λ k. and_then k next) e)

  -- it was a step whose value is put in another form
  pub refused_only : {C : Type 0} {f : E} {s : Step ℕ C} (g : C → B) → IsErrAnd r (λ e. e ≡ f) → no (number f) ≡ s
      → view_read number value r ≡ map_step g s
  refused_only g x e = refused x (ap (map_step g) e)

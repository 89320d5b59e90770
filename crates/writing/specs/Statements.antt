-- The laws of writing records, each in words and then as a statement. What proves each stands in proofs/ under the
-- statement's name in small letters: `refused_untouched : RefusedUntouched`.
use Rattle.std.specs.Prelude.{ℕ, ◌≡◌, List}
use Rattle.writing.specs.Answers.{view_written, Given}
use Rattle.writing.specs.Promises.{WriteOutcome, WriteBy}

-- Document 01: a refusal changes none of the output, and returns length 0.
abbrev pub RefusedUntouched : Type 0
RefusedUntouched =
    (g : Given) (at : ℕ) (out : List ℕ) (o : WriteOutcome) → WriteBy g at out o → ((view_written o.result).number ≡ 0 → ⊥)
    → (o.output ≡ out) × ((view_written o.result).bytes ≡ 0)

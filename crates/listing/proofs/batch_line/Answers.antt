-- `listing::batch_line` meets its contract. Assumes nothing.
use mathlib.Core.Path.{ap, ◌∙◌}
use lib.IntN.{ℤ}
use mir.Syntax.{w64}
use mir.ValLaws.{to_z-of_z}
use Prim.Native.Nat.{ℕ}
use Rattle.listing.specs.Text.{spaced, decimal, signed_decimal}
use Rattle.listing.specs.Listing.{batch_line}
use Rattle.listing.specs.Writing.{written}
use Rattle.listing.proofs.Lines.{on_same, onto}
use Rattle.listing.proofs.batch_line.Goals as goal

pub returns : goal.returns
unfolding batch_line
returns c =
    onto _ _ _
    (on_same _ _ c.new.ensures c.signed.ensures
    ∙ ap (written _) (ap (λ (n : ℤ). spaced (signed_decimal n)) (to_z-of_z w64 c.args.base c.ranges.base)))
    (onto _ _ _ c.number-opening.ensures
    (onto _ _ _ c.kind.ensures
    (onto _ _ _ (c.number.ensures ∙ ap (written _) (ap (λ (n : ℕ). spaced (decimal n)) c.record_count.ensures))
    c.number-2.ensures)))

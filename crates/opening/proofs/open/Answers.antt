-- `opening::open` meets its contract. Assumes nothing.
use native.Mathlib.Omega.{arith}
use mathlib.Core.Path.{ap, ◌∙◌}
use Rattle.opening.specs.Opened.{known_at}
use Rattle.opening.proofs.Openings.{opens_on}
use Rattle.opening.proofs.open.Goals as goal

pub returns : goal.returns
returns c =
    c.open_checked.ensures ∙ ap (known_at c.args.frame.total) (opens_on _ _ _ _ c.if-not-checksum_holds.ensures _ (omega arith))

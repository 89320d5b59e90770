-- `markers::stand` meets its contract. Assumes nothing.
use Rattle.markers.proofs.Comparing.{compared}
use Rattle.markers.proofs.stand.Goals as goal

pub returns-in-Some : goal.returns-in-Some
returns-in-Some c =
    let (within, _, rest, _) = c.in-Some.ensures.lookup.0 in
    compared _ _ _ _ rest within _ c.eq.ensures

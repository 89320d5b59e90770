-- `converting::rekey` meets its contract. Assumes nothing.
use Rattle.converting.proofs.Giving.{bare_cut, bare_fixed, rekey_short, rekey_never, rekey_done}
use borrow.Author.Rules.{rules}
use Rattle.converting.proofs.rekey.Goals as goal

pub returns-then-output-lt-KEYED : goal.returns-then-output-lt-KEYED
returns-then-output-lt-KEYED c = search (rekey_short, rules)

pub slice_bounds-read_bare-end : goal.slice_bounds-read_bare-end
slice_bounds-read_bare-end c = search bare_cut

pub put_rekeyed-requires : goal.put_rekeyed-requires
put_rekeyed-requires c = search (bare_fixed, rules)

pub returns-in_err-marker : goal.returns-in_err-marker
returns-in_err-marker c = rekey_never _ c.requires.0 c.requires.1 _ c.in_err-marker.ensures _

pub returns : goal.returns
returns c = rekey_done _ c.requires.0 c.requires.1 _ _ _ c.in_ok-marker.ensures (search rules) _ c.put_rekeyed.ensures

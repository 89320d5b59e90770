-- `canonical::head_size` meets its contract. Assumes nothing.
use Rattle.std.proofs.Common.{rules}
use Rattle.canonical.proofs.SizeSteps.{head_got}
use Rattle.canonical.proofs.head_size.Goals as goal

pub returns : goal.returns
returns c =
    let r = c.args.r in
    head_got r.deltas.timestamp r.deltas.offset c.from.result r.key.len r.value.len r.headers _ _ _ _ _ _ (search rules) (search rules)
    (search rules) (search rules) (search rules) c.from.ensures c.number_size.ensures c.number_size-2.ensures
    c.number_size-3.ensures c.place_size.ensures c.place_size-2.ensures c.capped.ensures

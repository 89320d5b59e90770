-- `opening::read_attributes` meets its contract. Assumes nothing.
use Rattle.std.proofs.Common.{◌∙◌}
use Rattle.primitives.proofs.Exits.{refused}
use Rattle.opening.proofs.Fields.{attributes_refused, attributes_said}
use Rattle.opening.proofs.read_attributes.Goals as goal

pub returns-in_err-raw : goal.returns-in_err-raw
returns-in_err-raw c = refused _ _ _ c.from_residual.ensures.1 (attributes_refused _ _ c.in_err-raw.ensures)

pub returns-in_err-attributes : goal.returns-in_err-attributes
returns-in_err-attributes c =
    refused _ _ _ c.from_residual-in_err-attributes.ensures.1
    (c.in_err-attributes.ensures c.in_ok-raw.next.at ∙ attributes_said _ _ _ _ c.in_ok-raw.ensures c.type_inv.s)

pub returns : goal.returns
returns c = c.in_ok-attributes.ensures c.in_ok-raw.next.at ∙ attributes_said _ _ _ _ c.in_ok-raw.ensures c.type_inv.s

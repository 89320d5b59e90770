-- `opening::Attributes::try_from` meets its contract. Assumes nothing.
use mathlib.Core.Path.{ap, ◌∙◌}
use Rattle.primitives.proofs.Exits.{exit}
use Rattle.opening.specs.Opening.{view_attributes}
use Rattle.opening.specs.Answers.{view_made}
use Rattle.opening.proofs.Fields.{attributes_unknown, attributes_are}
use Rattle.opening.proofs.AttributesTryFromInt16.try_from.Goals as goal

pub returns-in_err-compression : goal.returns-in_err-compression
returns-in_err-compression c =
    λ p. ap (view_made view_attributes p) (exit _ c.from_residual.ensures.1)
    ∙ attributes_unknown _ _ c.to_be_bytes-bytes.ensures p (c.in_err-compression.ensures p)

pub returns : goal.returns
returns c =
    λ p. attributes_are _ _ c.to_be_bytes-bytes.ensures _ p (c.in_ok-compression.ensures p) _ c.timestamp_type_of-timestamp_type.ensures

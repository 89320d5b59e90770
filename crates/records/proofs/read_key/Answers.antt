-- `records::read_key` meets its contract. Assumes nothing.
use Rattle.std.proofs.Common.{◌≡◌, Some, ap, arith}
use Rattle.primitives.specs.Step.{ok}
use Rattle.records.proofs.FieldSteps.{key_ends, key_is}
use Rattle.records.proofs.Places.{in_memory}
use Rattle.records.proofs.read_key.Goals as goal

pub returns-then-is_utf8 : goal.returns-then-is_utf8
returns-then-is_utf8 c =
    let there : c.in_ok-key.key ≡ Some c.in_ok-key-2.key = grind arith in
    let row = in_memory _ _ (omega (arith, key_ends _ _ _ c.in_ok-key.ensures there)) c.from.ensures in
    rw (key_is _ _ (rw there at c.in_ok-key.ensures) _ c.is_utf8.ensures, c.if-is_utf8.true) (ap (λ r. ok r c.in_ok-key.next.at) row)

pub returns : goal.returns
returns c =
    let there : c.in_ok-key.key ≡ Some c.in_ok-key-2.key = grind arith in
    rw (key_is _ _ (rw there at c.in_ok-key.ensures) _ c.is_utf8.ensures, c.if-is_utf8.false)

-- `primitives::Cursor::take` meets its contract. Assumes nothing.
use Rattle.std.proofs.Common.{arith}
use Rattle.primitives.proofs.Fields.{window_there, window_gone}
use Rattle.primitives.proofs.Cursor.take.Goals as goal

pub returns-in_default : goal.returns-in_default
returns-in_default g c = window_gone _ _ _ (grind (arith, c.in_default.ensures.lookup))

pub returns-in_default-first_chunk : goal.returns-in_default-first_chunk
returns-in_default-first_chunk g c = let h = c.in_default-first_chunk.ensures.cases in
    let l = c.in-Some.ensures.lookup.0 in
    window_gone _ _ _ (grind (arith, h, l))

pub returns : goal.returns
returns g c =
    let (within, _, rest, _) = c.in-Some.ensures.lookup.0 in
    let first = c.in-Some-first_chunk.ensures.cases in
    window_there _ _ _ _ _ first.same rest within first.enough

-- `writing::put_number` meets its contract. Assumes nothing.
use mir.Syntax.{w64}
use mir.ValLaws.{to_z-of_z}
use Rattle.writing.proofs.Short.{told_short, told_long, passed_put, short_put}
use Rattle.writing.proofs.put_number.Goals as goal

pub one_byte-requires : goal.one_byte-requires
one_byte-requires c = told_short _ _ c.is_one_byte.ensures c.if-is_one_byte.true

pub returns-then-is_one_byte : goal.returns-then-is_one_byte
returns-then-is_one_byte c =
    short_put _ _ (to_z-of_z w64 c.args.n c.ranges.n) _ _ _ (told_short _ _ c.is_one_byte.ensures c.if-is_one_byte.true) c.one_byte.ensures
    c.put_byte.ensures

pub put_long-requires : goal.put_long-requires
put_long-requires c = told_long _ _ c.is_one_byte.ensures c.if-is_one_byte.false

pub returns : goal.returns
returns c = passed_put _ _ (to_z-of_z w64 c.args.n c.ranges.n) _ _ c.put_long.ensures

-- `crc32c::table::Table::by_ones` meets its contract. Assumes nothing.
use mathlib.Core.Path.{◌≡◌, ◌∙◌}
use borrow.Author.Rules.{rules}
use lib.Bits.{bit_xor}
use Rattle.std.specs.List.{fold}
use Rattle.crc32c.specs.Crc.{steps, castagnoli}
use Rattle.crc32c.proofs.Halves.{by_ones}
use Rattle.crc32c.proofs.table.Table.by_ones.Goals as goal

pub returns : goal.returns
returns c =
    let e : c.fold.result ≡ fold (λ c b. steps castagnoli 8 (bit_xor c b)) c.args.register c.args.s.now = search rules in
    e ∙ by_ones castagnoli c.args.register c.args.s.now

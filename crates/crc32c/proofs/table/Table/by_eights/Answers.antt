-- `crc32c::table::Table::by_eights` meets its contract: a turn takes eight bytes. Assumes nothing.
use mathlib.Core.Path.{◌≡◌, ◌∙◌}
use borrow.Author.Rules.{rules}
use lib.Bits.{bit_xor}
use Rattle.std.specs.List.{fold}
use Rattle.crc32c.specs.Crc.{steps, castagnoli, number_of}
use Rattle.crc32c.proofs.Halves.{by_eights}
use Rattle.crc32c.proofs.table.Table.by_eights.Goals as goal

pub returns : goal.returns
returns c =
    let e : c.fold.result ≡ fold (λ c y. steps castagnoli 64 (bit_xor c (number_of y))) c.args.register c.args.eights.now = search rules in
    e ∙ by_eights castagnoli c.args.register c.args.eights.now c.told-eights

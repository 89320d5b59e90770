-- `crc32c::table::Table::byte` meets its contract: each half byte is looked up in the row of its number of steps. Assumes
-- nothing.
use Prim.Native.Nat.{◌+◌, ◌*◌, ◌/◌, ◌%◌}
use native.Mathlib.Omega.{arith}
use mathlib.Core.Path.{◌≡◌, ap₂, ◌∙◌}
use lib.Bits.{bit_xor}
use Rattle.crc32c.specs.Crc.{steps, castagnoli}
use Rattle.crc32c.proofs.Halves.{byte_halves}
use Rattle.crc32c.proofs.table.Table.byte.Goals as goal

pub returns : goal.returns
returns c =
    let m = c.args.m in
    let x = c.args.x in
    let right = c.args.self.right.entry in
    let low = 32 * m + 16 + x % 16 in
    let high = 32 * m + x / 16 % 16 in
    let low_row : 4 * (low / 16 + 1) ≡ 8 * (m + 1) = omega arith in
    let low_place : low % 16 ≡ x % 16 = omega arith in
    let high_row : 4 * (high / 16 + 1) ≡ 8 * m + 4 = omega arith in
    let high_place : high % 16 ≡ x / 16 % 16 = omega arith in
    ap₂ bit_xor (right low (omega arith) ∙ ap₂ (steps castagnoli) low_row low_place)
    (right high (omega arith) ∙ ap₂ (steps castagnoli) high_row high_place)
    ∙ byte_halves castagnoli m x

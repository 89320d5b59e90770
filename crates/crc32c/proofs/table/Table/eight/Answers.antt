-- `crc32c::table::Table::eight` meets its contract, by its two words. Assumes nothing.
use Prim.Native.Nat.{ℕ, ◌<◌}
use mathlib.Core.Path.{◌≡◌, ap, ap₂, ◌∙◌, sym}
use borrow.Author.Rules.{rules}
use lib.Bits.{bit_xor}
use lib.ListN.{length, get_or}
use Rattle.crc32c.specs.Crc.{steps, castagnoli, number}
use Rattle.crc32c.proofs.Halves.{eight_bytes, eight_words}
use Rattle.crc32c.proofs.table.Table.eight.Goals as goal

pub returns : goal.returns
returns c =
    let r = c.args.c in
    let s = c.args.bytes in
    let x = c.from_le_bytes-x.result in
    let l : length s ≡ 8 = search rules in
    let h : (k : ℕ) → get_or s k 0 < 256 = search rules in
    let f : ℕ → ℕ = λ k. get_or s k 0 in
    ap₂ bit_xor c.word.ensures c.word-2.ensures ∙ eight_words castagnoli r x
    ∙ ap (λ (y : ℕ). steps castagnoli 64 (bit_xor r y)) (c.from_le_bytes-x.ensures ∙ eight_bytes f h ∙ ap (number f) (sym l))

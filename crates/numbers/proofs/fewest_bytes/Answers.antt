-- `numbers::fewest_bytes` meets its contract, by how many bytes the code has. Assumes nothing.
use Rattle.numbers.proofs.Few.{one_byte, two_bytes, three_bytes, four_bytes}
use Rattle.numbers.proofs.fewest_bytes.Goals as goal

pub returns-then-c-lt128 : goal.returns-then-c-lt128
returns-then-c-lt128 c = search one_byte

pub returns-then-c-lt16384 : goal.returns-then-c-lt16384
returns-then-c-lt16384 c = search two_bytes

pub returns-then-c-lt2097152 : goal.returns-then-c-lt2097152
returns-then-c-lt2097152 c = search three_bytes

pub returns-then-c-lt268435456 : goal.returns-then-c-lt268435456
returns-then-c-lt268435456 c = search four_bytes

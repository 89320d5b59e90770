-- What is accepted has all its fixed fields, and ends within the bytes. Assumes nothing.
use Prim.Native.Nat.{ℕ, ◌+◌, ◌≤◌}
use mathlib.Core.Path.{◌≡◌, ap}
use mathlib.Core.List.{List}
use native.Mathlib.Omega.{arith}
use lib.ListN.{length}
use lib.Seq.{length-take-le}
use Rattle.layout.specs.Table.{fixed_part}
use Rattle.opening.specs.Judgement.{Control, Accepted, accepted, judge_with}
use Rattle.batches.proofs.Passed.{passed}

pub accepted_within : (way : Control) (s : List ℕ) (b : Accepted) → judge_with way s 0 0 ≡ accepted b
    → (fixed_part ≤ b.consumed) × (b.consumed ≤ length s)
accepted_within way s b e =
    let p = passed way s 0 0 b e in
    let size : b.consumed ≡ 12 + p.size = ap (λ (x : Accepted). x.consumed) p.is in
    (omega (arith, size, p.read.fixed, length-take-le (0 + (12 + p.size)) s p.all_there), omega (arith, size, p.all_there))

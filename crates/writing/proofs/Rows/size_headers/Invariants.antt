-- `writing::Rows::size_headers` meets its contract. Assumes nothing.
use Prim.Native.Nat.{◌+◌, ◌-◌, ◌≤◌}
use mathlib.Core.Path.{◌≡◌}
use Rattle.primitives.specs.Step.{map_step, times}
use Rattle.asking.specs.Asked.{header_asked}
use Rattle.sizes.specs.Sizes.{headers_size, cap, capped}
use Rattle.writing.proofs.Loops.{rest, sizes_on}
use Rattle.writing.proofs.Rows.size_headers.Given as goal

abbrev pub invariant-loop-row : goal.invariant-loop-row
invariant-loop-row l =
    let headers = l.self.headers.now in
    let source = l.self.source.now in
    (rest (header_asked headers source) (sizes_on headers source) l.sum (l.first + l.count - l.row) l.row
    ≡ map_step (λ hs. capped (l.head + headers_size hs)) (times (header_asked headers source) l.count l.first))
    × (l.sum ≤ cap)

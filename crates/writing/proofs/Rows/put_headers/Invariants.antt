-- `writing::Rows::put_headers` meets its contract. Assumes nothing.
use Prim.Native.Nat.{◌+◌, ◌-◌}
use mathlib.Core.List.{map}
use mathlib.Core.Path.{◌≡◌}
use Rattle.numbers.specs.Pen.{pen, emit}
use Rattle.primitives.specs.Step.{map_step, times}
use Rattle.records.specs.Placed.{shown_header}
use Rattle.records.specs.Written.{written_headers}
use Rattle.asking.specs.Asked.{header_asked}
use Rattle.writing.proofs.Loops.{rest, headers_on}
use Rattle.writing.proofs.Rows.put_headers.Given as goal

abbrev pub invariant-loop-row : goal.invariant-loop-row
invariant-loop-row l =
    let headers = l.self.headers.now in
    let source = l.self.source.now in
    rest (header_asked headers source) (headers_on headers source) (pen l.at l.output) (l.first + l.count - l.row) l.row
    ≡ map_step (λ hs. emit (written_headers (map (shown_header source) hs)) (pen l.from l.initial.output))
    (times (header_asked headers source) l.count l.first)

-- Spans that lie inside a list.
use Rattle.std.specs.Prelude.{ℕ, ◌+◌, ◌≤◌, List, length}
use Rattle.std.proofs.Math.Option.{Option, none, some}
use Rattle.primitives.specs.Reading.{Span}

abbrev pub Inside : List ℕ → Span → Type 0
Inside s x = x.start + x.len ≤ length s

abbrev pub NullableInside : List ℕ → Option Span → Type 0
NullableInside s none = Unit {0}
NullableInside s (some x) = Inside s x

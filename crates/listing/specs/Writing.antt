-- Words of private contracts: none of them stands in a promise. A line as it is written, byte after
-- byte, and what was read as a line.
use Rattle.std.specs.Prelude.{ℕ, ◌+◌, ◌^◌, ◌<◌, List, [], ◌∷◌, ltb, set, Result, Ok, Err}
use Rattle.numbers.specs.Pick.{pick}
use Rattle.opening.specs.Answers.{batch_number_of}
use Rattle.batches.specs.declared.BatchFound.{BatchFound}
use Rattle.batches.specs.declared.ReadError.{ReadError}
use Rattle.batches.specs.Answers.{view_kind, view_count}
use Rattle.listing.specs.declared.Line.{Line}
use Rattle.listing.specs.Listing.{batch_line, stop_line, Turn, line, last}
use Rattle.listing.specs.Answers.{line_size, in_line}

-- a byte more, where the line has room for it
unfoldable pub pushed : Line → ℕ → Line
pushed l b = pick (ltb l.len line_size) (record { bytes = set l.bytes l.len b; len = l.len + 1 }) l

unfoldable pub written : Line → List ℕ → Line
written l [] = l
written l (b ∷ rest) = written (pushed l b) rest

abbrev pub empty_line : Line
empty_line = in_line []

-- what was read at a place
abbrev pub read_turn : ℕ → Result BatchFound ReadError → Turn
read_turn place (Ok x) =
    line (batch_line x.batch.base_offset x.consumed (view_kind x.kind) (view_count x.kind) x.headers) (place + x.consumed)
read_turn place (Err (ReadError.MoreBytes bytes)) = last (stop_line 1 place)
read_turn place (Err (ReadError.Refused f)) = last (stop_line (batch_number_of f) place)
read_turn place (Err (ReadError.NoRoom n m)) = last (stop_line 14 place)

-- the place after it is a number of 64 bits
abbrev pub NextFits : ℕ → Result BatchFound ReadError → Type 0
NextFits place (Ok x) = place + x.consumed < 2 ^ 64
NextFits place (Err e) = Unit {0}

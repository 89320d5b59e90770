-- What an entry of the listing says: its line as bytes, and where the listing goes on.
use Rattle.std.specs.Prelude.{ℕ, ◌-◌, List, ◌++◌, length, replicate, Some, None}
use Rattle.listing.specs.declared.Line.{Line}
use Rattle.listing.specs.declared.Entry.{Entry}
use Rattle.listing.specs.Listing.{Turn, line, last}

-- the bytes that a line has
abbrev pub line_size : ℕ
line_size = 96

-- a text in a line: zeros after it, and how many bytes it has
abbrev pub in_line : List ℕ → Line
in_line text = record { bytes = text ++ replicate (line_size - length text) 0; len = length text }

abbrev pub entry_of : Turn → Entry
entry_of (line text next) = record { line = in_line text; next = Some next }
entry_of (last text) = record { line = in_line text; next = None }

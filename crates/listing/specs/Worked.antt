-- The listing of worked batches and of worked files (crates/examples), by the definitions of this crate. What proves each
-- stands in proofs/ under the statement's name in small letters: `worked_lines : WorkedLines`.
use Rattle.std.specs.Prelude.{ℕ, ◌+◌, ◌≡◌, List, ◌++◌, map, length}
use Rattle.examples.specs.Examples.{Example, record_examples, Listed, listings, longest, heading_text, too_long_text}
use Rattle.records.specs.Worked.{example_records, example_headers}
use Rattle.layout.specs.Worked.{example_content}
use Rattle.batches.specs.Answers.{kind_of, Rooms}
use Rattle.listing.specs.Listing.{batch_line, program_rooms, listing}

-- ---- lines

abbrev pub line_of : Example → List ℕ
line_of e =
    batch_line e.base_offset (length e.bytes) (kind_of (example_content e.holds)) (length (example_records e.holds)) (example_headers e)

-- The line of each worked batch of records is the one that is given with it, and the listing of each worked file is the
-- whole text that is given with it.
abbrev pub WorkedLines : Type 0
WorkedLines =
    (map line_of record_examples ≡ map (λ (e : Example). e.line) record_examples)
    × (map (λ (l : Listed). listing program_rooms l.file) listings ≡ map (λ (l : Listed). l.listing) listings)

-- ---- the longest file

-- A file that is as long as any may be is listed, from the heading on.
abbrev pub LongestListed : Type 0
LongestListed = (rooms : Rooms) (s : List ℕ) → length s ≡ longest → (rest : List ℕ) × (listing rooms s ≡ heading_text ++ rest)

-- Of a file with one byte more it is said that it is too long, and nothing else.
abbrev pub LongerRefused : Type 0
LongerRefused = (rooms : Rooms) (s : List ℕ) → length s ≡ longest + 1 → listing rooms s ≡ too_long_text

abbrev pub WorkedLongest : Type 0
WorkedLongest = LongestListed × LongerRefused

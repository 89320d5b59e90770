-- The text that document 01, The listing, asks for a file: lines, one after the other.
use Rattle.std.specs.Prelude.{ℕ, zero, suc, ◌+◌, List, [], ◌++◌, leb, ltb, ℤ, length, drop}
use Rattle.numbers.specs.Pick.{pick}
use Rattle.layout.specs.Batch.{abort, commit}
use Rattle.layout.specs.declared.ControlMode.{ControlMode}
use Rattle.opening.specs.Judgement.{Judgement, more, refused, accepted, judge}
use Rattle.batches.specs.Answers.{Kind, of_records, of_marker, kind_of, records_in, headers_of, Rooms, has_room}
use Rattle.listing.specs.Text.{ascii, spaced, ended, decimal, signed_decimal}

-- ---- the lines

abbrev pub heading : List ℕ
heading = ascii "base bytes kind records headers\n"

abbrev pub too_long : List ℕ
too_long = ascii "file too long\n"

abbrev pub kind_word : Kind → List ℕ
kind_word of_records = ascii "records"
kind_word (of_marker abort) = ascii "abort"
kind_word (of_marker commit) = ascii "commit"

-- base offset, bytes, kind, records, headers
unfoldable pub batch_line : ℤ → ℕ → Kind → ℕ → ℕ → List ℕ
batch_line base bytes kind records headers =
    spaced (signed_decimal base) ++ (spaced (decimal bytes) ++ (spaced (kind_word kind) ++ (spaced (decimal records) ++ ended (decimal headers))))

-- "end at" and the length
unfoldable pub end_line : ℕ → List ℕ
end_line size = ascii "end at " ++ ended (decimal size)

-- "stop", the number, "at" and the place where the refused batch starts
unfoldable pub stop_line : ℕ → ℕ → List ℕ
stop_line number place = ascii "stop " ++ (spaced (decimal number) ++ (ascii "at " ++ ended (decimal place)))

-- ---- one line after the other

-- a line with the place at which the listing goes on, or the last line
pub data Turn : Type 0 where
  line : List ℕ → ℕ → Turn
  last : List ℕ → Turn

-- the longest file that is listed
abbrev pub most : ℕ
most = 65536

-- the rows with which the program `list` reads a batch
abbrev pub program_rooms : Rooms
program_rooms = record { records = 1024; headers = 2048 }

-- document 01's listing, as C-24 has it: a marker is the key of a record, and stands alone no more
abbrev pub listed_mode : ControlMode
listed_mode = ControlMode.Keyed

abbrev pub first_turn : List ℕ → Turn
first_turn s = pick (ltb most (length s)) (last too_long) (line heading 0)

-- of the batch that starts at a place, by what is judged of it and by the rows that are lent
abbrev pub judged_turn : Rooms → ℕ → Judgement → Turn
judged_turn rooms place (more n) = last (stop_line 1 place)
judged_turn rooms place (refused n) = last (stop_line n place)
judged_turn rooms place (accepted b) =
    pick (has_room b.content b.first_header rooms)
    (line (batch_line b.fields.base_offset b.consumed (kind_of b.content) (records_in b.content) (headers_of b.content)) (place + b.consumed))
    (last (stop_line 14 place))

-- what is lent to the reader is the file from the place on
unfoldable pub turn_at : Rooms → List ℕ → ℕ → Turn
turn_at rooms s place = pick (leb (length s) place) (last (end_line (length s))) (judged_turn rooms place (judge listed_mode (drop place s)))

-- a turn's line, and the rest where it is not the last
abbrev pub and_on : Turn → (ℕ → List ℕ) → List ℕ
and_on (line text next) rest = text ++ rest next
and_on (last text) rest = text

-- the lines from a place on, in at most k turns
unfoldable pub lines_from : ℕ → Rooms → List ℕ → ℕ → List ℕ
lines_from zero rooms s place = []
lines_from (suc k) rooms s place = and_on (turn_at rooms s place) (lines_from k rooms s)

-- Each turn but the last passes a byte at least, so that one more turn than there are bytes is enough (`TurnsEnough`,
-- Statements.antt).
unfoldable pub listing : Rooms → List ℕ → List ℕ
listing rooms s = and_on (first_turn s) (lines_from (suc (length s)) rooms s)

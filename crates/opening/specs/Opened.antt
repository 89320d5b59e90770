-- What is known of a batch before its marker or its records are read, and how the judgement goes on from there.
use Rattle.std.specs.Prelude.{ℕ, ◌+◌, Bool, List, eqb, take, drop}
use Rattle.numbers.specs.Pick.{pick}
use Rattle.primitives.specs.Step.{Step, ok, no, map_step}
use Rattle.crc32c.specs.Crc.{crc32c}
use Rattle.records.specs.Judgement.{RecordSpans}
use Rattle.layout.specs.Table.{table}
use Rattle.layout.specs.Batch.{Fields, Content}
use Rattle.opening.specs.Judgement.{Judged, more, refused, accepted, Accepted, Judgement, unsigned_in, attributes_in, fields_in, total_at, opened_at, Control, content_at, judgement_of}

-- the fields, whether it is a control batch, and how many records it has
pub record Known : Type 0 where
  pub fields : Fields
  pub control : Bool
  pub count : ℕ

-- document 01, Reader's numbers, 4 to 8, in the batch's own bytes, which end where the list ends
unfoldable pub known_in : List ℕ → ℕ → Step ℕ Known
known_in s at =
    pick (eqb (unsigned_in table.crc s at) (crc32c (drop (at + 21) s)))
    (map_step (λ n. record { fields = fields_in s at; control = (attributes_in s at).control; count = n }) (opened_at s at))
    (no 4)

-- and the place after the fixed fields, and the bytes of the batch
pub record KnownAt : Type 0 where
  pub known : Known
  pub next : ℕ
  pub total : ℕ

abbrev pub known_at : ℕ → Step ℕ Known → Judged KnownAt
known_at total (ok x p) = accepted (record { known = x; next = p; total = total })
known_at total (no n) = refused n

-- once length and magic have been met, all else is said by the batch's own bytes
abbrev pub open_by : List ℕ → ℕ → Judged ℕ → Judged KnownAt
open_by s at (more n) = more n
open_by s at (refused n) = refused n
open_by s at (accepted total) = known_at total (known_in (take (at + total) s) at)

abbrev pub open_at : List ℕ → ℕ → Judged KnownAt
open_at s at = open_by s at (total_at s at)

-- ---- the judgement, by the marker or the records

abbrev pub as_accepted : Fields → ℕ → ℕ → Content RecordSpans → Accepted
as_accepted x first total c = record { fields = x; content = c; first_header = first; consumed = total }

abbrev pub judged_as : Fields → ℕ → ℕ → Step ℕ (Content RecordSpans) → Judgement
judged_as x first total y = judgement_of (map_step (as_accepted x first total) y)

abbrev pub judged_from : Control → List ℕ → ℕ → ℕ → Judged KnownAt → Judgement
judged_from way s at first (more n) = more n
judged_from way s at first (refused n) = refused n
judged_from way s at first (accepted o) =
    judged_as o.known.fields first o.total
    (content_at way o.known.control (take (at + o.total) s) o.known.count o.next)

-- Where the parts of a batch's encoding stand when it stands at a place, and what an accepted batch shows.
use Rattle.std.specs.Prelude.{ℕ, ◌+◌, Bool, List, length}
use Rattle.records.specs.Format.{Record}
use Rattle.records.specs.Judgement.{RecordSpans}
use Rattle.records.specs.Placed.{placed_records, shown_records}
use Rattle.layout.specs.Table.{fixed_part}
use Rattle.layout.specs.Batch.{Content, control, records, Batch}
use Rattle.layout.specs.Format.{Grammar, ContentBytes, BatchBytesWith}
use Rattle.opening.specs.Judgement.{Accepted}

abbrev pub placed_content : (grammar : Grammar) (strict : Bool) (bs : List ℕ) (c : Content Record) → ℕ → ContentBytes grammar strict bs c
    → Content RecordSpans
placed_content grammar strict bs (control m) p g = control m
placed_content grammar strict bs (records rs) p g = records (placed_records p g)

-- the accepted batch of an encoding that stands at a place, with its header rows from a given row on
abbrev pub placed_batch : {grammar : Grammar} {strict : Bool} {bs : List ℕ} {b : Batch Record} → ℕ → ℕ → BatchBytesWith grammar strict bs b → Accepted
placed_batch {grammar} {strict} {bs} {b} at first g =
    record {
      fields = b.fields;
      content = placed_content grammar strict g.body b.content (at + fixed_part) g.holds;
      first_header = first;
      consumed = length bs;
    }

abbrev pub shown_content : List ℕ → Content RecordSpans → Content Record
shown_content s (control m) = control m
shown_content s (records rs) = records (shown_records s rs)

-- the batch that is shown in the bytes
abbrev pub shown_batch : List ℕ → Accepted → Batch Record
shown_batch s b = record { fields = b.fields; content = shown_content s b.content }

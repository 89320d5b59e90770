-- What each public answer says: document 01's number, and the values that it names.
use Rattle.std.specs.Prelude.{ℕ, List, [], ◌∷◌, ◌++◌, ℤ}
use Rattle.primitives.specs.Answers.{number_of}
use Rattle.records.specs.declared.RecordFault.{RecordFault}
use Rattle.records.specs.declared.Place.{Place}
use Rattle.records.specs.declared.RecordHeader.{RecordHeader}
use Rattle.records.specs.declared.Record.{Record}
use Rattle.records.specs.Judgement.{Head}
use Rattle.records.specs.Rows.{span_row}

-- document 01, Reader's numbers
abbrev pub record_number_of : RecordFault → ℕ
record_number_of (RecordFault.Field f) = number_of f
record_number_of RecordFault.KeyNotUtf8 = 11
record_number_of RecordFault.BytesLeft = 13

-- ---- a header, and what a record has before its headers

-- two numbers of a row
abbrev pub place_row : Place → List ℤ
place_row x = x.start ∷ x.len ∷ []

-- the four numbers of a header's row
abbrev pub view_header : RecordHeader → List ℤ
view_header h = place_row h.key ++ place_row h.value

-- the first six numbers of a record's row, and how many headers it has
pub record Heading : Type 0 where
  pub numbers : List ℤ
  pub count : ℕ

abbrev pub heading_of : Head → Heading
heading_of h =
    record {
      numbers = h.deltas.timestamp ∷ h.deltas.offset ∷ (span_row h.key ++ span_row h.value);
      count = h.count;
    }

abbrev pub view_record : Record → Heading
view_record r =
    record {
      numbers = r.deltas.timestamp ∷ r.deltas.offset ∷ (place_row r.key ++ place_row r.value);
      count = r.headers;
    }

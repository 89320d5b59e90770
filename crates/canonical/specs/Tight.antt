-- Words of private contracts: none of them stands in a promise. The answers of the canonical check's steps.
use Rattle.std.specs.Prelude.{ℕ, ◌+◌, true, Option, Some, None, List}
use Rattle.primitives.specs.declared.Cursor.{Cursor}
use Rattle.primitives.specs.Stands.{Encoding}
use Rattle.records.specs.Format.{Record, RecordBytes}
use Rattle.records.specs.Judgement.{HeaderSpans, RecordSpans}
use Rattle.sizes.specs.Sizes.{headers_size, fields_size, capped}

-- headers onto a size
abbrev pub headers_onto : ℕ → List HeaderSpans → ℕ
headers_onto sum hs = capped (sum + headers_size hs)

-- what follows a record's length
abbrev pub fields_capped : RecordSpans → ℕ
fields_capped r = capped (fields_size r)

-- from the place p a record stands strictly up to the place that is given; or none does, up to any place
abbrev pub Strictly : List ℕ → ℕ → Option Cursor → Type 0
Strictly s p (Some next) = (r : Record) × Encoding (RecordBytes true) s p next.at r
Strictly s p None = (q : ℕ) (r : Record) → Encoding (RecordBytes true) s p q r → ⊥

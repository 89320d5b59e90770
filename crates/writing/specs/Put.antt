-- Words of private contracts: none of them stands in a promise. What the walk that writes leaves in the output.
use Rattle.std.specs.Prelude.{ℕ, List, [], ◌∷◌, ◌++◌, pos}
use Rattle.numbers.specs.Format.{shortest}
use Rattle.records.specs.Judgement.{RecordSpans}
use Rattle.records.specs.Placed.{shown_record}
use Rattle.records.specs.Written.{written_fields}
use Rattle.sizes.specs.Sizes.{fields_size, capped}

-- a record after a length that goes no higher than the cap
unfoldable pub capped_record : List ℕ → RecordSpans → List ℕ
capped_record s r = shortest (pos (capped (fields_size r))) ++ written_fields (shown_record s r)

unfoldable pub capped_records : List ℕ → List RecordSpans → List ℕ
capped_records s [] = []
capped_records s (r ∷ rest) = capped_record s r ++ capped_records s rest

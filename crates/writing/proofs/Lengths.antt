-- What rows ask for is written after the lengths that were worked out for it, where these are not too long. Assumes
-- nothing.
use Prim.Native.Nat.{ℕ, ◌<◌}
use mathlib.Core.Path.{◌≡◌, refl}
use mathlib.Core.List.{List, [], ◌∷◌, ◌++◌}
use native.Mathlib.Omega.{arith}
use lib.IntN.{pos}
use lib.ListN.{length}
use Rattle.numbers.specs.Format.{shortest}
use Rattle.primitives.specs.Step.{ok, times}
use Rattle.records.specs.Judgement.{RecordSpans}
use Rattle.records.specs.Rows.{Tables}
use Rattle.records.specs.Placed.{shown_record, shown_records}
use Rattle.records.specs.Statements.{Each}
use Rattle.records.specs.Written.{written_bytes, written_fields, written_records}
use Rattle.sizes.specs.Inside.{RecordInside}
use Rattle.sizes.specs.Sizes.{span_size, fields_size, records_size, cap, capped}
use Rattle.sizes.proofs.Lengths.{fields_sized, records_sized}
use Rattle.asking.specs.Asked.{RowPlace, record_asked}
use Rattle.writing.specs.Put.{capped_record, capped_records}
use Rattle.writing.proofs.Inside.{records_inside}

put_capped : (s : List ℕ) (rs : List RecordSpans) → Each (RecordInside s) rs → records_size rs < cap → capped_records s rs ≡ written_records (shown_records s rs)
unfolding written_records records_size span_size capped_records capped_record written_bytes Each
put_capped s [] each h = refl
put_capped s (r ∷ rest) (i, each) h =
    let n : capped (fields_size r) ≡ length (written_fields (shown_record s r)) = omega (arith, h, fields_sized s r i) in
    λ j. (shortest (pos (n j)) ++ written_fields (shown_record s r)) ++ put_capped s rest each (omega (arith, h)) j

module _ (t : Tables) (s : List ℕ) where
  -- records: together as long as is said, and written after the lengths that were worked out
  pub record Together (rs : List RecordSpans) : Type 0 where
    pub size : length (written_records (shown_records s rs)) ≡ records_size rs
    pub put : records_size rs < cap → capped_records s rs ≡ written_records (shown_records s rs)

  pub together : (k : ℕ) (at : RowPlace) {rs : List RecordSpans} {q : RowPlace} → times (record_asked t s) k at ≡ ok rs q → Together rs
  together k at {rs} e =
      let inside = records_inside t s k at e in
      record { size = records_sized s rs inside; put = put_capped s rs inside }

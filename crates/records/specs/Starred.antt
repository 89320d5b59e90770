-- The starred rows of document 01, all ten in one table: eight of numbers of varying length, with twelve byte strings,
-- and the two records.
use Rattle.std.specs.Prelude.{ℕ, Bool, true, false, List, [], ◌∷◌, ◌++◌, map, ℤ, pos, negsuc}
use Rattle.std.proofs.Math.Option.{none, some}
use Rattle.numbers.specs.Pick.{pick}
use Rattle.numbers.specs.Format.{shortest}
use Rattle.primitives.specs.Step.{Step, ok, no, map_step}
use Rattle.primitives.specs.Reading.{varint_at}
use Rattle.records.specs.Format.{Record}
use Rattle.records.specs.Written.{written_record}
use Rattle.records.specs.Judgement.{record_at}
use Rattle.records.specs.Placed.{shown_record}

-- ---- the table

-- the bytes, the widths at which they are read, what is read from their first place on, and whether the writer gives
-- them
pub record StarredVarint : Type 0 where
  pub bytes : List ℕ
  pub widths : List ℕ
  pub answer : Step ℕ ℤ
  pub written : Bool

abbrev row : List ℕ → List ℕ → Step ℕ ℤ → Bool → StarredVarint
row bytes widths answer written = record { bytes = bytes; widths = widths; answer = answer; written = written }

abbrev both : List ℕ
both = 32 ∷ 64 ∷ []

abbrev starred_varints : List StarredVarint
starred_varints =
    row (0x00 ∷ []) both (ok (pos 0) 1) true
    ∷ row (0x01 ∷ []) both (ok (negsuc 0) 1) true
    ∷ row (0x02 ∷ []) both (ok (pos 1) 1) true
    ∷ row (0x7E ∷ []) both (ok (pos 63) 1) true
    ∷ row (0x7F ∷ []) both (ok (negsuc 63) 1) true
    ∷ row (0x80 ∷ 0x01 ∷ []) both (ok (pos 64) 2) true
    ∷ row (0x81 ∷ 0x01 ∷ []) both (ok (negsuc 64) 2) true
    ∷ row (0xFE ∷ 0xFF ∷ 0xFF ∷ 0xFF ∷ 0x0F ∷ []) both (ok (pos 2147483647) 5) true
    ∷ row (0xFF ∷ 0xFF ∷ 0xFF ∷ 0xFF ∷ 0x0F ∷ []) both (ok (negsuc 2147483647) 5) true
    ∷ row (0xFF ∷ 0xFF ∷ 0xFF ∷ 0xFF ∷ 0xFF ∷ 0xFF ∷ 0xFF ∷ 0xFF ∷ 0xFF ∷ 0x01 ∷ []) (64 ∷ []) (ok (negsuc 9223372036854775807) 10) true
    ∷ row (0x80 ∷ 0x00 ∷ []) both (ok (pos 0) 2) false
    ∷ row (0xFF ∷ 0xFF ∷ 0xFF ∷ 0xFF ∷ 0x10 ∷ []) (32 ∷ []) (no 9) false
    ∷ []

-- the bytes, what they are read as from their first place on, and the end
pub record StarredRecord : Type 0 where
  pub bytes : List ℕ
  pub value : Record
  pub end : ℕ

abbrev starred_records : List StarredRecord
starred_records =
    record {
      bytes = 0x0C ∷ 0x00 ∷ 0x00 ∷ 0x00 ∷ 0x01 ∷ 0x01 ∷ 0x00 ∷ [];
      value = record { timestamp_delta = pos 0; offset_delta = pos 0; key = none; value = none; headers = [] };
      end = 7;
    }
    ∷ record {
      bytes = 0x0E ∷ 0x00 ∷ 0x00 ∷ 0x00 ∷ 0x01 ∷ 0x02 ∷ 0x41 ∷ 0x00 ∷ [];
      value = record { timestamp_delta = pos 0; offset_delta = pos 0; key = none; value = some (0x41 ∷ []); headers = [] };
      end = 8;
    }
    ∷ []

pub data Row : Type 0 where
  numbers : StarredVarint → Row
  whole : StarredRecord → Row

abbrev pub starred_rows : List Row
starred_rows = map numbers starred_varints ++ map whole starred_records

-- ---- a row of numbers

-- what a row reads as, at each of its widths, and what it should
abbrev readings : StarredVarint → List (Step ℕ ℤ)
readings r = map (λ (w : ℕ). varint_at w r.bytes 0) r.widths

abbrev expected : StarredVarint → List (Step ℕ ℤ)
expected r = map (λ (w : ℕ). r.answer) r.widths

-- what the writer gives for a row's value, where it gives the row's bytes
abbrev written_of : Step ℕ ℤ → List ℕ
written_of (ok n p) = shortest n
written_of (no n) = []

abbrev rewritten : StarredVarint → List ℕ
rewritten r = pick r.written (written_of r.answer) r.bytes

-- ---- a row

-- what is read, and what should be
pub data Reading : Type 0 where
  number : List (Step ℕ ℤ) → Reading
  shows : Step ℕ Record → Reading

abbrev pub read : Row → Reading
read (numbers r) = number (readings r)
read (whole r) = shows (map_step (shown_record r.bytes) (record_at r.bytes 0))

abbrev pub due : Row → Reading
due (numbers r) = number (expected r)
due (whole r) = shows (ok r.value r.end)

-- what is written for the value, and the bytes
abbrev pub written : Row → List ℕ
written (numbers r) = rewritten r
written (whole r) = written_record r.value

abbrev pub given : Row → List ℕ
given (numbers r) = r.bytes
given (whole r) = r.bytes

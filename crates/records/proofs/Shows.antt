-- What the spans of an encoding show, where it stands, is its value: each span is where its bytes stand.
-- Assumes nothing.
use Prim.Native.Nat.{ℕ, ◌+◌}
use mathlib.Core.Path.{◌≡◌, refl, ap}
use mathlib.Core.Bool.{Bool, true}
use mathlib.Core.Option.{Option, none, some}
use mathlib.Core.List.{List, map}
use lib.ListN.{length}
use Rattle.numbers.specs.Format.{Sized, Nullable}
use Rattle.primitives.specs.Stands.{Stands}
use Rattle.primitives.specs.Reading.{bytes_of, shown}
use Rattle.primitives.proofs.Places.{shows, first, second}
use Rattle.records.specs.Format.{Header, Record, Run, HeaderBytes, FieldsBytes, RecordBytes, RecordsBytes}
use Rattle.records.specs.Placed.{placed_bytes, placed_nullable, placed_header, placed_run, placed_fields, placed_record, placed_records, shown_header, shown_record, shown_records}
use Rattle.records.proofs.Parts.{sized_stands, key_stands, value_stands, fields_stand}

-- ---- bytes

pub bytes_shows : {strict : Bool} {s : List ℕ} {p q : ℕ} {bs v : List ℕ} → Stands s p q bs → (g : Sized strict bs v)
    → bytes_of s (placed_bytes v p g) ≡ v
bytes_shows x g = shows (sized_stands x g)

nullable_shows : (strict : Bool) {s : List ℕ} {p q : ℕ} {bs : List ℕ} (v : Option (List ℕ)) → Stands s p q bs → (g : Nullable true strict bs v)
    → shown s (placed_nullable strict bs v p g) ≡ v
nullable_shows strict none x g = refl
nullable_shows strict (some v) x g = ap some (bytes_shows x g)

-- ---- things one after the other

module _ {A R : Type 0} {G : List ℕ → A → Type 0} (place : (x : List ℕ) (a : A) → ℕ → G x a → R) (show : R → A) {s : List ℕ}
    (each : (p q : ℕ) (x : List ℕ) (a : A) → Stands s p q x → (g : G x a) → show (place x a p g) ≡ a) where
  run_shows : {p q : ℕ} {bs : List ℕ} {run : List A} → Stands s p q bs → (g : Run G bs run) → map show (placed_run place p g) ≡ run
  unfolding placed_run
  run_shows {p} z Run.ended = refl
  run_shows {p} z (Run.more {x} {y} {a} g rest) = rw (each p (p + length x) x a (first x y z) g, run_shows {p = p + length x} (second x y z) rest)

-- ---- a header, a record, records

pub header_shows : {strict : Bool} {s : List ℕ} {p q : ℕ} {bs : List ℕ} {h : Header} → Stands s p q bs → (g : HeaderBytes strict bs h)
    → shown_header s (placed_header p g) ≡ h
header_shows x g = rw (bytes_shows (key_stands x g) g.keyed, bytes_shows (value_stands x g) g.valued)

fields_shows : {strict : Bool} {s : List ℕ} {p q : ℕ} {bs : List ℕ} {r : Record} → Stands s p q bs → (g : FieldsBytes strict bs r)
    → shown_record s (placed_fields p g) ≡ r
fields_shows {strict} {s} {r = r} x g =
    let y = fields_stand x g in
    rw (
      nullable_shows strict r.key y.key g.keyed,
      nullable_shows strict r.value y.value g.valued,
      run_shows (λ x h at e. placed_header at e) (shown_header s) (λ p q x h. header_shows) y.headers g.headed,
    )

pub record_shows : {strict : Bool} {s : List ℕ} {p q : ℕ} {bs : List ℕ} {r : Record} → Stands s p q bs → (g : RecordBytes strict bs r)
    → shown_record s (placed_record p g) ≡ r
record_shows x g = fields_shows (sized_stands x g.sized) g.holds

pub records_shows : {strict : Bool} {s : List ℕ} {p q : ℕ} {bs : List ℕ} {rs : List Record} → Stands s p q bs → (g : RecordsBytes strict bs rs)
    → shown_records s (placed_records p g) ≡ rs
records_shows {s = s} x g = run_shows (λ x r at e. placed_record at e) (shown_record s) (λ p q x r. record_shows) x g

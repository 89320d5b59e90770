-- Where an encoding stands, the spans of its parts lie in the list, the keys that they show are UTF-8, and the numbers
-- are of their width. Assumes nothing.
use Prim.Native.Nat.{ℕ, ◌+◌}
use mathlib.Core.Path.{sym, subst}
use mathlib.Core.Bool.{Bool, true}
use mathlib.Core.Option.{Option, none, some}
use mathlib.Core.List.{List}
use native.Mathlib.Omega.{arith}
use lib.ListN.{length}
use Rattle.numbers.specs.Format.{InBits, Sized, Nullable}
use Rattle.primitives.specs.Stands.{Stands}
use Rattle.primitives.specs.Reading.{bytes_of}
use Rattle.primitives.proofs.Places.{first, second}
use Rattle.utf8.specs.Grammar.{Octets}
use Rattle.records.specs.Format.{Header, Record, Run, HeaderBytes, RecordBytes, RecordsBytes}
use Rattle.records.specs.Inside.{Inside, NullableInside}
use Rattle.records.specs.Judgement.{HeaderSpans, RecordSpans}
use Rattle.records.specs.Placed.{placed_bytes, placed_nullable, placed_header, placed_run, placed_record, placed_records}
use Rattle.records.specs.Statements.{Each}
use Rattle.records.proofs.Parts.{sized_stands, key_stands, value_stands, fields_stand}
use Rattle.records.proofs.Shows.{bytes_shows}

-- ---- what is said of spans

pub record HeaderInside (s : List ℕ) (h : HeaderSpans) : Type 0 where
  pub key : Inside s h.key
  pub utf8 : Octets (bytes_of s h.key)
  pub value : Inside s h.value

pub record RecordInside (s : List ℕ) (r : RecordSpans) : Type 0 where
  pub timestamp : InBits 64 r.timestamp_delta
  pub offset : InBits 32 r.offset_delta
  pub key : NullableInside s r.key
  pub value : NullableInside s r.value
  pub headers : Each (HeaderInside s) r.headers

-- ---- and holds of those of an encoding

bytes_inside : {strict : Bool} {s : List ℕ} {p q : ℕ} {bs : List ℕ} (v : List ℕ) → Stands s p q bs → (g : Sized strict bs v)
    → Inside s (placed_bytes v p g)
bytes_inside v x g = let y = sized_stands x g in omega (arith, y.end, y.within)

nullable_inside : (strict : Bool) {s : List ℕ} {p q : ℕ} {bs : List ℕ} (v : Option (List ℕ)) → Stands s p q bs → (g : Nullable true strict bs v)
    → NullableInside s (placed_nullable strict bs v p g)
nullable_inside strict none x g = tt
nullable_inside strict (some v) x g = bytes_inside v x g

module _ {A R : Type 0} {G : List ℕ → A → Type 0} (place : (x : List ℕ) (a : A) → ℕ → G x a → R) (P : R → Type 0) {s : List ℕ}
    (each : (p q : ℕ) (x : List ℕ) (a : A) → Stands s p q x → (g : G x a) → P (place x a p g)) where
  run_inside : {p q : ℕ} {bs : List ℕ} {run : List A} → Stands s p q bs → (g : Run G bs run) → Each P (placed_run place p g)
  unfolding placed_run Each
  run_inside {p} z Run.ended = tt
  run_inside {p} z (Run.more {x} {y} {a} g rest) = (each p (p + length x) x a (first x y z) g, run_inside {p = p + length x} (second x y z) rest)

header_inside : {strict : Bool} {s : List ℕ} {p q : ℕ} {bs : List ℕ} {h : Header} → Stands s p q bs → (g : HeaderBytes strict bs h)
    → HeaderInside s (placed_header p g)
header_inside {h = h} x g =
    record {
      key = bytes_inside h.key (key_stands x g) g.keyed;
      utf8 = subst Octets (sym (bytes_shows (key_stands x g) g.keyed)) g.utf8;
      value = bytes_inside h.value (value_stands x g) g.valued;
    }

pub record_inside : {strict : Bool} {s : List ℕ} {p q : ℕ} {bs : List ℕ} {r : Record} → Stands s p q bs → (g : RecordBytes strict bs r)
    → RecordInside s (placed_record p g)
record_inside {strict} {s} {r = r} x g =
    let f = g.holds in
    let y = fields_stand (sized_stands x g.sized) f in
    record {
      timestamp = f.timestamped.fits;
      offset = f.offset.fits;
      key = nullable_inside strict r.key y.key f.keyed;
      value = nullable_inside strict r.value y.value f.valued;
      headers = run_inside (λ x h at e. placed_header at e) (HeaderInside s) (λ p q x h. header_inside) y.headers f.headed;
    }

pub records_inside : {strict : Bool} {s : List ℕ} {p q : ℕ} {bs : List ℕ} {rs : List Record} → Stands s p q bs → (g : RecordsBytes strict bs rs)
    → Each (RecordInside s) (placed_records p g)
records_inside {s = s} x g = run_inside (λ x r at e. placed_record at e) (RecordInside s) (λ p q x r. record_inside) x g

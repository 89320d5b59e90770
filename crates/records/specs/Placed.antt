-- Where the parts of an encoding stand when it stands at a place: a start is the place just after the bytes of its own
-- length, for empty bytes too.
use Rattle.std.specs.Prelude.{ℕ, ◌+◌, Bool, true, List, [], ◌∷◌, map, length}
use Rattle.std.proofs.Math.Option.{Option, none, some}
use Rattle.numbers.specs.Format.{Sized, Nullable}
use Rattle.primitives.specs.Reading.{Span, bytes_of, shown}
use Rattle.records.specs.Format.{Header, Record, Run, HeaderBytes, FieldsBytes, RecordBytes, RecordsBytes}
use Rattle.records.specs.Judgement.{HeaderSpans, RecordSpans}

-- ---- the spans of an encoding

abbrev pub placed_bytes : {strict : Bool} {bs : List ℕ} (v : List ℕ) → ℕ → Sized strict bs v → Span
placed_bytes v p g = record { start = p + length g.size; len = length v }

abbrev pub placed_nullable : (strict : Bool) (bs : List ℕ) (v : Option (List ℕ)) → ℕ → Nullable true strict bs v → Option Span
placed_nullable strict bs none p g = none
placed_nullable strict bs (some v) p g = some (placed_bytes v p g)

abbrev pub placed_header : {strict : Bool} {bs : List ℕ} {h : Header} → ℕ → HeaderBytes strict bs h → HeaderSpans
placed_header {h = h} p g =
    record { key = placed_bytes h.key p g.keyed; value = placed_bytes h.value (p + length g.key) g.valued }

-- things one after the other, each at the place where the one before it ends
unfoldable pub placed_run : {A R : Type 0} {G : List ℕ → A → Type 0} → ((x : List ℕ) (a : A) → ℕ → G x a → R)
    → {bs : List ℕ} {run : List A} → ℕ → Run G bs run → List R
placed_run place p Run.ended = []
placed_run place p (Run.more {x} {a = a} g rest) = place x a p g ∷ placed_run place (p + length x) rest

module _ {strict : Bool} {bs : List ℕ} {r : Record} (p : ℕ) (g : FieldsBytes strict bs r) where
  abbrev pub key_place : ℕ
  key_place = p + length g.attributes + length g.timestamp_delta + length g.offset_delta

  abbrev pub value_place : ℕ
  value_place = key_place + length g.key

  abbrev pub headers_place : ℕ
  headers_place = value_place + length g.value + length g.count

  abbrev pub placed_fields : RecordSpans
  placed_fields =
      record {
        timestamp_delta = r.timestamp_delta;
        offset_delta = r.offset_delta;
        key = placed_nullable strict g.key r.key key_place g.keyed;
        value = placed_nullable strict g.value r.value value_place g.valued;
        headers = placed_run (λ x h at e. placed_header at e) headers_place g.headed;
      }

abbrev pub placed_record : {strict : Bool} {bs : List ℕ} {r : Record} → ℕ → RecordBytes strict bs r → RecordSpans
placed_record p g = placed_fields (p + length g.sized.size) g.holds

abbrev pub placed_records : {strict : Bool} {bs : List ℕ} {rs : List Record} → ℕ → RecordsBytes strict bs rs → List RecordSpans
placed_records p g = placed_run (λ x r at e. placed_record at e) p g

-- ---- what spans show

abbrev pub shown_header : List ℕ → HeaderSpans → Header
shown_header s h = record { key = bytes_of s h.key; value = bytes_of s h.value }

abbrev pub shown_record : List ℕ → RecordSpans → Record
shown_record s r =
    record {
      timestamp_delta = r.timestamp_delta;
      offset_delta = r.offset_delta;
      key = shown s r.key;
      value = shown s r.value;
      headers = map (shown_header s) r.headers;
    }

abbrev pub shown_records : List ℕ → List RecordSpans → List Record
shown_records s rs = map (shown_record s) rs

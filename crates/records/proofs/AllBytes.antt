-- An encoding of what consists of bytes consists of bytes: its numbers do, and all else is what it encodes. And what
-- spans show of bytes are bytes. Assumes nothing.
use Prim.Native.Nat.{ℕ}
use mathlib.Core.Path.{sym, subst}
use mathlib.Core.Bool.{Bool, true}
use mathlib.Core.Option.{Option, none, some}
use mathlib.Core.List.{List, [], ◌∷◌, ◌++◌, map}
use lib.ListN.{drop}
use Rattle.numbers.specs.Bytes.{Bytes}
use Rattle.numbers.specs.Format.{Nullable}
use Rattle.numbers.proofs.AllBytes.{no_bytes, joined_bytes, left_bytes, varies_bytes, integer_bytes, sized_bytes}
use Rattle.primitives.specs.Reading.{Span, bytes_of, shown}
use Rattle.primitives.proofs.Windows.{window_bytes}
use Rattle.records.specs.Format.{Header, Record, Run, HeaderBytes, FieldsBytes, RecordBytes, RecordsBytes}
use Rattle.records.specs.Judgement.{HeaderSpans, RecordSpans}
use Rattle.records.specs.Placed.{shown_header, shown_records}
use Rattle.records.specs.Statements.{Each}

-- ---- what consists of bytes

abbrev Perhaps : Option (List ℕ) → Type 0
Perhaps none = Unit {0}
Perhaps (some v) = Bytes v

pub record HeaderOfBytes (h : Header) : Type 0 where
  key : Bytes h.key
  value : Bytes h.value

pub record OfBytes (r : Record) : Type 0 where
  pub key : Perhaps r.key
  pub value : Perhaps r.value
  pub headers : Each HeaderOfBytes r.headers

-- ---- its encodings

run_bytes : {A : Type 0} {G : List ℕ → A → Type 0} {P : A → Type 0} → ((x : List ℕ) (a : A) → G x a → P a → Bytes x)
    → {bs : List ℕ} {run : List A} → Run G bs run → Each P run → Bytes bs
unfolding Each
run_bytes one Run.ended each = no_bytes
run_bytes one (Run.more {x} {y} {a} g others) (p, each) = joined_bytes x y (one x a g p) (run_bytes one others each)

nullable_bytes : (strict : Bool) (bs : List ℕ) (v : Option (List ℕ)) → Nullable true strict bs v → Perhaps v → Bytes bs
nullable_bytes strict bs none g b = varies_bytes g.1
nullable_bytes strict bs (some v) g b = sized_bytes g b

header_bytes : (strict : Bool) (bs : List ℕ) (h : Header) → HeaderBytes strict bs h → HeaderOfBytes h → Bytes bs
header_bytes strict bs h g b =
    subst Bytes (sym g.is) (joined_bytes g.key g.value (sized_bytes g.keyed b.key) (sized_bytes g.valued b.value))

fields_bytes : (strict : Bool) (bs : List ℕ) (r : Record) → FieldsBytes strict bs r → OfBytes r → Bytes bs
fields_bytes strict bs r g b =
    let fromCount = g.count ++ g.headers in
    let fromValue = g.value ++ fromCount in
    let fromKey = g.key ++ fromValue in
    let fromOffset = g.offset_delta ++ fromKey in
    let fromTimestamp = g.timestamp_delta ++ fromOffset in
    subst Bytes (sym g.is)
    (joined_bytes g.attributes fromTimestamp (integer_bytes g.attributed)
    (joined_bytes g.timestamp_delta fromOffset (varies_bytes g.timestamped)
    (joined_bytes g.offset_delta fromKey (varies_bytes g.offset)
    (joined_bytes g.key fromValue (nullable_bytes strict g.key r.key g.keyed b.key)
    (joined_bytes g.value fromCount (nullable_bytes strict g.value r.value g.valued b.value)
    (joined_bytes g.count g.headers (varies_bytes g.counted) (run_bytes (header_bytes strict) g.headed b.headers)))))))

pub record_bytes : (strict : Bool) (bs : List ℕ) (r : Record) → RecordBytes strict bs r → OfBytes r → Bytes bs
record_bytes strict bs r g b = sized_bytes g.sized (fields_bytes strict g.fields r g.holds b)

pub records_bytes : {strict : Bool} {bs : List ℕ} {rs : List Record} → RecordsBytes strict bs rs → Each OfBytes rs → Bytes bs
records_bytes {strict} g each = run_bytes (record_bytes strict) g each

-- ---- what spans show

module _ (s : List ℕ) (b : Bytes s) where
  span_bytes : (x : Span) → Bytes (bytes_of s x)
  span_bytes x = window_bytes x.len (drop x.start s) (left_bytes x.start s b)

  perhaps_bytes : (x : Option Span) → Perhaps (shown s x)
  perhaps_bytes none = tt
  perhaps_bytes (some x) = span_bytes x

  headers_of_bytes : (hs : List HeaderSpans) → Each HeaderOfBytes (map (shown_header s) hs)
  unfolding Each
  headers_of_bytes [] = tt
  headers_of_bytes (h ∷ rest) = (record { key = span_bytes h.key; value = span_bytes h.value }, headers_of_bytes rest)

  pub shown_of_bytes : (rs : List RecordSpans) → Each OfBytes (shown_records s rs)
  unfolding Each
  shown_of_bytes [] = tt
  shown_of_bytes (r ∷ rest) =
      (record { key = perhaps_bytes r.key; value = perhaps_bytes r.value; headers = headers_of_bytes r.headers }, shown_of_bytes rest)

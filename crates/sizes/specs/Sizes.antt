-- How many bytes things take when they are written, by numbers and lengths alone.
use Rattle.std.specs.Prelude.{ℕ, ◌+◌, min, List, [], ◌∷◌, ℤ, pos, negsuc, length}
use Rattle.std.proofs.Math.Option.{Option, none, some}
use Rattle.numbers.specs.Format.{shortest}
use Rattle.primitives.specs.Reading.{Span}
use Rattle.records.specs.Judgement.{HeaderSpans, RecordSpans}

-- n bytes after their length
unfoldable pub span_size : ℕ → ℕ
span_size n = length (shortest (pos n)) + n

-- a key or a value by the length in its row; null is the length alone
abbrev pub place_size : ℤ → ℕ
place_size (pos n) = span_size n
place_size (negsuc k) = length (shortest (negsuc k))

-- the length in the row of a key or a value
abbrev pub length_in : Option Span → ℤ
length_in none = negsuc 0
length_in (some x) = pos x.len

-- attributes, both deltas, key and value by their lengths, and the number of headers
unfoldable pub head_size : (timestamp offset key value : ℤ) → ℕ → ℕ
head_size t o k v n =
    1 + (length (shortest t) + (length (shortest o) + (place_size k + (place_size v + length (shortest (pos n))))))

abbrev pub header_size : HeaderSpans → ℕ
header_size h = span_size h.key.len + span_size h.value.len

unfoldable pub headers_size : List HeaderSpans → ℕ
headers_size [] = 0
headers_size (h ∷ rest) = header_size h + headers_size rest

-- what follows a record's length
unfoldable pub fields_size : RecordSpans → ℕ
fields_size r =
    head_size r.timestamp_delta r.offset_delta (length_in r.key) (length_in r.value) (length r.headers) + headers_size r.headers

abbrev pub record_size : RecordSpans → ℕ
record_size r = span_size (fields_size r)

unfoldable pub records_size : List RecordSpans → ℕ
records_size [] = 0
records_size (r ∷ rest) = record_size r + records_size rest

-- where sizes stop: what is above the lengths that a Varint holds is too long, however much it is
abbrev pub cap : ℕ
cap = 2147483648

abbrev pub capped : ℕ → ℕ
capped n = min n cap

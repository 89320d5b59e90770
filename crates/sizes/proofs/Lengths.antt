-- What spans inside a source show is as long as they say, and what is written is added up part by part. Assumes
-- nothing.
use Prim.Native.Nat.{ℕ, ◌+◌}
use mathlib.Core.Path.{◌≡◌, refl, ap, ◌∙◌}
use mathlib.Core.Option.{none, some}
use mathlib.Core.List.{List, [], ◌∷◌, ◌++◌, map}
use native.Mathlib.Omega.{arith}
use lib.IntN.{pos}
use lib.ListN.{length, drop, length-append, length-drop, length-map}
use lib.Seq.{length-take-le}
use Rattle.numbers.specs.Format.{zigzag, shortest}
use Rattle.numbers.proofs.Shortest.{fewest_groups, groups_length}
use Rattle.primitives.specs.Reading.{Span, bytes_of, shown}
use Rattle.records.specs.Inside.{Inside}
use Rattle.records.specs.Placed.{shown_header, shown_record, shown_records}
use Rattle.records.specs.Statements.{Each}
use Rattle.records.specs.Written.{written_bytes, written_nullable, written_header, written_headers, written_fields, written_record, written_records}
use Rattle.records.proofs.Encodes.{written_length}
use Rattle.sizes.specs.Sizes.{span_size, head_size, headers_size, fields_size, records_size}
use Rattle.sizes.specs.Statements.{NumberSmall, BytesSized, NullableSized, HeaderSized, HeadersSized, FieldsSized, RecordSized, RecordsSized}

pub number_small : NumberSmall
unfolding shortest
number_small n = let f = fewest_groups 9 (zigzag n) in rw (f.is, groups_length f.more (zigzag n)) (omega (arith, f.short))

pub bytes_sized : BytesSized
unfolding span_size
bytes_sized v = written_length v

bytes_length : (s : List ℕ) (x : Span) → Inside s x → length (bytes_of s x) ≡ x.len
bytes_length s x h = length-take-le x.len (drop x.start s) (rw length-drop (omega arith))

span_length : (s : List ℕ) (x : Span) → Inside s x → length (written_bytes (bytes_of s x)) ≡ span_size x.len
span_length s x h = bytes_sized (bytes_of s x) ∙ ap span_size (bytes_length s x h)

pub nullable_sized : NullableSized
nullable_sized s none h = refl
nullable_sized s (some x) h = span_length s x h

pub header_sized : HeaderSized
header_sized s h i =
    length-append (written_bytes (bytes_of s h.key)) _
    ∙ (λ j. span_length s h.key i.key j + span_length s h.value i.value j)

pub headers_sized : HeadersSized
unfolding written_headers headers_size Each
headers_sized s [] each = refl
headers_sized s (h ∷ rest) (i, each) =
    length-append (written_header (shown_header s h)) _ ∙ (λ j. header_sized s h i j + headers_sized s rest each j)

pub fields_sized : FieldsSized
unfolding written_fields head_size fields_size
fields_sized s r i =
    let td = shortest r.timestamp_delta in
    let od = shortest r.offset_delta in
    let ks = written_nullable (shown s r.key) in
    let vs = written_nullable (shown s r.value) in
    let n = shortest (pos (length (map (shown_header s) r.headers))) in
    let hs = written_headers (map (shown_header s) r.headers) in
    let count : length (map (shown_header s) r.headers) ≡ length r.headers = length-map r.headers (shown_header s) in
    let n_long : length n ≡ length (shortest (pos (length r.headers))) = ap (λ (m : ℕ). length (shortest (pos m))) count in
    let l₁ = length-append td (od ++ (ks ++ (vs ++ (n ++ hs)))) in
    let l₂ = length-append od (ks ++ (vs ++ (n ++ hs))) in
    let l₃ = length-append ks (vs ++ (n ++ hs)) in
    let l₄ = length-append vs (n ++ hs) in
    let l₅ = length-append n hs in
    omega (arith, l₁, l₂, l₃, l₄, l₅, n_long, nullable_sized s r.key i.key, nullable_sized s r.value i.value, headers_sized s r.headers i.headers)

pub record_sized : RecordSized
record_sized s r i = bytes_sized (written_fields (shown_record s r)) ∙ ap span_size (fields_sized s r i)

pub records_sized : RecordsSized
unfolding written_records records_size Each
records_sized s [] each = refl
records_sized s (r ∷ rest) (i, each) =
    length-append (written_record (shown_record s r)) (written_records (shown_records s rest))
    ∙ (λ j. record_sized s r i j + records_sized s rest each j)

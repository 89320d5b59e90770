-- The laws of records, each in words and then as a statement. What proves each stands in proofs/ under the statement's
-- name in small letters: `header_sound : HeaderSound`.
use Rattle.std.specs.Prelude.{ℕ, ◌+◌, ◌*◌, ◌^◌, ◌<◌, ◌≤◌, ◌≡◌, Bool, true, false, List, [], ◌∷◌, ◌++◌, map, pos, length, take}
use Rattle.numbers.specs.Bytes.{Bytes}
use Rattle.numbers.specs.Exactly.{Exactly}
use Rattle.numbers.specs.Format.{InBits}
use Rattle.primitives.specs.Step.{ok, no, times}
use Rattle.primitives.specs.Stands.{Stands, Encoding}
use Rattle.primitives.specs.Shifted.{moved_span, moved_nullable, moved_step}
use Rattle.records.specs.Format.{Header, Record, Run, HeaderBytes, RecordBytes, RecordsBytes}
use Rattle.utf8.specs.Grammar.{Octets}
use Rattle.records.specs.Written.{written_fields, written_record, written_records}
use Rattle.records.specs.Judgement.{HeaderSpans, RecordSpans, key_at, header_at, fields_at, record_at, run_at, records_at}
use Rattle.records.specs.Rows.{record_row, record_rows, headers_in}
use Rattle.records.specs.Placed.{placed_header, placed_record, placed_records, shown_header, shown_record, shown_records}
use Rattle.records.specs.Faults.{KeyWrong, HeaderWrong, FieldsWrong, RecordWrong, RecordsWrong}
use Rattle.records.specs.Starred.{starred_rows, read, due, written, given}

-- ---- reading is the format's

-- What is read as a header is one, and stands there; its spans show its key and its value, and each starts just after
-- its own length.
abbrev pub HeaderSound : Type 0
HeaderSound =
    (s : List ℕ) (p : ℕ) (h : HeaderSpans) (q : ℕ) → Bytes s → header_at s p ≡ ok h q
    → (e : Encoding (HeaderBytes false) s p q (shown_header s h)) × (h ≡ placed_header p e.encodes)

-- A header that stands at any place of any list is read back, up to its end, with the spans of its key and its value.
abbrev pub HeaderComplete : Type 0
HeaderComplete =
    (strict : Bool) (s : List ℕ) (p q : ℕ) (bs : List ℕ) (h : Header) → Stands s p q bs → (g : HeaderBytes strict bs h)
    → (header_at s p ≡ ok (placed_header p g) q) × (shown_header s (placed_header p g) ≡ h)

-- The same of a record.
abbrev pub RecordSound : Type 0
RecordSound =
    (s : List ℕ) (p : ℕ) (r : RecordSpans) (q : ℕ) → Bytes s → record_at s p ≡ ok r q
    → (e : Encoding (RecordBytes false) s p q (shown_record s r)) × (r ≡ placed_record p e.encodes)

abbrev pub RecordComplete : Type 0
RecordComplete =
    (strict : Bool) (s : List ℕ) (p q : ℕ) (bs : List ℕ) (r : Record) → Stands s p q bs → (g : RecordBytes strict bs r)
    → (record_at s p ≡ ok (placed_record p g) q) × (shown_record s (placed_record p g) ≡ r)

-- The same of a run of records, from a place of the list on.
abbrev pub RunSound : Type 0
RunSound =
    (s : List ℕ) (count p : ℕ) (rs : List RecordSpans) (q : ℕ) → Bytes s → p ≤ length s → run_at s count p ≡ ok rs q
    → (e : Encoding (RecordsBytes false) s p q (shown_records s rs)) × (rs ≡ placed_records p e.encodes) × (length rs ≡ count)

abbrev pub RunComplete : Type 0
RunComplete =
    (strict : Bool) (s : List ℕ) (p q : ℕ) (bs : List ℕ) (rs : List Record) → Stands s p q bs → (g : RecordsBytes strict bs rs)
    → (run_at s (length rs) p ≡ ok (placed_records p g) q) × (shown_records s (placed_records p g) ≡ rs)

-- The same where the last record has to end with the bytes; then every place is one of the list.
abbrev pub RecordsSound : Type 0
RecordsSound =
    (s : List ℕ) (count p : ℕ) (rs : List RecordSpans) (q : ℕ) → Bytes s → records_at s count p ≡ ok rs q
    → (e : Encoding (RecordsBytes false) s p q (shown_records s rs)) × (rs ≡ placed_records p e.encodes)
    × (length rs ≡ count) × (q ≡ length s)

abbrev pub RecordsComplete : Type 0
RecordsComplete =
    (strict : Bool) (s : List ℕ) (p : ℕ) (bs : List ℕ) (rs : List Record) → Stands s p (length s) bs → (g : RecordsBytes strict bs rs)
    → (records_at s (length rs) p ≡ ok (placed_records p g) (length s)) × (shown_records s (placed_records p g) ≡ rs)

-- What is refused is no encoding: of as many records none stands from the place up to the end of the bytes.
abbrev pub RefusedIsNone : Type 0
RefusedIsNone =
    (strict : Bool) (s : List ℕ) (p n : ℕ) (bs : List ℕ) (rs : List Record) → records_at s (length rs) p ≡ no n → Stands s p (length s) bs
    → RecordsBytes strict bs rs → ⊥

-- ---- one meaning

-- A record's encoding is no proper beginning of another, and two records do not share one.
abbrev pub RecordUnambiguous : Type 0
RecordUnambiguous =
    (strict strict' : Bool) (bs rest : List ℕ) (a b : Record) → RecordBytes strict bs a → RecordBytes strict' (bs ++ rest) b
    → (rest ≡ []) × (a ≡ b)

-- Of runs of as many records, an encoding is no proper beginning of another, and two runs do not share one.
abbrev pub RunUnambiguous : Type 0
RunUnambiguous =
    (strict strict' : Bool) (bs rest : List ℕ) (m n : List Record) → RecordsBytes strict bs m → RecordsBytes strict' (bs ++ rest) n
    → length m ≡ length n → (rest ≡ []) × (m ≡ n)

-- Two runs with the same encoding are equal, however many records they have.
abbrev pub RunsEqual : Type 0
RunsEqual =
    (strict strict' : Bool) (bs : List ℕ) (m n : List Record) → RecordsBytes strict bs m → RecordsBytes strict' bs n → m ≡ n

-- By the strict grammar a record has at most one encoding, and so has a run of records.
abbrev pub RecordWritten : Type 0
RecordWritten = (bs : List ℕ) (r : Record) → RecordBytes true bs r → bs ≡ written_record r

abbrev pub RunWritten : Type 0
RunWritten = (bs : List ℕ) (rs : List Record) → RecordsBytes true bs rs → bs ≡ written_records rs

-- ---- writing

-- each of a list
unfoldable pub Each : {A : Type 0} → (A → Type 0) → List A → Type 0
Each P [] = Unit {0}
Each P (a ∷ rest) = P a × Each P rest

-- what can be written: deltas of 64 and of 32 bits, keys of headers in UTF-8, and fields whose length a Varint holds
pub record Writable (r : Record) : Type 0 where
  pub timestamp : InBits 64 r.timestamp_delta
  pub offset : InBits 32 r.offset_delta
  pub keys : Each (λ (h : Header). Octets h.key) r.headers
  pub size : length (written_fields r) < 2 ^ 31

-- What can be written is written as the strict grammar has it.
abbrev pub RecordEncodes : Type 0
RecordEncodes = (strict : Bool) (r : Record) → Writable r → RecordBytes strict (written_record r) r

abbrev pub RunEncodes : Type 0
RunEncodes = (strict : Bool) (rs : List Record) → Each Writable rs → RecordsBytes strict (written_records rs) rs

-- Whatever has an encoding can be written.
abbrev pub RecordWritable : Type 0
RecordWritable = (strict : Bool) (bs : List ℕ) (r : Record) → RecordBytes strict bs r → Writable r

abbrev pub RunWritable : Type 0
RunWritable = (strict : Bool) (bs : List ℕ) (rs : List Record) → RecordsBytes strict bs rs → Each Writable rs

-- Of all encodings what is written is the shortest.
abbrev pub RecordShortest : Type 0
RecordShortest = (strict : Bool) (bs : List ℕ) (r : Record) → RecordBytes strict bs r → length (written_record r) ≤ length bs

abbrev pub RunShortest : Type 0
RunShortest = (strict : Bool) (bs : List ℕ) (rs : List Record) → RecordsBytes strict bs rs → length (written_records rs) ≤ length bs

-- An encoding that is as short, with attributes of 0, is of the strict grammar.
abbrev pub RecordTight : Type 0
RecordTight =
    (bs : List ℕ) (r : Record) → (g : RecordBytes false bs r) → g.holds.attribute ≡ pos 0 → length bs ≡ length (written_record r)
    → RecordBytes true bs r

-- ---- sizes and counts

-- the sizes of the records of a run, as they stand
unfoldable pub sizes : {strict : Bool} {bs : List ℕ} {rs : List Record} → RecordsBytes strict bs rs → List ℕ
sizes Run.ended = []
sizes (Run.more {x} g rest) = length x ∷ sizes rest

unfoldable pub total : List ℕ → ℕ
total [] = 0
total (n ∷ rest) = n + total rest

-- The sizes of the records that were read add up to the place moved.
abbrev pub SizesAddUp : Type 0
SizesAddUp =
    (s : List ℕ) (count p : ℕ) (rs : List RecordSpans) (q : ℕ) → Bytes s → records_at s count p ≡ ok rs q
    → (e : Encoding (RecordsBytes false) s p q (shown_records s rs)) × (q ≡ p + total (sizes e.encodes))

-- A header is at least 2 bytes, a record at least 7 and 2 for each of its headers.
abbrev pub HeaderLeast : Type 0
HeaderLeast = (strict : Bool) (bs : List ℕ) (h : Header) → HeaderBytes strict bs h → 2 ≤ length bs

abbrev pub RecordLeast : Type 0
RecordLeast = (strict : Bool) (bs : List ℕ) (r : Record) → RecordBytes strict bs r → 7 + 2 * length r.headers ≤ length bs

-- So the bytes bound both counts.
abbrev pub CountsBounded : Type 0
CountsBounded =
    (s : List ℕ) (count p : ℕ) (rs : List RecordSpans) (q : ℕ) → run_at s count p ≡ ok rs q
    → (length rs ≡ count) × (p + 7 * count + 2 * headers_in rs ≤ q)

-- ---- rows

-- First header rows run on: a record's is the given one and the number of headers of the records before it.
abbrev pub FirstRowsRunOn : Type 0
FirstRowsRunOn =
    (first : ℕ) (before : List RecordSpans) (r : RecordSpans) (after : List RecordSpans)
    → record_rows first (before ++ (r ∷ after))
    ≡ record_rows first before ++ (record_row (first + headers_in before) r ∷ record_rows (first + headers_in before + length r.headers) after)

-- Record n is what the n-th step reads, from the place to which the n records before it lead, and row n is its row.
abbrev pub RecordsNth : Type 0
RecordsNth =
    (s : List ℕ) (count p : ℕ) (rs : List RecordSpans) (q n first : ℕ) → run_at s count p ≡ ok rs q → n < count
    → (at : ℕ) × (r : RecordSpans) × (next : ℕ) × (after : List RecordSpans)
    × (run_at s n p ≡ ok (take n rs) at) × (record_at s at ≡ ok r next) × (rs ≡ take n rs ++ (r ∷ after))
    × (record_rows first rs
    ≡ record_rows first (take n rs)
    ++ (record_row (first + headers_in (take n rs)) r ∷ record_rows (first + headers_in (take n rs) + length r.headers) after))

-- The same of the headers of a record.
abbrev pub HeadersNth : Type 0
HeadersNth =
    (s : List ℕ) (count p : ℕ) (hs : List HeaderSpans) (q n : ℕ) → times (header_at s) count p ≡ ok hs q → n < count
    → (at : ℕ) × (h : HeaderSpans) × (next : ℕ) × (after : List HeaderSpans)
    × (times (header_at s) n p ≡ ok (take n hs) at) × (header_at s at ≡ ok h next) × (hs ≡ take n hs ++ (h ∷ after))

-- ---- something in front

abbrev pub moved_header : ℕ → HeaderSpans → HeaderSpans
moved_header k h = record { key = moved_span k h.key; value = moved_span k h.value }

abbrev pub moved_record : ℕ → RecordSpans → RecordSpans
moved_record k r =
    record {
      timestamp_delta = r.timestamp_delta;
      offset_delta = r.offset_delta;
      key = moved_nullable k r.key;
      value = moved_nullable k r.value;
      headers = map (moved_header k) r.headers;
    }

-- A list with something in front moves the starts and the place after, and nothing else.
abbrev pub RecordsShifted : Type 0
RecordsShifted =
    (front s : List ℕ) (count p : ℕ)
    → records_at (front ++ s) count (length front + p) ≡ moved_step (map (moved_record (length front))) (length front) (records_at s count p)

-- ---- document 01's starred rows

-- Each row is read as it should be, numbers at each of their widths; and where the writer gives the row's bytes, they
-- are what it gives for the value.
abbrev pub Starred : Type 0
Starred = (map read starred_rows ≡ map due starred_rows) × (map written starred_rows ≡ map given starred_rows)

-- ---- first faults

-- What is refused is refused by the number of its first fault, and wherever there is one: of a header's key, a header,
-- the fields of a record, a record, and a run of records up to the end of the bytes.
abbrev pub KeyFaults : Type 0
KeyFaults = (s : List ℕ) (p n : ℕ) → Bytes s → p ≤ length s → Exactly (key_at s p ≡ no n) (KeyWrong s p n)

abbrev pub HeaderFaults : Type 0
HeaderFaults = (s : List ℕ) (p n : ℕ) → Bytes s → p ≤ length s → Exactly (header_at s p ≡ no n) (HeaderWrong s p n)

abbrev pub FieldsFaults : Type 0
FieldsFaults = (s : List ℕ) (p n : ℕ) → Bytes s → p ≤ length s → Exactly (fields_at s p ≡ no n) (FieldsWrong s p n)

abbrev pub RecordFaults : Type 0
RecordFaults = (s : List ℕ) (p n : ℕ) → Bytes s → p ≤ length s → Exactly (record_at s p ≡ no n) (RecordWrong s p n)

abbrev pub FirstFaults : Type 0
FirstFaults =
    (s : List ℕ) (count p n : ℕ) → Bytes s → p ≤ length s → Exactly (records_at s count p ≡ no n) (RecordsWrong count s p n)

-- The number of such a fault is one of 8 to 11, or 13: it is never 12, which only a control batch's marker has.
abbrev pub RecordFaultNumber : ℕ → Type 0
RecordFaultNumber n = (8 ≤ n) × (n ≤ 13) × (n ≡ 12 → ⊥)

abbrev pub RecordFaultNumbers : Type 0
RecordFaultNumbers = (s : List ℕ) (p n : ℕ) → RecordWrong s p n → RecordFaultNumber n

abbrev pub FirstFaultNumbers : Type 0
FirstFaultNumbers = (s : List ℕ) (count p n : ℕ) → RecordsWrong count s p n → RecordFaultNumber n

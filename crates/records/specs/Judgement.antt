-- Reading records, as functions of a list of bytes and a place in it, in document 01's order and with its numbers:
-- those of a field (8, 9 and 10), 11 where a header's key is no UTF-8, 13 where bytes are left.
use Rattle.std.specs.Prelude.{ℕ, ◌+◌, true, false, List, eqb, ltb, ℤ, length, take}
use Rattle.std.proofs.Math.Option.{Option, none, some}
use Rattle.numbers.specs.Pick.{pick}
use Rattle.primitives.specs.Step.{Step, ok, no, and_then, map_step, times}
use Rattle.primitives.specs.Reading.{integer_at, varint_at, length_at, Span, span_at, bytes_of}
use Rattle.utf8.specs.Judgement.{is_utf8}

-- ---- what is read: deltas, and where bytes stand

pub record HeaderSpans : Type 0 where
  pub key : Span
  pub value : Span

pub record RecordSpans : Type 0 where
  pub timestamp_delta : ℤ
  pub offset_delta : ℤ
  pub key : Option Span
  pub value : Option Span
  pub headers : List HeaderSpans

-- ---- lengths and bytes that may not be null

-- where null is not allowed, -1 is refused as any negative length is
abbrev pub present : {A : Type 0} → Option A → ℕ → Step ℕ A
present none p = no 10
present (some a) p = ok a p

-- document 01, A record: a record's length, a header count
unfoldable pub count_at : List ℕ → ℕ → Step ℕ ℕ
count_at s at = and_then (length_at false s at) present

-- document 01, A record: a header's key, a header's value
unfoldable pub bytes_at : List ℕ → ℕ → Step ℕ Span
bytes_at s at = and_then (span_at false s at) present

-- ---- a header

-- document 01, Reader's numbers, 11: the key is judged as soon as it is read
unfoldable pub key_at : List ℕ → ℕ → Step ℕ Span
key_at s at = and_then (bytes_at s at) (λ x p. pick (is_utf8 (bytes_of s x)) (ok x p) (no 11))

-- Kafka, message format, record header; document 01, A record
unfoldable pub header_at : List ℕ → ℕ → Step ℕ HeaderSpans
header_at s at = and_then (key_at s at) (λ k p. map_step (λ v. record { key = k; value = v }) (bytes_at s p))

-- ---- a record

pub record Deltas : Type 0 where
  pub timestamp : ℤ
  pub offset : ℤ

-- Kafka, message format, record: attributes, which say nothing; timestampDelta; offsetDelta
unfoldable pub deltas_at : List ℕ → ℕ → Step ℕ Deltas
deltas_at s at =
    and_then (integer_at 1 s at) (λ _ p.
    and_then (varint_at 64 s p) (λ t q.
    map_step (λ o. record { timestamp = t; offset = o }) (varint_at 32 s q)))

pub record Head : Type 0 where
  pub deltas : Deltas
  pub key : Option Span
  pub value : Option Span
  pub count : ℕ

-- and then key, value and the number of headers
unfoldable pub head_at : List ℕ → ℕ → Step ℕ Head
head_at s at =
    and_then (deltas_at s at) (λ d p.
    and_then (span_at true s p) (λ k q.
    and_then (span_at true s q) (λ v r.
    map_step (λ n. record { deltas = d; key = k; value = v; count = n }) (count_at s r))))

abbrev pub with_headers : Head → List HeaderSpans → RecordSpans
with_headers h hs =
    record {
      timestamp_delta = h.deltas.timestamp;
      offset_delta = h.deltas.offset;
      key = h.key;
      value = h.value;
      headers = hs;
    }

-- and then as many headers
unfoldable pub fields_at : List ℕ → ℕ → Step ℕ RecordSpans
fields_at s at = and_then (head_at s at) (λ h p. map_step (with_headers h) (times (header_at s) h.count p))

-- Kafka, message format, record; document 01, A record: the fields are read from the nearer of the named end and the
-- end of the bytes, and have to end at the named end
unfoldable pub record_at : List ℕ → ℕ → Step ℕ RecordSpans
record_at s at =
    and_then (count_at s at) (λ n p.
    and_then (fields_at (take (p + n) s) p) (λ r q. pick (eqb q (p + n)) (ok r q) (no 13)))

-- ---- records, one after the other

unfoldable pub run_at : List ℕ → ℕ → ℕ → Step ℕ (List RecordSpans)
run_at s count at = times (record_at s) count at

-- document 01, Reader's numbers, 13: the last record ends where the bytes end. Where there is none, the place itself is
-- held to that end, and lies past it as a field would (8).
unfoldable pub records_at : List ℕ → ℕ → ℕ → Step ℕ (List RecordSpans)
records_at s count at =
    and_then (run_at s count at) (λ rs q. pick (ltb q (length s)) (no 13) (pick (eqb q (length s)) (ok rs q) (no 8)))

-- The first fault of a record's fields is that of the first field that has one; a record's is that of its length, of
-- its fields, or of what is left after them; that of records is the first that one of them has, or what is left after
-- the last. Assumes nothing.
use Prim.Native.Nat.{ℕ, ◌+◌, ◌≤◌, ◌<◌}
use mathlib.Core.Path.{◌≡◌, refl, subst}
use mathlib.Core.Bool.{Bool, true, false}
use mathlib.Core.Logic.{◌⊎◌, inl, inr}
use mathlib.Core.Option.{Option}
use mathlib.Core.List.{List}
use native.Mathlib.Omega.{arith}
use native.Mathlib.Decide.{dec_lt}
use borrow.Author.Tests.{eqb-false, ne_eqb, lt-ltb, ltb-true, ltb-false}
use lib.Dec.{eqb, ltb}
use lib.IntN.{ℤ}
use lib.ListN.{length, take, length-take, length-map}
use Rattle.numbers.specs.Bytes.{Bytes}
use Rattle.numbers.specs.Exactly.{Exactly}
use Rattle.numbers.specs.Pick.{pick}
use Rattle.numbers.specs.Format.{Integer, Varies, Nullable}
use Rattle.primitives.specs.Step.{Step, ok, no, and_then, map_step, times}
use Rattle.primitives.specs.Stands.{Encoding}
use Rattle.primitives.specs.Reading.{integer_at, varint_at, Span, span_at, shown}
use Rattle.primitives.specs.Faults.{Wrong, IntegerWrong, NumberWrong, LengthWrong, CountBytes, BytesWrong}
use Rattle.primitives.specs.Statements.{ending_at}
use Rattle.primitives.proofs.Steps.{ok_not_no, and_then_no, and_then_and_then, map_and_then}
use Rattle.primitives.proofs.Picks.{pick_no}
use Rattle.primitives.proofs.Integers.{integer_sound, integer_complete}
use Rattle.primitives.proofs.Varints.{varint_sound, varint_complete}
use Rattle.primitives.proofs.Spans.{span_sound, span_complete}
use Rattle.primitives.proofs.Windows.{window_bytes}
use Rattle.primitives.proofs.NumberFaults.{number_faults}
use Rattle.primitives.proofs.FieldFaults.{integer_faults, bytes_faults}
use Rattle.records.specs.Format.{Record, HeaderBytes, FieldsBytes, RecordBytes}
use Rattle.records.specs.Judgement.{RecordSpans, count_at, header_at, Deltas, deltas_at, Head, head_at, with_headers, fields_at, record_at, run_at, records_at}
use Rattle.records.specs.Placed.{placed_record, shown_record}
use Rattle.records.specs.Faults.{First, Among, HeaderWrong, FieldsWrong, RecordWrong, RecordsWrong}
use Rattle.records.specs.Statements.{FieldsFaults, RecordFaults, FirstFaults}
use Rattle.records.proofs.Found.{count_found, fields_found}
use Rattle.records.proofs.Complete.{count_reads, fields_reads, record_complete, run_complete}
use Rattle.records.proofs.Sound.{record_sound, run_sound}
use Rattle.records.proofs.Judges.{Judges, first_exactly, among_exactly, by_path, by_map}
use Rattle.records.proofs.KeyFaults.{count_faults}
use Rattle.records.proofs.HeaderFaults.{header_judges}

-- ---- the fields of a record, each by itself

abbrev same : {A : Type 0} → A → A
same a = a

module _ (s : List ℕ) (b : Bytes s) where
  integer_judges : (k : ℕ) → 0 < k → Judges (Integer k) (IntegerWrong k) same s (integer_at k s)
  integer_judges k h =
      record {
        finds = λ p x q e. integer_sound k s p x q h b e;
        reads = λ p q a t. (a, integer_complete k s p q t.bytes a h t.stands t.encodes, refl);
        refuses = λ p n l. integer_faults k s p n;
      }

  number_judges : (w : ℕ) → 0 < w → Judges (Varies w false) (NumberWrong w) same s (varint_at w s)
  number_judges w h =
      record {
        finds = λ p x q e. varint_sound w s p x q h b e;
        reads = λ p q a t. (a, varint_complete w false s p q t.bytes a h t.stands t.encodes, refl);
        refuses = λ p n l. number_faults w s p n h b l;
      }

  span_judges : (nullable : Bool) → Judges (Nullable nullable false) (BytesWrong nullable) (shown s) s (span_at nullable s)
  span_judges nullable =
      record {
        finds = λ p x q e. (span_sound nullable s p x q b e).0;
        reads = λ p q a t.
            let (e, w) = span_complete nullable false s p q t.bytes a t.stands t.encodes in (ending_at q a, e, w);
        refuses = λ p n l. bytes_faults nullable s p n b l;
      }

  count_judges : Judges CountBytes (LengthWrong false) same s (count_at s)
  count_judges =
      record {
        finds = count_found s b;
        reads = λ p q a t. (a, count_reads t.stands t.encodes, refl);
        refuses = λ p n l. count_faults s p n b l;
      }

-- ---- and one after the other, from the last to the first

module _ (s : List ℕ) (b : Bytes s) (n : ℕ) where
  abbrev then_headers : Head → ℕ → Step ℕ RecordSpans
  then_headers h p = map_step (with_headers h) (times (header_at s) h.count p)

  abbrev head_with : Deltas → Option Span → Option Span → ℕ → Head
  head_with d k v c = record { deltas = d; key = k; value = v; count = c }

  abbrev then_count : Deltas → Option Span → Option Span → ℕ → Step ℕ Head
  then_count d k v p = map_step (head_with d k v) (count_at s p)

  abbrev then_value : Deltas → Option Span → ℕ → Step ℕ Head
  then_value d k p = and_then (span_at true s p) (then_count d k)

  abbrev then_key : Deltas → ℕ → Step ℕ Head
  then_key d p = and_then (span_at true s p) (then_value d)

  abbrev then_offset : ℤ → ℕ → Step ℕ Deltas
  then_offset t p = map_step (λ o. record { timestamp = t; offset = o }) (varint_at 32 s p)

  abbrev then_timestamp : ℤ → ℕ → Step ℕ Deltas
  then_timestamp a p = and_then (varint_at 64 s p) then_offset

  abbrev onward : Deltas → ℕ → Step ℕ RecordSpans
  onward d p = and_then (then_key d p) then_headers

  abbrev Headers : ℕ → Wrong
  Headers = Among (HeaderBytes false) HeaderWrong

  abbrev Count : Wrong
  Count = First CountBytes (LengthWrong false) Headers

  abbrev Value : Wrong
  Value = First (Nullable true false) (BytesWrong true) (λ _. Count)

  abbrev Key : Wrong
  Key = First (Nullable true false) (BytesWrong true) (λ _. Value)

  abbrev Offset : Wrong
  Offset = First (Varies 32 false) (NumberWrong 32) (λ _. Key)

  abbrev Timestamp : Wrong
  Timestamp = First (Varies 64 false) (NumberWrong 64) (λ _. Offset)

  headers_part : (h : Head) (p : ℕ) → p ≤ length s → Exactly (then_headers h p ≡ no n) (Headers h.count s p n)
  headers_part h p l = by_map (with_headers h) (times (header_at s) h.count p) (among_exactly (header_judges s b) n h.count p l)

  count_part : (d : Deltas) (k v : Option Span) (p : ℕ) → p ≤ length s → Exactly (and_then (then_count d k v p) then_headers ≡ no n) (Count s p n)
  count_part d k v p l =
      by_path (map_and_then (head_with d k v) (count_at s p) then_headers)
      (first_exactly (count_judges s b) Headers (λ c q. then_headers (head_with d k v c) q) p n l
      (λ c q h. headers_part (head_with d k v c) q h))

  value_part : (d : Deltas) (k : Option Span) (p : ℕ) → p ≤ length s → Exactly (and_then (then_value d k p) then_headers ≡ no n) (Value s p n)
  value_part d k p l =
      by_path (and_then_and_then (span_at true s p) (then_count d k) then_headers)
      (first_exactly (span_judges s b true) (λ _. Count) (λ v q. and_then (then_count d k v q) then_headers) p n l (λ v q h. count_part d k v q h))

  key_part : (d : Deltas) (p : ℕ) → p ≤ length s → Exactly (onward d p ≡ no n) (Key s p n)
  key_part d p l =
      by_path (and_then_and_then (span_at true s p) (then_value d) then_headers)
      (first_exactly (span_judges s b true) (λ _. Value) (λ k q. and_then (then_value d k q) then_headers) p n l (λ k q h. value_part d k q h))

  offset_part : (t : ℤ) (p : ℕ) → p ≤ length s → Exactly (and_then (then_offset t p) onward ≡ no n) (Offset s p n)
  offset_part t p l =
      by_path (map_and_then (λ o. record { timestamp = t; offset = o }) (varint_at 32 s p) onward)
      (first_exactly (number_judges s b 32 (omega arith)) (λ _. Key) (λ o q. onward (record { timestamp = t; offset = o }) q) p n l
      (λ o q h. key_part (record { timestamp = t; offset = o }) q h))

  timestamp_part : (a : ℤ) (p : ℕ) → p ≤ length s → Exactly (and_then (then_timestamp a p) onward ≡ no n) (Timestamp s p n)
  timestamp_part a p l =
      by_path (and_then_and_then (varint_at 64 s p) then_offset onward)
      (first_exactly (number_judges s b 64 (omega arith)) (λ _. Offset) (λ t q. and_then (then_offset t q) onward) p n l
      (λ t q h. offset_part t q h))

  fields_part : (p : ℕ) → p ≤ length s → Exactly (fields_at s p ≡ no n) (FieldsWrong s p n)
  unfolding fields_at head_at deltas_at
  fields_part p l =
      by_path (and_then_and_then (deltas_at s p) then_key then_headers)
      (by_path (and_then_and_then (integer_at 1 s p) then_timestamp onward)
      (first_exactly (integer_judges s b 1 (omega arith)) (λ _. Timestamp) (λ a q. and_then (then_timestamp a q) onward) p n l
      (λ a q h. timestamp_part a q h)))

pub fields_faults : FieldsFaults
fields_faults s p n b l = fields_part s b n p l

-- ---- a record

module _ (s : List ℕ) (b : Bytes s) (p : ℕ) where
  -- its window reaches at least to where its length ends
  opens : (m q : ℕ) → q ≤ length s → q ≤ length (take (q + m) s)
  opens m q h = rw (length-take (q + m) s) (omega arith)

  ends_before : (m q : ℕ) {end : ℕ} → end ≤ length (take (q + m) s) → eqb end (q + m) ≡ false → end < q + m
  ends_before m q {end} h e =
      let i : end ≤ q + m = omega (arith, length-take (q + m) s) in
      elim (dec_lt end (q + m)) [
        | yes l ↦ l
        | Dec.no g ↦ absurd (eqb-false end (q + m) e (omega arith))
      ]

  by_fields : (m q n : ℕ) → Encoding CountBytes s p q m
      → and_then (fields_at (take (q + m) s) q) (λ r end. pick (eqb end (q + m)) (ok r end) (no 13)) ≡ no n → RecordWrong s p n
  by_fields m q n t e =
      let w = window_bytes (q + m) s b in
      elim (and_then_no (fields_at (take (q + m) s) q) _ e) [
        | inl i ↦ RecordWrong.field t ((fields_faults (take (q + m) s) q n w (opens m q t.stands.within)).0 i)
        | inr v ↦
            let (r, end, i, k) = v in
            let (no_end, thirteen) = pick_no (eqb end (q + m)) r end 13 k in
            let f = fields_found (take (q + m) s) w q i in
            subst (RecordWrong s p) thirteen
            (RecordWrong.left t (record { bytes = f.bytes; stands = f.stands; encodes = f.encodes }) (ends_before m q f.stands.within no_end))
      ]

  record_fault_lem : p ≤ length s → (n : ℕ) → record_at s p ≡ no n → RecordWrong s p n
  unfolding record_at
  record_fault_lem l n e =
      elim (and_then_no (count_at s p) _ e) [
        | inl i ↦ RecordWrong.size ((count_faults s p n b l).0 i)
        | inr v ↦ let (m, q, i, k) = v in by_fields m q n ((count_judges s b).finds p m q i) k
      ]

  -- fields that are read and end before the named end
  left_is : {m q end : ℕ} {r : Record} → Encoding CountBytes s p q m → Encoding (FieldsBytes false) (take (q + m) s) q end r
      → end < q + m → record_at s p ≡ no 13
  unfolding record_at
  left_is {m} {q} {end} t x h =
      rw (count_reads t.stands t.encodes, fields_reads x.stands x.encodes, ne_eqb end (q + m) (λ e. omega arith))

  record_is : p ≤ length s → {n : ℕ} → RecordWrong s p n → record_at s p ≡ no n
  unfolding record_at
  record_is l {n} (RecordWrong.size f) = rw ((count_faults s p n b l).1 f)
  record_is l {n} (RecordWrong.field {m} {q} t f) =
      rw (
        count_reads t.stands t.encodes,
        (fields_faults (take (q + m) s) q n (window_bytes (q + m) s b) (opens m q t.stands.within)).1 f,
      )
  record_is l (RecordWrong.left t x h) = left_is t x h

pub record_faults : RecordFaults
record_faults s p n b l = (record_fault_lem s b p l n, λ f. record_is s b p l f)

record_judges : (s : List ℕ) → Bytes s → Judges (RecordBytes false) RecordWrong (shown_record s) s (record_at s)
record_judges s b =
    record {
      finds = λ p x q e. (record_sound s p x q b e).0;
      reads = λ p q r t. (let (e, w) = record_complete false s p q t.bytes r t.stands t.encodes in (placed_record p t.encodes, e, w));
      refuses = λ p n l. record_faults s p n b l;
    }

-- ---- records, up to the end of the list

left_over : (before at : Bool) (rs : List RecordSpans) (q : ℕ) {n : ℕ} → pick before (no 13) (pick at (ok rs q) (no 8)) ≡ no n
    → ((before ≡ true) × (13 ≡ n)) ⊎ ((before ≡ false) × (at ≡ false))
left_over true at rs q e = inl (refl, cc)
left_over false true rs q e = ok_not_no e
left_over false false rs q e = inr (refl, refl)

module _ (s : List ℕ) (b : Bytes s) (count p : ℕ) (l : p ≤ length s) where
  records_fault : (n : ℕ) → records_at s count p ≡ no n → RecordsWrong count s p n
  unfolding records_at run_at
  records_fault n e =
      elim (and_then_no (run_at s count p) _ e) [
        | inl i ↦ RecordsWrong.one ((among_exactly (record_judges s b) n count p l).0 i)
        | inr v ↦
            let (rs, q, i, k) = v in
            let (t, _, many) = run_sound s count p rs q b l i in
            elim (left_over (ltb q (length s)) (eqb q (length s)) rs q k) [
              | inl u ↦
                  subst (RecordsWrong count s p) u.1
                  (RecordsWrong.left t (rw length-map many) (ltb-true q (length s) u.0))
              | inr u ↦
                  absurd (eqb-false q (length s) u.1 (omega (arith, ltb-false q (length s) u.0, t.stands.within)))
            ]
      ]

  run_is : (n : ℕ) → Among (RecordBytes false) RecordWrong count s p n → run_at s count p ≡ no n
  unfolding run_at
  run_is n x = (among_exactly (record_judges s b) n count p l).1 x

  records_is : {n : ℕ} → RecordsWrong count s p n → records_at s count p ≡ no n
  unfolding records_at
  records_is {n} (RecordsWrong.one x) = rw (run_is n x)
  records_is (RecordsWrong.left {rs} {q} t many h) =
      rw (rw many at (run_complete false s p q t.bytes rs t.stands t.encodes).0, lt-ltb q (length s) h)

pub first_faults : FirstFaults
first_faults s count p n b l = (records_fault s b count p l n, λ f. records_is s b count p l f)

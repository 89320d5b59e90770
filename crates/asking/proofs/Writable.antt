-- What rows that are accepted ask for can be written, but for its size: each test that a row has passed is one of the
-- format's conditions. Assumes nothing.
use Prim.Native.Nat.{ℕ, ◌+◌, ◌/◌, ◌^◌, ◌<◌}
use mathlib.Core.Path.{◌≡◌, subst}
use mathlib.Core.List.{List, [], ◌∷◌, map}
use native.Mathlib.Omega.{arith}
use lib.Dec.{leb}
use lib.IntN.{ℤ}
use lib.ListN.{length, length-append}
use Rattle.numbers.specs.Format.{InBits, in_bits}
use Rattle.numbers.proofs.InBits.{tested_in}
use Rattle.numbers.proofs.Picks.{both_hold}
use Rattle.primitives.specs.Step.{ok, times}
use Rattle.primitives.specs.Reading.{bytes_of}
use Rattle.primitives.proofs.Steps.{and_then_ok, map_ok, pick_ok, times_each}
use Rattle.primitives.proofs.Picks.{picked}
use Rattle.utf8.specs.Grammar.{Octets}
use Rattle.utf8.specs.Judgement.{is_utf8}
use Rattle.utf8.proofs.Sequences.{utf8_sound}
use Rattle.records.specs.Format.{Header, Record}
use Rattle.records.specs.Written.{written_fields, written_record, written_records}
use Rattle.records.specs.Judgement.{HeaderSpans, RecordSpans, Head, with_headers}
use Rattle.records.specs.Rows.{cell, Tables}
use Rattle.records.specs.Placed.{shown_header, shown_record, shown_records}
use Rattle.records.specs.Statements.{Each, Writable}
use Rattle.records.proofs.Encodes.{written_length}
use Rattle.asking.specs.Asked.{asked_bytes, asked_nullable, asked_count, header_asked, deltas_fit, head_asked, RowPlace, record_asked, records_asked, row_place}
use Rattle.asking.proofs.Accepted.{next_is}

-- ---- what can be written, but for its size

pub record Fitting (r : Record) : Type 0 where
  pub timestamp : InBits 64 r.timestamp_delta
  pub offset : InBits 32 r.offset_delta
  pub keys : Each (λ (h : Header). Octets h.key) r.headers

-- records that together are no longer than a Varint can say
pub all_writable : (rs : List Record) → Each Fitting rs → length (written_records rs) < 2 ^ 31 → Each Writable rs
unfolding Each written_records
all_writable [] each h = tt
all_writable (r ∷ rest) (f, each) h =
    let parts = length-append (written_record r) (written_records rest) in (
      record { timestamp = f.timestamp; offset = f.offset; keys = f.keys; size = omega (arith, written_length (written_fields r)) },
      all_writable rest each (omega arith),
    )

-- ---- headers

module _ (t : List ℤ) (s : List ℕ) where
  key_asked_lem : (row : ℕ) (h : HeaderSpans) (q : ℕ) → header_asked t s row ≡ ok h q → Octets (bytes_of s h.key)
  unfolding header_asked
  key_asked_lem row h q e =
      let (k, _, _, e') = and_then_ok (asked_bytes (length s) (cell 4 t row 0) (cell 4 t row 1) row) _ e in
      let (v, _, _, e'') = and_then_ok (asked_bytes (length s) (cell 4 t row 2) (cell 4 t row 3) row) _ e' in
      let (u, w, _) = pick_ok (is_utf8 (bytes_of s k)) _ (row + 1) 22 e'' in
      subst (λ (h : HeaderSpans). Octets (bytes_of s h.key)) w (utf8_sound (bytes_of s k) u)

  keys_asked : (n row : ℕ) {hs : List HeaderSpans} {q : ℕ} → times (header_asked t s) n row ≡ ok hs q
      → Each (λ (h : Header). Octets h.key) (map (shown_header s) hs)
  unfolding Each
  keys_asked n row e =
      times_each (header_asked t s) (λ _ hs _. Each (λ (h : Header). Octets h.key) (map (shown_header s) hs))
      (λ p. tt) (λ p h m rest q is others. (key_asked_lem p h m is, others)) n row e

-- ---- records

module _ (t : Tables) (s : List ℕ) where
  head_asked_lem : (row first : ℕ) (h : Head) (q : ℕ) → head_asked t s row first ≡ ok h q
      → InBits 64 h.deltas.timestamp × InBits 32 h.deltas.offset
  unfolding head_asked
  head_asked_lem row first h q e =
      let (i, e') = picked (deltas_fit (cell 8 t.records row 0) (cell 8 t.records row 1)) _ 21 e in
      let (wide, narrow) = both_hold (in_bits 64 (cell 8 t.records row 0)) (in_bits 32 (cell 8 t.records row 1)) i in
      let (_, _, _, a) = and_then_ok (asked_nullable (length s) (cell 8 t.records row 2) (cell 8 t.records row 3) row) _ e' in
      let (_, _, _, b) = and_then_ok (asked_nullable (length s) (cell 8 t.records row 4) (cell 8 t.records row 5) row) _ a in
      let (n, _, w) = map_ok _ (asked_count (length t.headers / 4) first (cell 8 t.records row 6) (cell 8 t.records row 7) row) b in
      subst (λ (h : Head). InBits 64 h.deltas.timestamp × InBits 32 h.deltas.offset) w
      (tested_in 64 (cell 8 t.records row 0) wide, tested_in 32 (cell 8 t.records row 1) narrow)

  record_asked_lem : (p : RowPlace) (r : RecordSpans) (q : RowPlace) → record_asked t s p ≡ ok r q → Fitting (shown_record s r)
  unfolding record_asked
  record_asked_lem p r q e =
      let (first, e') = next_is p.row _ e in
      let (h, k, is, e'') = and_then_ok (head_asked t s p.row p.first) _ e' in
      let (hs, headers, w) = map_ok (with_headers h) (times (header_asked t.headers s) h.count p.first) e'' in
      let (a, b) = head_asked_lem p.row p.first h k is in
      subst (λ (r : RecordSpans). Fitting (shown_record s r)) w
      (record { timestamp = a; offset = b; keys = keys_asked t.headers s h.count p.first headers })

  pub records_asked_lem : (first count : ℕ) (rs : List RecordSpans) (p : RowPlace) → records_asked t s first count ≡ ok rs p
      → Each Fitting (shown_records s rs)
  unfolding records_asked Each
  records_asked_lem first count rs p e =
      let (_, e') = picked (leb count (length t.records / 8)) _ 21 e in
      times_each (record_asked t s) (λ _ rs _. Each Fitting (shown_records s rs))
      (λ p. tt) (λ p r m rest q is others. (record_asked_lem p r m is, others)) count (row_place 0 first) e'

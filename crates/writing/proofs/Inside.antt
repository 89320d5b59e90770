-- What rows that are accepted ask for lies in the source, and headers in their table. Assumes nothing.
use Prim.Native.Nat.{ℕ, zero, suc, ◌+◌, ◌/◌, ◌≤◌, ◌<◌}
use mathlib.Core.Path.{◌≡◌, sym, subst}
use mathlib.Core.Option.{Option, none, some}
use mathlib.Core.List.{List}
use lib.Dec.{eqb}
use lib.IntN.{ℤ, pos, negsuc}
use lib.ListN.{length}
use Rattle.primitives.specs.Step.{ok, times}
use Rattle.primitives.specs.Reading.{Span}
use Rattle.primitives.proofs.Steps.{ok_not_no, map_ok, and_then_ok, pick_ok, times_each}
use Rattle.primitives.proofs.Picks.{picked}
use Rattle.records.specs.Inside.{NullableInside}
use Rattle.records.specs.Judgement.{HeaderSpans, RecordSpans, Head, with_headers}
use Rattle.records.specs.Rows.{cell, Tables}
use Rattle.records.specs.Statements.{Each}
use Rattle.sizes.specs.Inside.{HeaderInside, RecordInside}
use Rattle.asking.specs.declared.AskedHeader.{AskedHeader}
use Rattle.asking.specs.Asked.{asked_bytes, asked_nullable, asked_count, header_asked, header_row_asked, deltas_fit, head_asked, RowPlace, record_asked}
use Rattle.asking.specs.Answers.{header_of}
use Rattle.asking.proofs.Accepted.{bytes_inside, header_accepted, count_room, next_is}
use Rattle.asking.proofs.There.{header_there}

-- ---- a header's row

asked_inside : (t : List ℤ) (s : List ℕ) (row : ℕ) (h : HeaderSpans) (q : ℕ) → header_asked t s row ≡ ok h q → HeaderInside s h
asked_inside t s row h q e = let (key, value) = header_accepted t s row h q e in record { key = key; value = value }

pub header_inside : (t : List ℤ) (s : List ℕ) (row : ℕ) → row < length t / 4 → (h : AskedHeader) → ok (header_of h) (row + 1) ≡ header_row_asked t s row
    → HeaderInside s (header_of h)
header_inside t s row there h e = asked_inside t s row (header_of h) (row + 1) (sym (header_there t s row there _ e))

-- ---- a record's row

nullable_inside : (s : List ℕ) (a n : ℤ) (p : ℕ) {x : Option Span} {q : ℕ} → asked_nullable (length s) a n p ≡ ok x q → NullableInside s x
nullable_inside s (pos a) (pos n) p e =
    let (y, is, same) = map_ok some (asked_bytes (length s) (pos a) (pos n) p) e in
    subst (NullableInside s) same (bytes_inside (length s) (pos a) (pos n) p is)
nullable_inside s (pos a) (negsuc zero) p e =
    let (_, same, _) = pick_ok (eqb a 0) none p 21 e in
    subst (NullableInside s) same tt
nullable_inside s (pos a) (negsuc (suc k)) p e = ok_not_no (sym e)
nullable_inside s (negsuc k) n p e = ok_not_no (sym e)

pub record Sound (t : Tables) (s : List ℕ) (first : ℕ) (h : Head) : Type 0 where
  pub key : NullableInside s h.key
  pub value : NullableInside s h.value
  pub room : first + h.count ≤ length t.headers / 4

pub sound_at : (t : Tables) (s : List ℕ) (row first : ℕ) (h : Head) (q : ℕ) → head_asked t s row first ≡ ok h q → Sound t s first h
unfolding head_asked
sound_at t s row first h q e =
    let (_, e₁) = picked (deltas_fit (cell 8 t.records row 0) (cell 8 t.records row 1)) _ 21 e in
    let (k, _, is, e₂) = and_then_ok (asked_nullable (length s) (cell 8 t.records row 2) (cell 8 t.records row 3) row) _ e₁ in
    let (v, _, is', e₃) = and_then_ok (asked_nullable (length s) (cell 8 t.records row 4) (cell 8 t.records row 5) row) _ e₂ in
    let (n, is'', same) = map_ok _ (asked_count (length t.headers / 4) first (cell 8 t.records row 6) (cell 8 t.records row 7) row) e₃ in
    subst (Sound t s first) same
    (record {
      key = nullable_inside s (cell 8 t.records row 2) (cell 8 t.records row 3) row is;
      value = nullable_inside s (cell 8 t.records row 4) (cell 8 t.records row 5) row is';
      room = count_room (length t.headers / 4) first (cell 8 t.records row 6) (cell 8 t.records row 7) row is'';
    })

-- ---- records

module _ (t : Tables) (s : List ℕ) where
  headers_inside : (k row : ℕ) {hs : List HeaderSpans} {q : ℕ} → times (header_asked t.headers s) k row ≡ ok hs q → Each (HeaderInside s) hs
  unfolding Each
  headers_inside k row e =
      times_each (header_asked t.headers s) (λ _ hs _. Each (HeaderInside s) hs) (λ p. tt)
      (λ p h m rest q is others. (asked_inside t.headers s p h m is, others)) k row e

  record_inside : (p : RowPlace) (r : RecordSpans) (q : RowPlace) → record_asked t s p ≡ ok r q → RecordInside s r
  unfolding record_asked
  record_inside p r q e =
      let (first, e') = next_is p.row _ e in
      let (h, _, is, e'') = and_then_ok (head_asked t s p.row p.first) _ e' in
      let sound = sound_at t s p.row p.first h _ is in
      let (hs, is', same) = map_ok (with_headers h) (times (header_asked t.headers s) h.count p.first) e'' in
      subst (RecordInside s) same (record { key = sound.key; value = sound.value; headers = headers_inside h.count p.first is' })

  pub records_inside : (k : ℕ) (at : RowPlace) {rs : List RecordSpans} {q : RowPlace} → times (record_asked t s) k at ≡ ok rs q
      → Each (RecordInside s) rs
  unfolding Each
  records_inside k at e =
      times_each (record_asked t s) (λ _ rs _. Each (RecordInside s) rs) (λ p. tt)
      (λ p r m rest q is others. (record_inside p r m is, others)) k at e

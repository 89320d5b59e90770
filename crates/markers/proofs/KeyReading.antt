-- What the reading of a keyed marker returns: by what the check says of the record, and by its key. The premises have
-- the form in which a proof finds them. Assumes nothing.
use Prim.Native.Nat.{ℕ}
use mathlib.Core.Path.{◌≡◌, refl, sym, ap, ◌∙◌, subst}
use mathlib.Core.Option.{Option, none, some}
use mathlib.Core.List.{List, ◌∷◌, ◌++◌}
use native.Mathlib.Omega.{arith}
use native.Mathlib.Decide.{dec_lt}
use borrow.Author.Tests.{lt-ltb, le-ltb, eq-eqb}
use lib.IntN.{ℤ, pos, negsuc}
use lib.ListN.{length, get_or}
use mir.Syntax.{w8}
use mir.Val.{Fits}
use Rattle.primitives.specs.Step.{Step, ok, no, map_step, times}
use Rattle.primitives.specs.Reading.{Span}
use Rattle.primitives.proofs.Steps.{ok_not_no, map_ok, map_no, times_first}
use Rattle.records.specs.declared.Place.{Place}
use Rattle.records.specs.declared.Record.{Record}
use Rattle.records.specs.Judgement.{RecordSpans, count_at, head_at, record_at, run_at, records_at}
use Rattle.records.specs.Rows.{span_row}
use Rattle.records.specs.Answers.{place_row, Heading, heading_of, view_record}
use Rattle.records.specs.Inside.{NullableInside}
use Rattle.records.proofs.Ends.{records_run}
use Rattle.records.proofs.Keys.{HeadOf, head_of}
use Rattle.records.proofs.RecordMoves.{record_moves}
use Rattle.reading.specs.Answers.{Counts, counts_of}
use Rattle.opening.specs.Judgement.{marker_in_key, keyed_marker_at}
use Rattle.markers.specs.Markers.{key_of, KeyPlace}
use Rattle.markers.proofs.KeyFront.{key_inside}

-- one record up to the end of the bytes
one_record : (s : List ℕ) (at : ℕ) {rs : List RecordSpans} {q : ℕ} → records_at s 1 at ≡ ok rs q
    → (r : RecordSpans) × (record_at s at ≡ ok r (length s)) × (q ≡ length s)
unfolding run_at times
one_record s at {q = q} e =
    let (i, w) = records_run s 1 at e in
    let (r, m, rest, was, others, _) = times_first (record_at s) 0 at i in
    let same : m ≡ q = cc in
    (r, was ∙ ap (ok r) (same ∙ w), w)

same_number : {A : Type 0} {m n : ℕ} → ◌≡◌ {A = Step ℕ A} (no m) (no n) → m ≡ n
same_number e = cc

-- where none stands there, the refusal is the same
refused_alike : (s : List ℕ) (at n : ℕ) (x : Step ℕ RecordSpans) → record_at s at ≡ x → records_at s 1 at ≡ no n → keyed_marker_at s at ≡ no n
unfolding records_at run_at times keyed_marker_at
refused_alike s at n (no k) e f = rw e (ap no (same_number (rw e at f)))
refused_alike s at n (ok r q) e f =
    let l = (record_moves s at e).1 in
    elim (dec_lt q (length s)) [
      | yes h ↦ rw (e, lt-ltb q (length s) h) (ap no (same_number (rw (e, lt-ltb q (length s) h) at f)))
      | Dec.no h ↦
          let ends : q ≡ length s = omega arith in
          ok_not_no (rw (e, le-ltb q (length s) (omega arith), eq-eqb q (length s) ends) at f)
    ]

-- a row's place of a key shows the key
row_shows : (a b c d : ℤ) (x y : Place) (k v : Option Span) → ◌≡◌ {A = List ℤ} (a ∷ b ∷ (place_row x ++ place_row y)) (c ∷ d ∷ (span_row k ++ span_row v))
    → (key_of x ≡ k) × ((p : ℕ) × (x.start ≡ pos p))
row_shows a b c d x y none v e =
    let len : x.len ≡ negsuc 0 = ap (λ (l : List ℤ). get_or l 3 (pos 0)) e in
    (rw len refl, (0, ap (λ (l : List ℤ). get_or l 2 (pos 0)) e))
row_shows a b c d x y (some z) v e =
    let start : x.start ≡ pos z.start = ap (λ (l : List ℤ). get_or l 2 (pos 0)) e in
    let len : x.len ≡ pos z.len = ap (λ (l : List ℤ). get_or l 3 (pos 0)) e in
    (rw (start, len) refl, (z.start, start))

record_marks : (s : List ℕ) (at : ℕ) (r : RecordSpans) → record_at s at ≡ ok r (length s)
    → marker_in_key s r.key (length s) ≡ keyed_marker_at s at
unfolding keyed_marker_at
record_marks s at r e = rw (e, le-ltb (length s) (length s) (omega arith))

module _ (s : List ℕ) (fits : (i : ℕ) → Fits w8 (get_or s i 0)) (at : ℕ) where
  pub record_refused : {n : ℕ} → no n ≡ map_step counts_of (records_at s 1 at) → no n ≡ keyed_marker_at s at
  record_refused {n} e = sym (refused_alike s at n _ refl (map_no counts_of (records_at s 1 at) (sym e)))

  module _ (n : Counts) (end : ℕ) (e : ok n end ≡ map_step counts_of (records_at s 1 at)) where
    -- the record that was judged, and its head
    record Judged : Type 0 where
      shows : RecordSpans
      reads : record_at s at ≡ ok shows (length s)
      ends : end ≡ length s
      has : HeadOf s at shows

    judged : Judged
    judged =
        let (rs, i, _) = map_ok counts_of (records_at s 1 at) (sym e) in
        let (r, was, w) = one_record s at i in
        record { shows = r; reads = was; ends = w; has = head_of s at was }

    pub size_refused : {k : ℕ} → no k ≡ count_at s at → no k ≡ keyed_marker_at s at
    size_refused f = ok_not_no (sym judged.has.sized ∙ sym f)

    module _ (size p : ℕ) (f : ok size p ≡ count_at s at) where
      -- the head is read from its place
      same_head : map_step heading_of (head_at s p) ≡ ok (heading_of judged.has.head) judged.has.next
      same_head =
          let j = judged.has in
          let place : p ≡ j.place = let z : ok size p ≡ ok j.size j.place = f ∙ j.sized in cc in
          ap (λ (q : ℕ). map_step heading_of (head_at s q)) place ∙ ap (map_step heading_of) j.reads

      pub head_refused : {k : ℕ} → no k ≡ map_step heading_of (head_at s p) → no k ≡ keyed_marker_at s at
      head_refused g = ok_not_no (sym same_head ∙ sym g)

      module _ (y : Record) (next : ℕ) (g : ok (view_record y) next ≡ map_step heading_of (head_at s p)) where
        key_shows : (key_of y.key ≡ judged.has.head.key) × ((p : ℕ) × (y.key.start ≡ pos p))
        key_shows =
            let j = judged.has.head in
            let both : ok (view_record y) next ≡ ok (heading_of j) judged.has.next = g ∙ same_head in
            let same : view_record y ≡ heading_of j = cc in
            row_shows y.deltas.timestamp y.deltas.offset j.deltas.timestamp j.deltas.offset y.key y.value j.key j.value
            (ap (λ (x : Heading). x.numbers) same)

        key_same : key_of y.key ≡ judged.shows.key
        key_same = key_shows.0 ∙ judged.has.key

        pub key_placed : KeyPlace s y.key
        key_placed =
            let (p, is) = key_shows.1 in
            record {
              start = p;
              starts = is;
              within = subst (NullableInside s) (sym key_same) (key_inside s at (λ i. (fits i).fits) judged.reads);
            }

        pub key_read : marker_in_key s (key_of y.key) end ≡ keyed_marker_at s at
        key_read =
            ap (λ (k : Option Span). marker_in_key s k end) key_same ∙ ap (marker_in_key s judged.shows.key) judged.ends
            ∙ record_marks s at judged.shows judged.reads

-- what the function is proved by
pub ruleset keys = (record_refused, size_refused, head_refused, key_placed, key_read)

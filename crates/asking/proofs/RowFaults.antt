-- A row is refused exactly where it is not right, since what is right is asked for and what is asked for is right; and
-- the first refusal is that of the first wrong row. Assumes nothing.
use Prim.Native.Nat.{ℕ, zero, suc, ◌+◌, ◌/◌, ◌≤◌, ◌<◌}
use mathlib.Core.Path.{◌≡◌, refl, sym, ap, ◌∙◌, subst}
use mathlib.Core.Logic.{◌⊎◌, inl, inr}
use mathlib.Core.Option.{Option, none, some}
use mathlib.Core.List.{List, []}
use native.Mathlib.Omega.{arith}
use native.Mathlib.Nat.{add-zero}
use borrow.Author.Tests.{leb-true, leb-false, le-leb, lt-leb, eqb-true, eq-eqb}
use lib.Dec.{eqb, leb}
use lib.IntN.{ℤ, pos, negsuc}
use lib.ListN.{length}
use Rattle.numbers.specs.Format.{in_bits}
use Rattle.numbers.proofs.Picks.{both_hold}
use Rattle.numbers.specs.Pick.{pick}
use Rattle.numbers.proofs.InBits.{test_in, tested_in}
use Rattle.primitives.specs.Step.{Step, ok, no, and_then, map_step, times}
use Rattle.primitives.specs.Reading.{Span}
use Rattle.primitives.proofs.Picks.{picked, pick_no, pick_either}
use Rattle.primitives.proofs.Steps.{ok_not_no, and_then_ok, and_then_no, map_ok, map_no, pick_ok, times_first, times_onto}
use Rattle.primitives.proofs.Refusing.{RefusedBy, refused_by_lem, and_then_refused, map_refused, pick_refused}
use Rattle.utf8.specs.Judgement.{is_utf8}
use Rattle.utf8.proofs.Sequences.{utf8_sound, utf8_complete, not_octets, not_utf8}
use Rattle.records.specs.Judgement.{HeaderSpans, RecordSpans, Head, with_headers}
use Rattle.records.specs.Rows.{cell, Tables}
use Rattle.asking.specs.Asked.{asked_bytes, asked_nullable, asked_count, header_asked, deltas_fit, head_asked, RowPlace, row_place, next_row, record_asked, records_asked}
use Rattle.asking.specs.RowFaults.{Inside, InsideOrNull, HeaderNumbers, asked_key, HeaderRowRight, HeaderRowWrong, HeaderRowsRight, HeaderRowsWrong, RecordRowRight, RowsWrong, AskedWrong}
use Rattle.asking.specs.Statements.{RowFaults}

-- ---- a test or a step that is refused by 21 alone

abbrev one : ℕ → Type 0
one n = n ≡ 21

-- ---- start and length

module _ (size : ℕ) (p : ℕ) where
  abbrev span_of : {a n : ℤ} → Inside size a n → Span
  span_of x = record { start = x.start; len = x.len }

  bytes_read : {a n : ℤ} (x : Inside size a n) → asked_bytes size a n p ≡ ok (span_of x) p
  bytes_read x = rw (x.start_is, x.len_is, le-leb (x.start + x.len) size x.ends)

  bytes_told : (a n : ℤ) {y : Span} {q : ℕ} → asked_bytes size a n p ≡ ok y q → (x : Inside size a n) × (span_of x ≡ y)
  bytes_told (pos a) (pos n) e =
      let (t, same, _) = pick_ok (leb (a + n) size) (record { start = a; len = n }) p 21 e in
      (record { start = a; len = n; start_is = refl; len_is = refl; ends = leb-true (a + n) size t }, same)
  bytes_told (pos a) (negsuc k) e = ok_not_no (sym e)
  bytes_told (negsuc k) n e = ok_not_no (sym e)

  bytes_refused : (a n : ℤ) → RefusedBy one (asked_bytes size a n p)
  bytes_refused (pos a) (pos n) = pick_refused one (leb (a + n) size) (ok _ p) (no 21) tt refl
  bytes_refused (pos a) (negsuc k) = refl
  bytes_refused (negsuc k) n = refl

  nullable_read : {a n : ℤ} → InsideOrNull size a n → (y : Option Span) × (asked_nullable size a n p ≡ ok y p)
  nullable_read (inl (e, f)) = (none, rw (e, f))
  nullable_read (inr x) =
      (some (span_of x), rw (x.start_is, x.len_is, le-leb (x.start + x.len) size x.ends))

  nullable_told : (a n : ℤ) {y : Option Span} {q : ℕ} → asked_nullable size a n p ≡ ok y q → InsideOrNull size a n
  nullable_told (pos a) (pos n) e =
      let (y, was, _) = map_ok some (asked_bytes size (pos a) (pos n) p) e in inr (bytes_told (pos a) (pos n) was).0
  nullable_told (pos a) (negsuc zero) e =
      let (t, _, _) = pick_ok (eqb a 0) none p 21 e in inl (ap pos (eqb-true a 0 t), refl)
  nullable_told (pos a) (negsuc (suc k)) e = ok_not_no (sym e)
  nullable_told (negsuc k) n e = ok_not_no (sym e)

  nullable_refused : (a n : ℤ) → RefusedBy one (asked_nullable size a n p)
  nullable_refused (pos a) (pos n) = map_refused one some (asked_bytes size (pos a) (pos n) p) (bytes_refused (pos a) (pos n))
  nullable_refused (pos a) (negsuc zero) = pick_refused one (eqb a 0) (ok none p) (no 21) tt refl
  nullable_refused (pos a) (negsuc (suc k)) = refl
  nullable_refused (negsuc k) n = refl

-- ---- a header's row

module _ (t : List ℤ) (s : List ℕ) (row : ℕ) where
  abbrev key_asked : Step ℕ Span
  key_asked = asked_bytes (length s) (cell 4 t row 0) (cell 4 t row 1) row

  abbrev value_asked : Step ℕ Span
  value_asked = asked_bytes (length s) (cell 4 t row 2) (cell 4 t row 3) row

  -- its two spans are read, and its key judged
  header_judged : (x : HeaderNumbers t (length s) row)
      → header_asked t s row
      ≡ pick (is_utf8 (asked_key t s row x))
      (ok (record { key = span_of (length s) row x.key; value = span_of (length s) row x.value }) (row + 1)) (no 22)
  unfolding header_asked
  header_judged x = rw (bytes_read (length s) row x.key, bytes_read (length s) row x.value)

  header_read : HeaderRowRight t s row → (h : HeaderSpans) × (header_asked t s row ≡ ok h (row + 1))
  header_read x = (
    record { key = span_of (length s) row x.numbers.key; value = span_of (length s) row x.numbers.value },
    header_judged x.numbers ∙ rw (utf8_complete (asked_key t s row x.numbers) x.utf8),
  )

  -- either its numbers are right, or it is refused by 21
  numbers_or : HeaderNumbers t (length s) row ⊎ (header_asked t s row ≡ no 21)
  unfolding header_asked
  numbers_or = by_key key_asked refl (bytes_refused (length s) row (cell 4 t row 0) (cell 4 t row 1))
    where
      by_value : Inside (length s) (cell 4 t row 0) (cell 4 t row 1) → (x : Step ℕ Span) → value_asked ≡ x → RefusedBy one x
          → HeaderNumbers t (length s) row ⊎ (header_asked t s row ≡ no 21)
      by_value k (ok v q) e r = inl (record { key = k; value = (bytes_told (length s) row _ _ e).0 })
      by_value k (no n) e r = inr (rw (bytes_read (length s) row k, e ∙ ap no r))

      by_key : (x : Step ℕ Span) → key_asked ≡ x → RefusedBy one x → HeaderNumbers t (length s) row ⊎ (header_asked t s row ≡ no 21)
      by_key (ok k q) e r =
          by_value (bytes_told (length s) row _ _ e).0 value_asked refl (bytes_refused (length s) row (cell 4 t row 2) (cell 4 t row 3))
      by_key (no n) e r = inr (rw (e ∙ ap no r))

  header_told : {h : HeaderSpans} {q : ℕ} → header_asked t s row ≡ ok h q → HeaderRowRight t s row × (row + 1 ≡ q)
  header_told e =
      elim numbers_or [
        | inl x ↦
            let (u, _, w) = pick_ok (is_utf8 (asked_key t s row x)) _ (row + 1) 22 (sym (header_judged x) ∙ e) in
            (record { numbers = x; utf8 = utf8_sound (asked_key t s row x) u }, w)
        | inr f ↦ ok_not_no (sym e ∙ f)
      ]

  header_wrong : (n : ℕ) → header_asked t s row ≡ no n → HeaderRowWrong t s row n
  header_wrong n e =
      elim numbers_or [
        | inl x ↦
            let (u, w) = pick_no (is_utf8 (asked_key t s row x)) _ (row + 1) 22 (sym (header_judged x) ∙ e) in
            subst (HeaderRowWrong t s row) w (HeaderRowWrong.key x (not_octets (asked_key t s row x) u))
        | inr f ↦
            let w : 21 ≡ n = cc in
            subst (HeaderRowWrong t s row) w
            (HeaderRowWrong.number (λ x.
            let (_, v) = pick_no (is_utf8 (asked_key t s row x)) _ (row + 1) 22 (sym (header_judged x) ∙ f) in omega (arith, v)))
      ]

  header_refused : {n : ℕ} → HeaderRowWrong t s row n → header_asked t s row ≡ no n
  header_refused (HeaderRowWrong.number f) =
      elim numbers_or [
        | inl x ↦ absurd (f x)
        | inr e ↦ e
      ]
  header_refused (HeaderRowWrong.key x f) =
      header_judged x ∙ rw (not_utf8 (asked_key t s row x) f)

-- ---- header rows, one after the other

module _ (t : List ℤ) (s : List ℕ) where
  moved : (row j : ℕ) → row + 1 + j ≡ row + suc j
  moved row j = omega arith

  one_more : {row k : ℕ} → HeaderRowRight t s row → HeaderRowsRight t s (row + 1) k → HeaderRowsRight t s row (suc k)
  one_more {row} x others zero h = subst (HeaderRowRight t s) (sym (add-zero row)) x
  one_more {row} x others (suc j) h = subst (HeaderRowRight t s) (moved row j) (others j (omega arith))

  first_of : {row k : ℕ} → HeaderRowsRight t s row (suc k) → HeaderRowRight t s row
  first_of {row} all = subst (HeaderRowRight t s) (add-zero row) (all 0 (omega arith))

  rest_of : (row : ℕ) {k : ℕ} → HeaderRowsRight t s row (suc k) → HeaderRowsRight t s (row + 1) k
  rest_of row all j h = subst (HeaderRowRight t s) (sym (moved row j)) (all (suc j) (omega arith))

  headers_told : (k row : ℕ) {hs : List HeaderSpans} {q : ℕ} → times (header_asked t s) k row ≡ ok hs q
      → HeaderRowsRight t s row k × (row + k ≡ q)
  unfolding times
  headers_told zero row {q = q} e = let w : row ≡ q = cc in (λ j h. absurd (omega arith), omega arith)
  headers_told (suc k) row e =
      let (h, m, rest, is, others, _) = times_first (header_asked t s) k row e in
      let (x, next) = header_told t s row is in
      let (all, end) = headers_told k (row + 1) (rw (sym next) at others) in
      (one_more x all, omega arith)

  headers_read : (k row : ℕ) → HeaderRowsRight t s row k → (hs : List HeaderSpans) × (times (header_asked t s) k row ≡ ok hs (row + k))
  unfolding times
  headers_read zero row all = ([], rw (add-zero row))
  headers_read (suc k) row all =
      let (h, is) = header_read t s row (first_of all) in
      let (hs, others) = headers_read k (row + 1) (rest_of row all) in
      let w : row + 1 + k ≡ row + suc k = omega arith in
      (_, times_onto (header_asked t s) k row is (others ∙ ap (ok hs) w))

  headers_wrong : (k row n : ℕ) → times (header_asked t s) k row ≡ no n → HeaderRowsWrong t s row k n
  unfolding times
  headers_wrong zero row n e = ok_not_no e
  headers_wrong (suc k) row n e =
      elim (and_then_no (header_asked t s row) _ e) [
        | inl i ↦
            record {
              at = 0;
              there = omega arith;
              before = λ j h. absurd (omega arith);
              wrong = subst (λ (r : ℕ). HeaderRowWrong t s r n) (sym (add-zero row)) (header_wrong t s row n i);
            }
        | inr w ↦
            let (h, q, i, j) = w in
            let (x, next) = header_told t s row i in
            let y = headers_wrong k (row + 1) n (map_no _ _ (rw (sym next) at j)) in
            record {
              at = suc y.at;
              there = omega (arith, y.there);
              before = one_more x y.before;
              wrong = subst (λ (r : ℕ). HeaderRowWrong t s r n) (moved row y.at) y.wrong;
            }
      ]

  headers_refused : (k row at n : ℕ) → at < k → HeaderRowsRight t s row at → HeaderRowWrong t s (row + at) n → times (header_asked t s) k row ≡ no n
  unfolding times
  headers_refused zero row at n h before x = absurd (omega arith)
  headers_refused (suc k) row zero n h before x = rw (header_refused t s row (subst (λ (r : ℕ). HeaderRowWrong t s r n) (add-zero row) x))
  headers_refused (suc k) row (suc at) n h before x =
      let (_, is) = header_read t s row (first_of before) in
      let z = subst (λ (r : ℕ). HeaderRowWrong t s r n) (sym (moved row at)) x in
      let y = headers_refused k (row + 1) at n (omega arith) (rest_of row before) z in
      rw (is, y)

-- ---- a record's row

module _ (rows first p : ℕ) where
  count_read : (a n : ℤ) {c : ℕ} → a ≡ pos first → n ≡ pos c → first + c ≤ rows → asked_count rows first a n p ≡ ok c p
  count_read a n {c} e f h = rw (e, f, eq-eqb first first refl, le-leb (first + c) rows h)

  count_told : (a n : ℤ) {c q : ℕ} → asked_count rows first a n p ≡ ok c q → (a ≡ pos first) × (n ≡ pos c) × (first + c ≤ rows)
  count_told (pos a) (pos n) e =
      let (t, e') = picked (eqb a first) _ 21 e in
      let (u, same, _) = pick_ok (leb (first + n) rows) n p 21 e' in
      (ap pos (eqb-true a first t), ap pos same, omega (arith, leb-true (first + n) rows u, same))
  count_told (pos a) (negsuc k) e = ok_not_no (sym e)
  count_told (negsuc k) n e = ok_not_no (sym e)

  count_refused : (a n : ℤ) → RefusedBy one (asked_count rows first a n p)
  count_refused (pos a) (pos n) =
      pick_refused one (eqb a first) _ (no 21) (pick_refused one (leb (first + n) rows) (ok n p) (no 21) tt refl) refl
  count_refused (pos a) (negsuc k) = refl
  count_refused (negsuc k) n = refl

module _ (t : Tables) (s : List ℕ) (row first : ℕ) where
  abbrev number : ℕ → ℤ
  number k = cell 8 t.records row k

  abbrev rows : ℕ
  rows = length t.headers / 4

  head_read : {count : ℕ} → RecordRowRight t s row first count → (h : Head) × (head_asked t s row first ≡ ok h row) × (h.count ≡ count)
  unfolding head_asked
  head_read {count} x =
      let (k, e) = nullable_read (length s) row x.key in
      let (v, f) = nullable_read (length s) row x.value in
      let g = count_read rows first row (number 6) (number 7) x.runs_on x.counted x.within in (
        record { deltas = record { timestamp = number 0; offset = number 1 }; key = k; value = v; count = count },
        rw (test_in 64 (number 0) x.timestamp, test_in 32 (number 1) x.offset, e, f, g),
        refl,
      )

  head_told : {h : Head} {q : ℕ} → head_asked t s row first ≡ ok h q → RecordRowRight t s row first h.count
  unfolding head_asked
  head_told {h} {q} e =
      let (small, e') = picked (deltas_fit (number 0) (number 1)) _ 21 e in
      let (wide, narrow) = both_hold (in_bits 64 (number 0)) (in_bits 32 (number 1)) small in
      let (k, p, i, e'') = and_then_ok (asked_nullable (length s) (number 2) (number 3) row) _ e' in
      let (v, p', j, e''') = and_then_ok (asked_nullable (length s) (number 4) (number 5) row) _ e'' in
      let (c, l, w) = map_ok _ (asked_count rows first (number 6) (number 7) row) e''' in
      let (runs_on, counted, within) = count_told rows first row (number 6) (number 7) l in
      subst (λ (h : Head). RecordRowRight t s row first h.count) w
      (record {
        timestamp = tested_in 64 (number 0) wide;
        offset = tested_in 32 (number 1) narrow;
        key = nullable_told (length s) row (number 2) (number 3) i;
        value = nullable_told (length s) row (number 4) (number 5) j;
        runs_on = runs_on;
        counted = counted;
        within = within;
      })

  head_refused : RefusedBy one (head_asked t s row first)
  unfolding head_asked
  head_refused =
      pick_refused one (deltas_fit (number 0) (number 1)) _ (no 21)
      (and_then_refused one (asked_nullable (length s) (number 2) (number 3) row) _ (nullable_refused (length s) row (number 2) (number 3)) (λ k _.
      and_then_refused one (asked_nullable (length s) (number 4) (number 5) row) _ (nullable_refused (length s) row (number 4) (number 5)) (λ v _.
      map_refused one _ (asked_count rows first (number 6) (number 7) row) (count_refused rows first row (number 6) (number 7))))) refl

  -- where no count makes it right, it is refused
  head_not : ((count : ℕ) → RecordRowRight t s row first count → ⊥) → head_asked t s row first ≡ no 21
  head_not f = by (head_asked t s row first) refl head_refused
    where
      by : (x : Step ℕ Head) → head_asked t s row first ≡ x → RefusedBy one x → x ≡ no 21
      by (ok h q) e r = absurd (f h.count (head_told e))
      by (no n) e r = ap no r

  -- ---- the row, and then its headers

  abbrev headers_asked : Head → Step ℕ RecordSpans
  headers_asked h = map_step (with_headers h) (times (header_asked t.headers s) h.count first)

  abbrev here : RowPlace
  here = row_place row first

  next_no : (x : Step ℕ RecordSpans) {n : ℕ} → next_row row x ≡ no n → x ≡ no n
  next_no (ok r q) e = ok_not_no e
  next_no (no m) e = cc

  next_ok : (x : Step ℕ RecordSpans) {r : RecordSpans} {p : RowPlace} → next_row row x ≡ ok r p → (q : ℕ) × (x ≡ ok r q) × (row_place (row + 1) q ≡ p)
  next_ok (ok x q) {r} e = let w : x ≡ r = cc in (q, ap (λ (r : RecordSpans). ok r q) w, cc)
  next_ok (no m) e = ok_not_no (sym e)

  record_read : {count : ℕ} → RecordRowRight t s row first count → HeaderRowsRight t.headers s first count
      → (r : RecordSpans) × (record_asked t s here ≡ ok r (row_place (row + 1) (first + count)))
  unfolding record_asked
  record_read {count} x all =
      let (h, e, c) = head_read x in
      let (hs, f) = headers_read t.headers s count first all in
      (with_headers h hs, rw (e, c, f))

  record_told : {r : RecordSpans} {p : RowPlace} → record_asked t s here ≡ ok r p
      → (count : ℕ) × RecordRowRight t s row first count × HeaderRowsRight t.headers s first count × (row_place (row + 1) (first + count) ≡ p)
  unfolding record_asked
  record_told e =
      let (q, e', w) = next_ok (and_then (head_asked t s row first) (λ h _. headers_asked h)) e in
      let (h, m, i, e'') = and_then_ok (head_asked t s row first) (λ h _. headers_asked h) e' in
      let (hs, j, _) = map_ok (with_headers h) (times (header_asked t.headers s) h.count first) e'' in
      let (all, end) = headers_told t.headers s h.count first j in
      (h.count, head_told i, all, ap (row_place (row + 1)) end ∙ w)

  record_wrong : (n : ℕ) → record_asked t s here ≡ no n
      → (((count : ℕ) → RecordRowRight t s row first count → ⊥) × (21 ≡ n))
      ⊎ ((count : ℕ) × RecordRowRight t s row first count × HeaderRowsWrong t.headers s first count n)
  unfolding record_asked
  record_wrong n e =
      elim (and_then_no (head_asked t s row first) (λ h _. headers_asked h) (next_no _ e)) [
        | inl i ↦
            inl (λ count x. let (_, f, _) = head_read x in ok_not_no (sym f ∙ i), sym (refused_by_lem one head_refused i))
        | inr v ↦
            let (h, m, i, j) = v in
            let f = map_no (with_headers h) (times (header_asked t.headers s) h.count first) j in
            inr (h.count, head_told i, headers_wrong t.headers s h.count first n f)
      ]

  record_not : ((count : ℕ) → RecordRowRight t s row first count → ⊥) → record_asked t s here ≡ no 21
  unfolding record_asked
  record_not f = rw (head_not f)

  record_header : {count n : ℕ} → RecordRowRight t s row first count → HeaderRowsWrong t.headers s first count n → record_asked t s here ≡ no n
  unfolding record_asked
  record_header {count} {n} x y =
      let (h, e, c) = head_read x in
      rw (e, c, headers_refused t.headers s count first y.at n y.there y.before y.wrong)

-- ---- rows, one after the other

module _ (t : Tables) (s : List ℕ) where
  rows_wrong : (k row first n : ℕ) → times (record_asked t s) k (row_place row first) ≡ no n → RowsWrong t s row first k n
  unfolding times
  rows_wrong zero row first n e = ok_not_no e
  rows_wrong (suc k) row first n e =
      elim (and_then_no (record_asked t s (row_place row first)) _ e) [
        | inl i ↦
            elim (record_wrong t s row first n i) [
              | inl x ↦ subst (RowsWrong t s row first (suc k)) x.1 (RowsWrong.own x.0)
              | inr x ↦ let (count, right, wrong) = x in RowsWrong.header right wrong
            ]
        | inr v ↦
            let (r, p, i, j) = v in
            let (count, right, all, w) = record_told t s row first i in
            RowsWrong.later right all (rows_wrong k (row + 1) (first + count) n (map_no _ _ (rw (sym w) at j)))
      ]

  rows_refused : {k row first n : ℕ} → RowsWrong t s row first k n → times (record_asked t s) k (row_place row first) ≡ no n
  unfolding times
  rows_refused (RowsWrong.own {row} {first} f) = rw (record_not t s row first f)
  rows_refused (RowsWrong.header {row} {first} x y) = rw (record_header t s row first x y)
  rows_refused (RowsWrong.later {row} {first} x all y) = rw ((record_read t s row first x all).1, rows_refused y)

-- ---- too few rows, and then rows

module _ (t : Tables) (s : List ℕ) (first count : ℕ) where
  asked_wrong_lem : (n : ℕ) → records_asked t s first count ≡ no n → AskedWrong t s first count n
  unfolding records_asked
  asked_wrong_lem n e =
      elim (pick_either (leb count (length t.records / 8)) (times (record_asked t s) count (row_place 0 first)) 21 e) [
        | inl x ↦ AskedWrong.rows (leb-true count (length t.records / 8) x.0) (rows_wrong t s count 0 first n x.1)
        | inr x ↦ subst (AskedWrong t s first count) x.1 (AskedWrong.few (leb-false count (length t.records / 8) x.0))
      ]

  asked_refused : {n : ℕ} → AskedWrong t s first count n → records_asked t s first count ≡ no n
  unfolding records_asked
  asked_refused (AskedWrong.few h) = rw (lt-leb count (length t.records / 8) h)
  asked_refused (AskedWrong.rows h x) = rw (le-leb count (length t.records / 8) h, rows_refused t s x)

pub row_faults : RowFaults
row_faults t s first count n = (asked_wrong_lem t s first count n, λ x. asked_refused t s first count x)

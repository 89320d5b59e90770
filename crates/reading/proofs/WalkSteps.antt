-- What the functions of the walk return: by the answer of each step before, whose tables the next one is lent. The
-- premises have the form in which a proof finds them. Assumes nothing.
use Rattle.std.proofs.Common.{◌≡◌, ℕ, ◌+◌, ◌-◌, ◌*◌, ◌≤◌, ◌<◌, min, List, [], ◌∷◌, ◌++◌, append_assoc, length, take, ℤ, pos, sym, ap, ◌∙◌, subst, arith}
use native.Mathlib.Decide.{dec_le}
use borrow.Author.Tests.{eq-eqb, ne_eqb}
use lib.Seq.{take_all, take-length}
use Rattle.primitives.specs.Step.{Step, ok, no, map_step, times}
use Rattle.primitives.proofs.Steps.{map_ok, map_no, times_stop, times_count}
use Rattle.records.specs.declared.RecordHeader.{RecordHeader}
use Rattle.records.specs.declared.Record as Code
use Rattle.records.specs.Judgement.{HeaderSpans, RecordSpans, Head, count_at, header_at, head_at, with_headers, fields_at, record_at}
use Rattle.records.specs.Rows.{header_row, record_row, Tables, tables}
use Rattle.records.specs.Answers.{view_header, Heading, heading_of, view_record}
use Rattle.reading.specs.Walk.{put, put_headers, Walked, walked_record}
use Rattle.records.proofs.RecordMoves.{count_moves, record_moves}
use Rattle.reading.proofs.Turns.{headers_again, headers_done, walk_on, again, stop, done}

-- ---- headers; x is what the walk gives in all

module _ (s : List ℕ) (t : List ℤ) (row k at : ℕ) (x : Step ℕ (List ℤ)) (inv : map_step (put_headers t row) (times (header_at s) k at) ≡ x) where
  pub headers_stop : {n : ℕ} → 0 < k → no n ≡ map_step header_row (header_at s at) → no n ≡ x
  headers_stop some e = sym (times_stop (header_at s) (put_headers t row) k at some (map_no header_row (header_at s at) (sym e))) ∙ inv

  pub headers_turn : (h : RecordHeader) (next : ℕ) → 0 < k → ok (view_header h) next ≡ map_step header_row (header_at s at)
      → map_step (put_headers (put 4 t row (view_header h)) (row + 1)) (times (header_at s) (k - 1) next) ≡ x
  headers_turn h next some e =
      let (y, is, same) = map_ok header_row (header_at s at) (sym e) in
      ap (λ (u : List ℤ). map_step (put_headers (put 4 t row u) (row + 1)) (times (header_at s) (k - 1) next)) (sym same)
      ∙ headers_again s t row k at some is ∙ inv

  pub headers_end : k ≡ 0 → ok t at ≡ x
  headers_end none = headers_done s t row k at none ∙ inv

-- ---- the fields of a record

-- the row of a record is its heading and two numbers
row_is : (first : ℕ) (h : Head) (hs : List HeaderSpans)
    → record_row first (with_headers h hs) ≡ (heading_of h).numbers ++ (pos first ∷ pos (length hs) ∷ [])
row_is first h hs = rw append_assoc

module _ (s : List ℕ) (at row first : ℕ) (rs hs : List ℤ) where
  pub fields_no_head : {n : ℕ} → no n ≡ map_step heading_of (head_at s at) → no n ≡ map_step (walked_record (tables rs hs) row first) (fields_at s at)
  unfolding fields_at
  fields_no_head e = rw (map_no heading_of (head_at s at) (sym e))

  module _ (r : Code.Record) (next : ℕ) (e : ok (view_record r) next ≡ map_step heading_of (head_at s at)) where
    head_is : (h : Head) × (head_at s at ≡ ok h next) × (heading_of h ≡ view_record r)
    head_is = map_ok heading_of (head_at s at) (sym e)

    pub fields_no_headers : {n : ℕ} → no n ≡ map_step (put_headers hs first) (times (header_at s) r.headers next)
        → no n ≡ map_step (walked_record (tables rs hs) row first) (fields_at s at)
    unfolding fields_at
    fields_no_headers e' =
        rw (
          head_is.1,
          ap (λ (x : Heading). x.count) head_is.2,
          map_no (put_headers hs first) (times (header_at s) r.headers next) (sym e'),
        )

    pub fields_got : (end : ℕ) (hs' : List ℤ) → ok hs' end ≡ map_step (put_headers hs first) (times (header_at s) r.headers next)
        → ok (record {
          headers = r.headers;
          tables = tables (put 8 rs row ((view_record r).numbers ++ (pos first ∷ pos r.headers ∷ []))) hs';
        }) end ≡ map_step (walked_record (tables rs hs) row first) (fields_at s at)
    unfolding fields_at
    fields_got end hs' e' =
        let (h, is, same) = head_is in
        let count = ap (λ (x : Heading). x.count) same in
        let (ks, were, filled) = map_ok (put_headers hs first) (times (header_at s) r.headers next) (sym e') in
        let many = times_count (header_at s) r.headers next were in
        let numbers : (view_record r).numbers ++ (pos first ∷ pos r.headers ∷ []) ≡ record_row first (with_headers h ks) =
        (λ i. (sym same i).numbers ++ (pos first ∷ pos (sym many i) ∷ [])) ∙ sym (row_is first h ks) in
        rw (is, count, were)
        (λ i. ok (record { headers = sym many i; tables = tables (put 8 rs row (numbers i)) (sym filled i) }) end)

-- ---- a record

-- a window that ends past the list is the list
take_min : (n : ℕ) (s : List ℕ) → take (min n (length s)) s ≡ take n s
take_min n s =
    elim (dec_le n (length s)) [
      | yes h ↦ let e : min n (length s) ≡ n = omega arith in ap (λ (m : ℕ). take m s) e
      | Dec.no h ↦
          let e : min n (length s) ≡ length s = omega arith in
          ap (λ (m : ℕ). take m s) e ∙ take-length s ∙ sym (take_all n s (omega arith))
    ]

pub length_within : (s : List ℕ) (at : ℕ) {n start : ℕ} → ok n start ≡ count_at s at → start ≤ length s
length_within s at e = (count_moves s at (sym e)).1

module _ (s : List ℕ) (at row first : ℕ) (t : Tables) where
  pub record_no_length : {n : ℕ} → no n ≡ count_at s at → no n ≡ map_step (walked_record t row first) (record_at s at)
  unfolding record_at
  record_no_length e = rw (← e)

  -- the fields, read up to the nearer end
  module _ (n start : ℕ) {x : Step ℕ Walked}
      (e' : x ≡ map_step (walked_record t row first) (fields_at (take (min (start + n) (length s)) s) start)) where
    window : map_step (walked_record t row first) (fields_at (take (start + n) s) start) ≡ x
    window = sym (e' ∙ ap (λ (w : List ℕ). map_step (walked_record t row first) (fields_at w start)) (take_min (start + n) s))

  module _ (n start : ℕ) (e : ok n start ≡ count_at s at) where
    pub record_refused : {m : ℕ} → no m ≡ map_step (walked_record t row first) (fields_at (take (min (start + n) (length s)) s) start)
        → no m ≡ map_step (walked_record t row first) (record_at s at)
    unfolding record_at
    record_refused f = rw (← e, map_no (walked_record t row first) (fields_at (take (start + n) s) start) (window n start f))

    module _ {w : Walked} {next : ℕ} (f : ok w next ≡ map_step (walked_record t row first) (fields_at (take (min (start + n) (length s)) s) start)) where
      fields_read : (r : RecordSpans) × (fields_at (take (start + n) s) start ≡ ok r next) × (walked_record t row first r ≡ w)
      fields_read = map_ok (walked_record t row first) (fields_at (take (start + n) s) start) (window n start f)

      pub record_got_lem : next ≡ start + n → ok w next ≡ map_step (walked_record t row first) (record_at s at)
      unfolding record_at
      record_got_lem i = rw (← e, fields_read.1, eq-eqb next (start + n) i) (ap (λ (w : Walked). ok w next) (sym fields_read.2))

      pub record_left : (next ≡ start + n → ⊥) → no 13 ≡ map_step (walked_record t row first) (record_at s at)
      unfolding record_at
      record_left i = rw (← e, fields_read.1, ne_eqb next (start + n) i)

-- ---- a run of records; x is what the walk gives in all

-- how far a record of n headers moves
pub walked_moves : (s : List ℕ) (at row first : ℕ) (t : Tables) {w : Walked} {next : ℕ}
    → ok w next ≡ map_step (walked_record t row first) (record_at s at) → (at + 7 + 2 * w.headers ≤ next) × (next ≤ length s)
walked_moves s at row first t {w} {next} e =
    let (r, is, same) = map_ok (walked_record t row first) (record_at s at) (sym e) in
    subst (λ (m : ℕ). (at + 7 + 2 * m ≤ next) × (next ≤ length s)) (ap (λ (x : Walked). x.headers) same) (record_moves s at is)

module _ (s : List ℕ) (t : Tables) (row first sum k at : ℕ) (x : Step ℕ Walked) (inv : walk_on s t row first sum k at ≡ x) where
  pub run_stop : {n : ℕ} → 0 < k → no n ≡ map_step (walked_record t row (first + sum)) (record_at s at) → no n ≡ x
  run_stop some e = stop s t row first sum k at some (sym e) ∙ inv

  pub run_turn : {n next : ℕ} {t' : Tables} → 0 < k
      → ok (record { headers = n; tables = t' }) next ≡ map_step (walked_record t row (first + sum)) (record_at s at)
      → walk_on s t' (row + 1) first (sum + n) (k - 1) next ≡ x
  run_turn some e = again s t row first sum k at some (sym e) ∙ inv

  pub run_end : k ≡ 0 → ok (record { headers = sum; tables = t }) at ≡ x
  run_end none = done s t row first sum k at none ∙ inv

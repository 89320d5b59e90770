-- Rows put into a table one after the other are the rows put in at once: each stands where the one before it ends, and
-- all else stays. Assumes nothing.
use Prim.Native.Nat.{ℕ, suc, ◌+◌, ◌-◌, ◌*◌, ◌/◌, ◌≤◌, ◌<◌}
use mathlib.Core.Path.{◌≡◌, refl, sym, ap, ◌∙◌}
use mathlib.Core.Bool.{true}
use mathlib.Core.List.{List, [], ◌∷◌, ◌++◌, map, append_assoc}
use native.Mathlib.Omega.{arith}
use native.Mathlib.Decide.{dec_le}
use native.Mathlib.Nat.{add-mul, one-mul, add-zero}
use borrow.Author.Tests.{le-leb, lt-leb}
use Rattle.std.proofs.Math.Nat.{le-div_iff_mul-le, div-lt_iff_lt-mul}
use borrow.Rule.Slice.PartMut.{put_mid}
use lib.IntN.{ℤ}
use lib.ListN.{length, take, drop, length-append, length-drop, length-map, take-append-drop}
use lib.Seq.{length-take-le, take_at, drop-append-add, drop-drop}
use Rattle.numbers.specs.Concat.{concat}
use Rattle.records.specs.Judgement.{HeaderSpans, RecordSpans}
use Rattle.records.specs.Rows.{header_row, record_rows, header_rows, filled, Tables, roomy, with_rows}
use Rattle.records.proofs.Wide.{Wide, records_wide, headers_wide, records_end, headers_end}
use Rattle.reading.specs.Walk.{put, put_headers, put_record, put_records}

-- ---- a row

module _ (row w n : ℕ) (wide : 0 < w) where
  pub row_ends : row < n / w → row * w + w ≤ n
  row_ends h = let next : (row + 1) * w ≤ n = (le-div_iff_mul-le wide).0 (omega arith) in rw (add-mul, one-mul) at next

  pub row_past : n / w ≤ row → n < row * w + w
  row_past h = let next : n < (row + 1) * w = (div-lt_iff_lt-mul wide).0 (omega arith) in rw (add-mul, one-mul) at next

module _ (w : ℕ) (t : List ℤ) (row : ℕ) (numbers : List ℤ) where
  put_is : row * w + w ≤ length t → put w t row numbers ≡ take (row * w) t ++ numbers ++ drop (row * w + w) t
  unfolding put
  put_is h = rw (le-leb (row * w + w) (length t) h) (sym (append_assoc (take (row * w) t) numbers (drop (row * w + w) t)))

  -- a part that is written over puts it in
  pub put_in : row * w + w ≤ length t → put_mid (row * w) (row * w + w - row * w) t numbers ≡ put w t row numbers
  unfolding put
  put_in h = let k : row * w + w - row * w ≡ w = omega arith in rw (k, le-leb (row * w + w) (length t) h, drop-drop)

  pub put_out : length t < row * w + w → t ≡ put w t row numbers
  unfolding put
  put_out h = rw (lt-leb (row * w + w) (length t) h)

  length_put_lem : length numbers ≡ w → length (put w t row numbers) ≡ length t
  length_put_lem e =
      elim (dec_le (row * w + w) (length t)) [
        | yes h ↦
            rw (put_is h, length-append, length-append, length-take-le (row * w) t (omega arith), e, length-drop) (omega arith)
        | no g ↦ sym (ap length (put_out (omega arith)))
      ]

  -- the table cut after the row
  module _ (e : length numbers ≡ w) (h : row * w + w ≤ length t) where
    front : length (take (row * w) t ++ numbers) ≡ row * w + w
    front = rw (length-append, length-take-le (row * w) t (omega arith), e)

    take_put : take (row * w + w) (put w t row numbers) ≡ take (row * w) t ++ numbers
    take_put = rw (put_is h) (take_at (take (row * w) t ++ numbers) (drop (row * w + w) t) (row * w + w) front)

    drop_put : (n : ℕ) → drop (row * w + w + n) (put w t row numbers) ≡ drop (row * w + w + n) t
    drop_put n = rw (put_is h, ← front, drop-append-add, drop-drop)

-- ---- rows of any width

-- one after the other
unfoldable put_rows : ℕ → List ℤ → ℕ → List (List ℤ) → List ℤ
put_rows w t row [] = t
put_rows w t row (numbers ∷ rest) = put_rows w (put w t row numbers) (row + 1) rest

rows_filled : (w : ℕ) (t : List ℤ) (row : ℕ) (rows : List (List ℤ)) → Wide w rows → (row + length rows) * w ≤ length t
    → put_rows w t row rows ≡ filled w row rows t
unfolding put_rows filled concat
rows_filled w t row [] wide h = sym (rw (add-zero, take-append-drop))
rows_filled w t row (numbers ∷ rest) (e, wide) h =
    let n : row + suc (length rest) ≡ row + 1 + length rest = omega arith in
    let a : (row + 1) * w ≡ row * w + w = rw (add-mul, one-mul) in
    let m : (row + 1 + length rest) * w ≡ row * w + w + length rest * w = rw (add-mul, a) in
    let h' : row * w + w + length rest * w ≤ length t = rw (← m, ← n) h in
    let k : row * w + w ≤ length t = omega arith in
    rows_filled w (put w t row numbers) (row + 1) rest wide (rw (length_put_lem w t row numbers e, m) h')
    ∙ rw (a, n, m, take_put w t row numbers e k, drop_put w t row numbers e k (length rest * w)) (simp append_assoc)

rows_append : (w : ℕ) (t : List ℤ) (row : ℕ) (rows more : List (List ℤ))
    → put_rows w (put_rows w t row rows) (row + length rows) more ≡ put_rows w t row (rows ++ more)
unfolding put_rows
rows_append w t row [] more = rw add-zero
rows_append w t row (numbers ∷ rest) more =
    let n : row + suc (length rest) ≡ row + 1 + length rest = omega arith in
    rw n (rows_append w (put w t row numbers) (row + 1) rest more)

-- ---- the rows of records

records_put : (t : Tables) (row first : ℕ) (rs : List RecordSpans)
    → (put_records t row first rs).records ≡ put_rows 8 t.records row (record_rows first rs)
unfolding put_records put_rows record_rows
records_put t row first [] = refl
records_put t row first (r ∷ rest) = records_put (put_record t row first r) (row + 1) (first + length r.headers) rest

-- ---- the rows of headers

headers_put : (t : List ℤ) (row : ℕ) (hs : List HeaderSpans) → put_headers t row hs ≡ put_rows 4 t row (map header_row hs)
unfolding put_headers put_rows
headers_put t row [] = refl
headers_put t row (h ∷ rest) = headers_put (put 4 t row (header_row h)) (row + 1) rest

all_headers_put : (t : Tables) (row first : ℕ) (rs : List RecordSpans)
    → (put_records t row first rs).headers ≡ put_rows 4 t.headers first (header_rows rs)
unfolding put_records put_rows header_rows
all_headers_put t row first [] = refl
all_headers_put t row first (r ∷ rest) =
    all_headers_put (put_record t row first r) (row + 1) (first + length r.headers) rest
    ∙ rw (headers_put, ← length-map r.headers header_row)
    (rows_append 4 t.headers first (map header_row r.headers) (header_rows rest))

-- ---- both tables

module _ (first : ℕ) (rs : List RecordSpans) (t : Tables) (e : roomy first rs t ≡ true) where
  pub records_filled : put_records t 0 first rs ≡ with_rows first rs t
  unfolding with_rows
  records_filled =
      let p = rows_filled 8 t.records 0 (record_rows first rs) (records_wide first rs) (records_end first rs t e) in
      let q = rows_filled 4 t.headers first (header_rows rs) (headers_wide rs) (headers_end first rs t e) in
      λ i. record { records = (records_put t 0 first rs ∙ p) i; headers = (all_headers_put t 0 first rs ∙ q) i }

-- How the walk's loops turn: what is still to come, put onto the tables and counts so far, is the same after each turn.
-- Assumes nothing.
use Prim.Native.Nat.{ℕ, ◌+◌, ◌-◌, ◌<◌}
use mathlib.Core.Path.{◌≡◌, sym, ap, ◌∙◌}
use mathlib.Core.List.{List}
use native.Mathlib.Nat.{add_assoc, add-zero, zero-add}
use lib.IntN.{ℤ}
use lib.ListN.{length}
use Rattle.primitives.specs.Step.{Step, ok, no, map_step, times}
use Rattle.primitives.proofs.Steps.{map_ok, map_no, times_again, times_stop, times_done}
use Rattle.records.specs.Judgement.{HeaderSpans, header_at, record_at, run_at}
use Rattle.records.specs.Rows.{header_row, headers_in, Tables}
use Rattle.reading.specs.Walk.{put, put_headers, put_record, put_records, Walked, walked_record, walked_records}

-- ---- headers: the table and the row

pub headers_again : (s : List ℕ) (t : List ℤ) (row k at : ℕ) {h : HeaderSpans} {p : ℕ} → 0 < k → header_at s at ≡ ok h p
    → map_step (put_headers (put 4 t row (header_row h)) (row + 1)) (times (header_at s) (k - 1) p)
    ≡ map_step (put_headers t row) (times (header_at s) k at)
unfolding put_headers
headers_again s t row k at some e = sym (times_again (header_at s) (put_headers t row) k at some e)

pub headers_done : (s : List ℕ) (t : List ℤ) (row k at : ℕ) → k ≡ 0
    → ok t at ≡ map_step (put_headers t row) (times (header_at s) k at)
unfolding put_headers
headers_done s t row k at none = sym (times_done (header_at s) (put_headers t row) k at none)

-- ---- records: the tables, the row, the first header row and the number of headers passed

-- what k more records give
abbrev pub walk_on : List ℕ → Tables → (row first sum : ℕ) → ℕ → ℕ → Step ℕ Walked
walk_on s t row first sum k at =
    map_step (λ rs. record { headers = sum + headers_in rs; tables = put_records t row (first + sum) rs }) (times (record_at s) k at)

pub start : (s : List ℕ) (t : Tables) (first k at : ℕ)
    → walk_on s t 0 first 0 k at ≡ map_step (walked_records t 0 first) (run_at s k at)
unfolding run_at
start s t first k at =
    λ i. map_step (λ rs. record { headers = zero-add (headers_in rs) i; tables = put_records t 0 (add-zero first i) rs })
    (times (record_at s) k at)

module _ (s : List ℕ) (t : Tables) (row first sum k at : ℕ) where
  pub again : {n : ℕ} {t' : Tables} {p : ℕ} → 0 < k
      → map_step (walked_record t row (first + sum)) (record_at s at) ≡ ok (record { headers = n; tables = t' }) p
      → walk_on s t' (row + 1) first (sum + n) (k - 1) p ≡ walk_on s t row first sum k at
  unfolding headers_in put_records
  again {n} {t'} {p} some e =
      let (r, was, w) = map_ok (walked_record t row (first + sum)) (record_at s at) e in
      let m = length r.headers in
      ap (λ (x : Walked). walk_on s x.tables (row + 1) first (sum + x.headers) (k - 1) p) (sym w)
      ∙ (λ i. map_step (λ rs.
      record {
        headers = add_assoc sum m (headers_in rs) i;
        tables = put_records (put_record t row (first + sum) r) (row + 1) (sym (add_assoc first sum m) i) rs;
      }) (times (record_at s) (k - 1) p))
      ∙ sym (times_again (record_at s) _ k at some was)

  pub stop : {m : ℕ} → 0 < k → map_step (walked_record t row (first + sum)) (record_at s at) ≡ no m
      → no m ≡ walk_on s t row first sum k at
  stop some e = sym (times_stop (record_at s) _ k at some (map_no (walked_record t row (first + sum)) (record_at s at) e))

  pub done : k ≡ 0 → ok (record { headers = sum; tables = t }) at ≡ walk_on s t row first sum k at
  unfolding headers_in put_records
  done none = rw (times_done (record_at s) _ k at none, add-zero)

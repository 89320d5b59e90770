-- How the walks over rows turn: what is still to come, put onto what there is, is the same after each turn. Assumes
-- nothing.
use Prim.Native.Nat.{ℕ, ◌+◌, ◌-◌, ◌/◌, ◌≤◌, ◌<◌, min}
use mathlib.Core.Path.{◌≡◌, sym, ap, ◌∙◌}
use mathlib.Core.List.{List, [], ◌∷◌, map}
use native.Mathlib.Omega.{arith}
use native.Mathlib.Nat.{zero-add}
use lib.IntN.{ℤ}
use lib.ListN.{length}
use Rattle.numbers.specs.Pen.{Pen, pen, emit}
use Rattle.numbers.proofs.Pens.{emit_emit, emit_nothing}
use Rattle.primitives.specs.Step.{Step, ok, no, map_step, times}
use Rattle.primitives.proofs.Steps.{map_ok, map_no, times_again, times_stop, times_done}
use Rattle.records.specs.Judgement.{HeaderSpans, RecordSpans}
use Rattle.records.specs.Rows.{Tables}
use Rattle.records.specs.Placed.{shown_header}
use Rattle.records.specs.Written.{written_header, written_headers}
use Rattle.sizes.specs.Sizes.{header_size, headers_size, record_size, records_size, cap, capped}
use Rattle.asking.specs.declared.AskedHeader.{AskedHeader}
use Rattle.asking.specs.Asked.{header_asked, header_row_asked, RowPlace, row_place, record_asked}
use Rattle.asking.specs.Answers.{header_of}
use Rattle.asking.proofs.There.{header_there}
use Rattle.writing.specs.Sized.{forget}
use Rattle.writing.specs.Put.{capped_record, capped_records}

-- ---- any walk: f reads a row, g puts a list of what is still to come onto what there is

module _ {P A S R : Type 0} (f : P → Step P A) (g : S → List A → R) where
  abbrev pub rest : S → ℕ → P → Step P R
  rest now k at = map_step (g now) (times f k at)

  module _ (now : S) (k : ℕ) (at : P) (whole : Step P R) (inv : rest now k at ≡ whole) where
    -- so many are left after it
    pub turn : (left : ℕ) (next : S) (a : A) (q : P) → k ≡ left + 1 → f at ≡ ok a q → ((xs : List A) → g next xs ≡ g now (a ∷ xs)) → rest next left q ≡ whole
    turn left next a q some e h =
        let one : left ≡ k - 1 = omega arith in
        rw one ((λ i. map_step (λ xs. h xs i) (times f (k - 1) q)) ∙ sym (times_again f (g now) k at (omega arith) e) ∙ inv)

    pub stop : {n : ℕ} → 0 < k → f at ≡ no n → no n ≡ whole
    stop some e = sym (times_stop f (g now) k at some e) ∙ inv

    pub end : k ≡ 0 → ok (g now []) at ≡ whole
    end none = sym (times_done f (g now) k at none) ∙ inv

-- ---- headers

module _ (t : List ℤ) (s : List ℕ) where
  abbrev pub sizes_on : ℕ → List HeaderSpans → ℕ
  sizes_on sum hs = capped (sum + headers_size hs)

  abbrev pub headers_on : Pen → List HeaderSpans → Pen
  headers_on p hs = emit (written_headers (map (shown_header s) hs)) p

  module _ {S R : Type 0} (g : S → List HeaderSpans → R) (now : S) (k row : ℕ) (whole : Step ℕ R)
      (inv : rest (header_asked t s) g now k row ≡ whole) (there : row < length t / 4) where
    header_turn : (left : ℕ) → k ≡ left + 1 → (h : AskedHeader) → ok (header_of h) (row + 1) ≡ header_row_asked t s row → (next : S)
        → ((hs : List HeaderSpans) → g next hs ≡ g now (header_of h ∷ hs)) → rest (header_asked t s) g next left (row + 1) ≡ whole
    header_turn left some h e next same =
        turn (header_asked t s) g now k row whole inv left next (header_of h) (row + 1) some (sym (header_there t s row there _ e)) same

    header_stop : (n : ℕ) → 0 < k → no n ≡ header_row_asked t s row → no n ≡ whole
    header_stop n some e = stop (header_asked t s) g now k row whole inv some (sym (header_there t s row there _ e))

  pub sizes_stop : (sum k row : ℕ) (whole : Step ℕ ℕ) → rest (header_asked t s) sizes_on sum k row ≡ whole → row < length t / 4 → (n : ℕ)
      → 0 < k → no n ≡ header_row_asked t s row → no n ≡ whole
  sizes_stop sum k row whole inv there n some e = header_stop sizes_on sum k row whole inv there n some e

  pub headers_stop : (p : Pen) (k row : ℕ) (whole : Step ℕ Pen) → rest (header_asked t s) headers_on p k row ≡ whole → row < length t / 4 → (n : ℕ)
      → 0 < k → no n ≡ header_row_asked t s row → no n ≡ whole
  headers_stop p k row whole inv there n some e = header_stop headers_on p k row whole inv there n some e

  pub sizes_turn : (sum k row : ℕ) (whole : Step ℕ ℕ) → rest (header_asked t s) sizes_on sum k row ≡ whole → row < length t / 4 → (left : ℕ)
      → k ≡ left + 1 → (h : AskedHeader) → ok (header_of h) (row + 1) ≡ header_row_asked t s row → (n next : ℕ)
      → n ≡ capped (header_size (header_of h)) → next ≡ min (sum + n) cap → rest (header_asked t s) sizes_on next left (row + 1) ≡ whole
  unfolding headers_size
  sizes_turn sum k row whole inv there left some h e n next size sums =
      header_turn sizes_on sum k row whole inv there left some h e next (λ hs. omega (arith, size, sums))

  pub sizes_end : (sum k row next : ℕ) (whole : Step ℕ ℕ) → rest (header_asked t s) sizes_on sum k row ≡ whole → k ≡ 0 → sum ≤ cap
      → row ≡ next → ok sum next ≡ whole
  unfolding headers_size
  sizes_end sum k row next whole inv none small at =
      (λ i. ok (same i) (at' i)) ∙ end (header_asked t s) sizes_on sum k row whole inv none
    where
      same : sum ≡ capped (sum + 0)
      same = omega arith

      at' : next ≡ row
      at' = sym at

  pub headers_turn : (p : Pen) (k row : ℕ) (whole : Step ℕ Pen) → rest (header_asked t s) headers_on p k row ≡ whole → row < length t / 4 → (left : ℕ)
      → k ≡ left + 1 → (h : AskedHeader) → ok (header_of h) (row + 1) ≡ header_row_asked t s row → (q : Pen)
      → q ≡ emit (written_header (shown_header s (header_of h))) p → rest (header_asked t s) headers_on q left (row + 1) ≡ whole
  unfolding written_headers
  headers_turn p k row whole inv there left some h e q put =
      header_turn headers_on p k row whole inv there left some h e q
      (λ hs. ap (emit (written_headers (map (shown_header s) hs))) put ∙ emit_emit (written_header (shown_header s (header_of h))) (written_headers (map (shown_header s) hs)) p)

  pub headers_end : (at : ℕ) (out : List ℕ) (k row next : ℕ) (whole : Step ℕ Pen) → rest (header_asked t s) headers_on (pen at out) k row ≡ whole
      → k ≡ 0 → row ≡ next → ok (pen at out) next ≡ whole
  unfolding written_headers
  headers_end at out k row next whole inv none place =
      (λ i. ok (sym (emit_nothing at out) i) (sym place i)) ∙ end (header_asked t s) headers_on (pen at out) k row whole inv none

-- ---- records

module _ (t : Tables) (s : List ℕ) where
  abbrev pub record_sizes_on : ℕ → List RecordSpans → ℕ
  record_sizes_on sum rs = capped (sum + records_size rs)

  abbrev pub records_on : Pen → List RecordSpans → Pen
  records_on p rs = emit (capped_records s rs) p

  pub record_sizes_start : (k : ℕ) (at : RowPlace) → rest (record_asked t s) record_sizes_on 0 k at
      ≡ map_step (λ rs. capped (records_size rs)) (times (record_asked t s) k at)
  record_sizes_start k at = λ i. map_step (λ rs. capped (zero-add (records_size rs) i)) (times (record_asked t s) k at)

  module _ (row first : ℕ) where
    module _ (n first' : ℕ) (e : ok n (row_place (row + 1) first') ≡ map_step (λ x. capped (record_size x)) (record_asked t s (row_place row first))) where
      pub record_size_small : n ≤ cap
      record_size_small =
          let (x, _, size) = map_ok (λ x. capped (record_size x)) (record_asked t s (row_place row first)) (sym e) in
          omega (arith, size)

      pub record_sizes_turn : (sum k : ℕ) (whole : Step RowPlace ℕ) → rest (record_asked t s) record_sizes_on sum k (row_place row first) ≡ whole
          → (left : ℕ) → k ≡ left + 1 → (next : ℕ) → next ≡ min (sum + n) cap
          → rest (record_asked t s) record_sizes_on next left (row_place (row + 1) first') ≡ whole
      unfolding records_size
      record_sizes_turn sum k whole inv left some next sums =
          let (x, is, size) = map_ok (λ x. capped (record_size x)) (record_asked t s (row_place row first)) (sym e) in
          turn (record_asked t s) record_sizes_on sum k (row_place row first) whole inv left next x (row_place (row + 1) first') some is
          (λ rs. omega (arith, size, sums))

    pub record_sizes_stop : (n : ℕ) → no n ≡ map_step (λ x. capped (record_size x)) (record_asked t s (row_place row first)) → (sum k : ℕ)
        (whole : Step RowPlace ℕ) → rest (record_asked t s) record_sizes_on sum k (row_place row first) ≡ whole → 0 < k → no n ≡ forget whole
    record_sizes_stop n e sum k whole inv some =
        ap forget
        (stop (record_asked t s) record_sizes_on sum k (row_place row first) whole inv some
        (map_no (λ x. capped (record_size x)) (record_asked t s (row_place row first)) (sym e)))

    pub record_sizes_end : (sum k : ℕ) (whole : Step RowPlace ℕ) → rest (record_asked t s) record_sizes_on sum k (row_place row first) ≡ whole
        → k ≡ 0 → sum ≤ cap → ok sum 0 ≡ forget whole
    unfolding records_size
    record_sizes_end sum k whole inv none small =
        (λ i. ok (same i) 0) ∙ ap forget (end (record_asked t s) record_sizes_on sum k (row_place row first) whole inv none)
      where
        same : sum ≡ capped (sum + 0)
        same = omega arith

    pub records_turn : (p q : Pen) (first' : ℕ) → ok q (row_place (row + 1) first') ≡ map_step (λ x. emit (capped_record s x) p) (record_asked t s (row_place row first))
        → (k : ℕ) (whole : Step RowPlace Pen) → rest (record_asked t s) records_on p k (row_place row first) ≡ whole → (left : ℕ) → k ≡ left + 1
        → rest (record_asked t s) records_on q left (row_place (row + 1) first') ≡ whole
    unfolding capped_records
    records_turn p q first' e k whole inv left some =
        let (x, is, put) = map_ok (λ x. emit (capped_record s x) p) (record_asked t s (row_place row first)) (sym e) in
        turn (record_asked t s) records_on p k (row_place row first) whole inv left q x (row_place (row + 1) first') some is
        (λ rs. ap (emit (capped_records s rs)) (sym put) ∙ emit_emit (capped_record s x) (capped_records s rs) p)

    pub records_stop : (n : ℕ) (p : Pen) → no n ≡ map_step (λ x. emit (capped_record s x) p) (record_asked t s (row_place row first)) → (k : ℕ)
        (whole : Step RowPlace Pen) → rest (record_asked t s) records_on p k (row_place row first) ≡ whole → 0 < k → no n ≡ forget whole
    records_stop n p e k whole inv some =
        ap forget
        (stop (record_asked t s) records_on p k (row_place row first) whole inv some
        (map_no (λ x. emit (capped_record s x) p) (record_asked t s (row_place row first)) (sym e)))

    pub records_end : (at : ℕ) (out : List ℕ) (k : ℕ) (whole : Step RowPlace Pen)
        → rest (record_asked t s) records_on (pen at out) k (row_place row first) ≡ whole → k ≡ 0 → ok (pen at out) 0 ≡ forget whole
    unfolding capped_records
    records_end at out k whole inv none =
        (λ i. ok (sym (emit_nothing at out) i) 0) ∙ ap forget (end (record_asked t s) records_on (pen at out) k (row_place row first) whole inv none)

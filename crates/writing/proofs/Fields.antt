-- A record's row with the rows of its headers: what it takes, and what is written of it. Assumes nothing.
use Prim.Native.Nat.{ℕ, ◌+◌, ◌/◌, ◌≤◌, ◌<◌}
use mathlib.Core.Path.{◌≡◌, refl, sym, ap, ◌∙◌}
use mathlib.Core.List.{List, [], ◌∷◌, ◌++◌, map, append_assoc}
use native.Mathlib.Omega.{arith}
use lib.IntN.{ℤ, pos}
use lib.ListN.{length, length-map}
use mir.Syntax.{w32, w64}
use mir.Val.{SFits, to_z, of_z}
use mir.ValLaws.{to_z-of_z}
use Rattle.numbers.specs.Format.{shortest}
use Rattle.numbers.specs.Pen.{Pen, emit}
use Rattle.primitives.specs.Step.{Step, ok, no, map_step, times}
use Rattle.primitives.specs.Reading.{shown}
use Rattle.primitives.proofs.Steps.{map_ok, map_no, times_count}
use Rattle.records.specs.Judgement.{HeaderSpans, RecordSpans, with_headers}
use Rattle.records.specs.Rows.{Tables}
use Rattle.records.specs.Placed.{shown_header, shown_record}
use Rattle.records.specs.Written.{written_nullable, written_headers, written_fields}
use Rattle.sizes.specs.Sizes.{span_size, headers_size, head_size, length_in, fields_size, record_size, cap, capped}
use Rattle.sizes.proofs.Caps.{capped_span}
use Rattle.asking.specs.declared.AskedRecord.{AskedRecord}
use Rattle.asking.specs.Asked.{header_asked, head_asked, head_row_asked, next_row, row_place, record_asked}
use Rattle.asking.specs.Answers.{span_of, head_of}
use Rattle.asking.proofs.There.{head_there}
use Rattle.writing.specs.Sized.{head_of_size}
use Rattle.writing.specs.Put.{capped_record}
use Rattle.writing.proofs.Inside.{Sound, sound_at}
use Rattle.writing.proofs.Loops.{sizes_end}
use Rattle.writing.proofs.Pens.{three}

-- ---- steps that are alike where they are taken

map_same : {A B : Type 0} (f g : A → B) (x : Step ℕ A) → ((a : A) (q : ℕ) → x ≡ ok a q → f a ≡ g a) → map_step f x ≡ map_step g x
map_same f g (ok a q) h = ap (λ b. ok b q) (h a q refl)
map_same f g (no n) h = refl

-- ---- the row

module _ (t : Tables) (s : List ℕ) (row first : ℕ) (there : row < length t.records / 8) where
  module _ (r : AskedRecord) (e : ok (head_of r) row ≡ head_row_asked t s row first) where
    head_is : head_asked t s row first ≡ ok (head_of r) row
    head_is = sym (head_there t s row first there _ e)

    pub head_sound : Sound t s first (head_of r)
    head_sound = sound_at t s row first (head_of r) row head_is

    abbrev headers : Step ℕ (List HeaderSpans)
    headers = times (header_asked t.headers s) r.headers first

    asked_is : record_asked t s (row_place row first) ≡ next_row row (map_step (with_headers (head_of r)) headers)
    unfolding record_asked
    asked_is = rw head_is refl

    -- the headers that were read, as many as the row says
    record_is : (hs : List HeaderSpans) (next : ℕ) → headers ≡ ok hs next
        → record_asked t s (row_place row first) ≡ ok (with_headers (head_of r) hs) (row_place (row + 1) next)
    record_is hs next is = asked_is ∙ ap (λ x. next_row row (map_step (with_headers (head_of r)) x)) is

  pub row_wrong : {B : Type 0} (g : RecordSpans → B) (n : ℕ) → no n ≡ head_row_asked t s row first → no n ≡ map_step g (record_asked t s (row_place row first))
  unfolding record_asked
  row_wrong g n e = rw (sym (head_there t s row first there _ e)) refl

-- ---- sizes

module _ (r : AskedRecord) (t : List ℤ) (s : List ℕ) (first head : ℕ) (e : head ≡ capped (head_of_size (head_of r))) where
  -- with the headers' sizes put onto the head's
  pub fields_sized : {x : Step ℕ ℕ} → x ≡ map_step (λ hs. capped (head + headers_size hs)) (times (header_asked t s) r.headers first)
      → x ≡ map_step (λ hs. capped (fields_size (with_headers (head_of r) hs))) (times (header_asked t s) r.headers first)
  unfolding fields_size
  fields_sized f = f ∙ map_same _ _ (times (header_asked t s) r.headers first) (λ hs q is. same hs (times_count (header_asked t s) r.headers first is))
    where
      same : (hs : List HeaderSpans) → length hs ≡ r.headers → capped (head + headers_size hs) ≡ capped (fields_size (with_headers (head_of r) hs))
      same hs n =
          let whole : head_of_size (head_of r) ≡ head_size r.timestamp_delta r.offset_delta (length_in (span_of r.key)) (length_in (span_of r.value)) (length hs)
          = ap (head_size r.timestamp_delta r.offset_delta (length_in (span_of r.key)) (length_in (span_of r.value))) (sym n) in
          omega (arith, e, whole)

  -- with no headers
  pub head_alone : r.headers ≡ 0
      → ok head (first + r.headers) ≡ map_step (λ hs. capped (fields_size (with_headers (head_of r) hs))) (times (header_asked t s) r.headers first)
  head_alone none = fields_sized (sizes_end t s head r.headers first (first + r.headers) _ refl none (omega (arith, e)) (omega arith))

pub fields_small : (r : AskedRecord) (t : List ℤ) (s : List ℕ) (k first next n : ℕ)
    → ok n next ≡ map_step (λ hs. capped (fields_size (with_headers (head_of r) hs))) (times (header_asked t s) k first) → n ≤ cap
fields_small r t s k first next n e =
    let (hs, _, same) = map_ok (λ hs. capped (fields_size (with_headers (head_of r) hs))) (times (header_asked t s) k first) (sym e) in
    omega (arith, same)

module _ (t : Tables) (s : List ℕ) (row first : ℕ) (there : row < length t.records / 8) (r : AskedRecord)
    (e : ok (head_of r) row ≡ head_row_asked t s row first) where
  -- one of its headers is wrong
  pub row_refused : {B C : Type 0} (g : RecordSpans → B) (f : List HeaderSpans → C) (n : ℕ) → no n ≡ map_step f (times (header_asked t.headers s) r.headers first)
      → no n ≡ map_step g (record_asked t s (row_place row first))
  row_refused g f n h =
      let refused = map_no f (times (header_asked t.headers s) r.headers first) (sym h) in
      sym (ap (map_step g) (asked_is t s row first there r e ∙ ap (λ x. next_row row (map_step (with_headers (head_of r)) x)) refused))

  module _ (next n : ℕ)
      (h : ok n next ≡ map_step (λ hs. capped (fields_size (with_headers (head_of r) hs))) (times (header_asked t.headers s) r.headers first)) where
    pub row_sized : (size : ℕ) → size ≡ capped (span_size n)
        → ok size (row_place (row + 1) next) ≡ map_step (λ x. capped (record_size x)) (record_asked t s (row_place row first))
    row_sized size g =
        let (hs, is, same) = map_ok (λ hs. capped (fields_size (with_headers (head_of r) hs))) (times (header_asked t.headers s) r.headers first) (sym h) in
        let total : size ≡ capped (record_size (with_headers (head_of r) hs))
        = g ∙ ap (λ k. capped (span_size k)) (sym same) ∙ capped_span (fields_size (with_headers (head_of r) hs)) in
        ap (λ k. ok k (row_place (row + 1) next)) total ∙ sym (ap (map_step (λ x. capped (record_size x))) (record_is t s row first there r e hs next is))

    -- what is written of a row whose length was worked out
    pub row_put : (p q : Pen)
        → ok q next
        ≡ map_step (λ hs. emit (shortest (pos n) ++ written_fields (shown_record s (with_headers (head_of r) hs))) p)
        (times (header_asked t.headers s) r.headers first)
        → ok q (row_place (row + 1) next) ≡ map_step (λ x. emit (capped_record s x) p) (record_asked t s (row_place row first))
    unfolding capped_record
    row_put p q h' =
        let (hs, is, same) = map_ok (λ hs. capped (fields_size (with_headers (head_of r) hs))) (times (header_asked t.headers s) r.headers first) (sym h) in
        let put : ok q next ≡ ok (emit (shortest (pos n) ++ written_fields (shown_record s (with_headers (head_of r) hs))) p) next
        = h' ∙ ap (map_step (λ hs. emit (shortest (pos n) ++ written_fields (shown_record s (with_headers (head_of r) hs))) p)) is in
        ap (next_row row) (put ∙ ap (λ k. ok (emit (shortest (pos k) ++ written_fields (shown_record s (with_headers (head_of r) hs))) p) next) (sym same))
        ∙ sym (ap (map_step (λ x. emit (capped_record s x) p)) (record_is t s row first there r e hs next is))

-- ---- what is written of a record, part after part

pub fields_put : (t : List ℤ) (s : List ℕ) (first size : ℕ) (r : AskedRecord) → SFits w64 r.timestamp_delta → SFits w32 r.offset_delta
    → (p p₁ p₂ : Pen) {x : Step ℕ Pen}
    → p₁ ≡ emit (shortest (pos size) ++ ((0 ∷ []) ++ (shortest (to_z w64 (of_z w64 r.timestamp_delta)) ++ shortest (to_z w32 (of_z w32 r.offset_delta))))) p
    → p₂ ≡ emit (written_nullable (shown s (span_of r.key)) ++ (written_nullable (shown s (span_of r.value)) ++ shortest (pos r.headers))) p₁
    → x ≡ map_step (λ hs. emit (written_headers (map (shown_header s) hs)) p₂) (times (header_asked t s) r.headers first)
    → x
    ≡ map_step (λ hs. emit (shortest (pos size) ++ written_fields (shown_record s (with_headers (head_of r) hs))) p) (times (header_asked t s) r.headers first)
unfolding written_fields
fields_put t s first size r fits fits' p p₁ p₂ e e' e'' =
    e'' ∙ map_same _ _ (times (header_asked t s) r.headers first) (λ hs q is. same hs (times_count (header_asked t s) r.headers first is))
  where
    k : List ℕ
    k = written_nullable (shown s (span_of r.key))

    v : List ℕ
    v = written_nullable (shown s (span_of r.value))

    td : List ℕ
    td = shortest r.timestamp_delta

    od : List ℕ
    od = shortest r.offset_delta

    sz : List ℕ
    sz = shortest (pos size)

    started : p₁ ≡ emit (sz ++ ((0 ∷ []) ++ (td ++ od))) p
    started = e ∙ (λ i. emit (sz ++ ((0 ∷ []) ++ (shortest (to_z-of_z w64 r.timestamp_delta fits i) ++ shortest (to_z-of_z w32 r.offset_delta fits' i)))) p)

    lists : (n h : List ℕ) → (sz ++ ((0 ∷ []) ++ (td ++ od))) ++ ((k ++ (v ++ n)) ++ h)
        ≡ sz ++ ((0 ∷ []) ++ (td ++ (od ++ (k ++ (v ++ (n ++ h))))))
    lists n h = simp append_assoc

    same : (hs : List HeaderSpans) → length hs ≡ r.headers → emit (written_headers (map (shown_header s) hs)) p₂
        ≡ emit (shortest (pos size) ++ written_fields (shown_record s (with_headers (head_of r) hs))) p
    same hs n =
        let count : length (map (shown_header s) hs) ≡ r.headers = length-map hs (shown_header s) ∙ n in
        three _ _ (written_headers (map (shown_header s) hs)) p p₁ p₂ _ started e' refl
        ∙ ap (λ l. emit l p) (lists (shortest (pos r.headers)) (written_headers (map (shown_header s) hs)))
        ∙ ap (λ m. emit (sz ++ ((0 ∷ []) ++ (td ++ (od ++ (k ++ (v ++ (shortest (pos m) ++ written_headers (map (shown_header s) hs)))))))) p) (sym count)

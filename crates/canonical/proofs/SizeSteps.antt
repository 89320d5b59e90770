-- What the functions that add up sizes return: by the answer of each step before. A sum that stops at the limit in each
-- of its parts is the whole sum stopped there. The premises have the form in which a proof finds them. Assumes nothing.
use Rattle.std.proofs.Common.{◌≡◌, ℕ, ◌+◌, ◌-◌, ◌≤◌, ◌<◌, min, List, [], ◌∷◌, length, ℤ, pos, refl, sym, ap, ◌∙◌, w64, to_z, of_z, arith}
use mathlib.Core.Option.{Option, none, some}
use mir.Val.{SFits}
use Rattle.numbers.specs.Format.{shortest}
use Rattle.primitives.specs.Reading.{Span}
use Rattle.primitives.specs.Step.{Step, ok, no, map_step, times}
use Rattle.primitives.proofs.Steps.{map_ok, map_no, times_again, times_stop, times_done, times_count}
use Rattle.records.specs.declared.RecordHeader.{RecordHeader}
use Rattle.records.specs.declared.Record as Code
use Rattle.records.specs.Judgement.{HeaderSpans, Head, header_at, head_at, fields_at}
use Rattle.records.specs.Rows.{span_row, header_row}
use Rattle.records.specs.Answers.{view_header, Heading, heading_of, view_record}
use Rattle.sizes.specs.Promises.{NumberSizePromise}
use Rattle.sizes.specs.Sizes.{span_size, place_size, head_size, length_in, headers_size, fields_size, cap}
use Rattle.sizes.proofs.Steps.{number_back, place_back}
use Rattle.canonical.specs.Tight.{headers_onto, fields_capped}

-- ---- a header, and what a record has before its headers

pub two_places : (k v : ℤ) (a b r : ℕ) → SFits w64 k → SFits w64 v → a ≡ min (place_size (to_z w64 (of_z w64 k))) cap
    → b ≡ min (place_size (to_z w64 (of_z w64 v))) cap → r ≡ min (a + b) cap → r ≡ min (place_size k + place_size v) cap
two_places k v a b r f g e e' h = omega (arith, place_back k a f e, place_back v b g e')

-- a length or a count
pub count_size : (z : ℤ) (n r : ℕ) → SFits w64 z → z ≡ pos n → NumberSizePromise (to_z w64 (of_z w64 z)) r → r ≡ length (shortest (pos n))
count_size z n r fits is e = number_back z r fits e ∙ ap (λ (m : ℤ). length (shortest m)) is

pub head_got : (t o c k v : ℤ) (n x y z a b r : ℕ) → SFits w64 t → SFits w64 o → SFits w64 c → SFits w64 k → SFits w64 v → c ≡ pos n
    → NumberSizePromise (to_z w64 (of_z w64 t)) x → NumberSizePromise (to_z w64 (of_z w64 o)) y → NumberSizePromise (to_z w64 (of_z w64 c)) z
    → a ≡ min (place_size (to_z w64 (of_z w64 k))) cap → b ≡ min (place_size (to_z w64 (of_z w64 v))) cap → r ≡ min (1 + (x + y + z) + a + b) cap
    → r ≡ min (head_size t o k v n) cap
unfolding head_size
head_got t o c k v n x y z a b r ft fo fc fk fv is et eo ec ek ev e =
    omega (arith, number_back t x ft et, number_back o y fo eo, count_size c n z fc is ec, place_back k a fk ek, place_back v b fv ev)

-- ---- headers; x is what the check gives in all

onto_more : (sum a n rest : ℕ) → n ≡ min (sum + min a cap) cap → min (n + rest) cap ≡ min (sum + (a + rest)) cap
onto_more sum a n rest e = omega arith

module _ (s : List ℕ) (sum k at : ℕ) (x : Step ℕ ℕ) (inv : map_step (headers_onto sum) (times (header_at s) k at) ≡ x) where
  pub headers_stop : {n : ℕ} → 0 < k → no n ≡ map_step header_row (header_at s at) → no n ≡ x
  headers_stop left e = sym (times_stop (header_at s) (headers_onto sum) k at left (map_no header_row (header_at s at) (sym e))) ∙ inv

  pub headers_turn : (h : RecordHeader) (next a n : ℕ) → 0 < k → ok (view_header h) next ≡ map_step header_row (header_at s at)
      → a ≡ min (place_size h.key.len + place_size h.value.len) cap → n ≡ min (sum + a) cap
      → map_step (headers_onto n) (times (header_at s) (k - 1) next) ≡ x
  unfolding headers_size
  headers_turn h next a n left e size grown =
      let (y, is, same) = map_ok header_row (header_at s at) (sym e) in
      let key : pos y.key.len ≡ h.key.len = cc in
      let value : pos y.value.len ≡ h.value.len = cc in
      let sizes = size ∙ (λ i. min (place_size (sym key i) + place_size (sym value i)) cap) in
      let all = grown ∙ ap (λ (m : ℕ). min (sum + m) cap) sizes in
      (λ i. map_step (λ hs. onto_more sum (span_size y.key.len + span_size y.value.len) n (headers_size hs) all i) (times (header_at s) (k - 1) next))
      ∙ sym (times_again (header_at s) (headers_onto sum) k at left is) ∙ inv

  pub headers_end : k ≡ 0 → sum ≤ cap → ok sum at ≡ x
  unfolding headers_size
  headers_end over small =
      let is : sum ≡ min (sum + 0) cap = omega arith in
      ap (λ (n : ℕ). ok n at) is ∙ sym (times_done (header_at s) (headers_onto sum) k at over) ∙ inv

-- ---- what follows a record's length

pub headers_small : (s : List ℕ) (k at : ℕ) {n end : ℕ} → ok n end ≡ map_step (headers_onto 0) (times (header_at s) k at) → n ≤ cap
headers_small s k at e = let (hs, _, w) = map_ok (headers_onto 0) (times (header_at s) k at) (sym e) in omega arith

-- the two numbers of a key or a value in its row
abbrev start_in : Option Span → ℤ
start_in none = pos 0
start_in (some x) = pos x.start

span_row_lem : (x : Option Span) → span_row x ≡ start_in x ∷ length_in x ∷ []
span_row_lem none = refl
span_row_lem (some x) = refl

fields_are : (s : List ℕ) (at : ℕ) (h : Head) (p : ℕ) → head_at s at ≡ ok h p → (hs : List HeaderSpans) (q : ℕ)
    → times (header_at s) h.count p ≡ ok hs q → (n : ℕ)
    → n ≡ min (head_size h.deltas.timestamp h.deltas.offset (length_in h.key) (length_in h.value) h.count + headers_size hs) cap
    → ok n q ≡ map_step fields_capped (fields_at s at)
unfolding fields_at fields_size
fields_are s at h p e hs q is n w =
    let count = sym (times_count (header_at s) h.count p is) in
    rw (e, is)
    (ap (λ (m : ℕ). ok m q) (w
    ∙ ap (λ (k : ℕ). min (head_size h.deltas.timestamp h.deltas.offset (length_in h.key) (length_in h.value) k + headers_size hs) cap) count))

module _ (s : List ℕ) (at : ℕ) where
  pub fields_no_head : {n : ℕ} → no n ≡ map_step heading_of (head_at s at) → no n ≡ map_step fields_capped (fields_at s at)
  unfolding fields_at
  fields_no_head e = rw (map_no heading_of (head_at s at) (sym e))

  module _ (r : Code.Record) (next : ℕ) (e : ok (view_record r) next ≡ map_step heading_of (head_at s at)) where
    -- the head that was read, and that its numbers are those of the code
    record HeadIs : Type 0 where
      head : Head
      is : head_at s at ≡ ok head next
      count : head.count ≡ r.headers
      timestamp : head.deltas.timestamp ≡ r.deltas.timestamp
      offset : head.deltas.offset ≡ r.deltas.offset
      key : length_in head.key ≡ r.key.len
      value : length_in head.value ≡ r.value.len

    head_is : HeadIs
    head_is =
        let (h, is, same) = map_ok heading_of (head_at s at) (sym e) in
        let numbers = rw (span_row_lem h.key, span_row_lem h.value) at (ap (λ (x : Heading). x.numbers) same) in
        record {
          head = h;
          is = is;
          count = ap (λ (x : Heading). x.count) same;
          timestamp = cc;
          offset = cc;
          key = cc;
          value = cc;
        }

    pub fields_no_headers : {n : ℕ} → no n ≡ map_step (headers_onto 0) (times (header_at s) r.headers next)
        → no n ≡ map_step fields_capped (fields_at s at)
    unfolding fields_at
    fields_no_headers e' = rw (head_is.is, head_is.count, map_no (headers_onto 0) (times (header_at s) r.headers next) (sym e'))

    pub fields_got : (n end head whole : ℕ) → ok n end ≡ map_step (headers_onto 0) (times (header_at s) r.headers next)
        → head ≡ min (head_size r.deltas.timestamp r.deltas.offset r.key.len r.value.len r.headers) cap
        → whole ≡ min (head + n) cap → ok whole end ≡ map_step fields_capped (fields_at s at)
    fields_got n end head whole e' h w =
        let d = head_is in
        let (hs, was, size) = map_ok (headers_onto 0) (times (header_at s) r.headers next) (sym e') in
        let was' = ap (λ (m : ℕ). times (header_at s) m next) d.count ∙ was in
        let same : head_size d.head.deltas.timestamp d.head.deltas.offset (length_in d.head.key) (length_in d.head.value) d.head.count
        ≡ head_size r.deltas.timestamp r.deltas.offset r.key.len r.value.len r.headers =
        λ i. head_size (d.timestamp i) (d.offset i) (d.key i) (d.value i) (d.count i) in
        fields_are s at d.head next d.is hs end was' whole (omega (arith, same, size))

-- What the functions that read the parts of a record return: by the answer of each step before. The premises have the
-- form in which a proof finds them. Assumes nothing.
use Rattle.std.proofs.Common.{◌≡◌, ℕ, ◌+◌, ◌-◌, ◌≤◌, ◌^◌, ◌<◌, Bool, true, false, List, [], ◌∷◌, ◌++◌, length, take, drop, Option, Some, None, ℤ, pos, sym, refl, ap, ◌∙◌, arith}
use mathlib.Core.Option.{none, some}
use Rattle.numbers.specs.Pick.{pick}
use Rattle.primitives.specs.declared.Span as declared
use Rattle.primitives.specs.Step.{Step, ok, no, and_then, map_step}
use Rattle.primitives.specs.Reading.{span_at}
use Rattle.primitives.specs.Answers.{view_nullable, span_as_read}
use Rattle.primitives.proofs.Moves.{span_ends}
use Rattle.primitives.proofs.Steps.{map_and_then, map_map}
use Rattle.utf8.specs.Judgement.{is_utf8}
use Rattle.records.proofs.Presence.{null_bytes}
use Rattle.records.specs.declared.Place.{Place}
use Rattle.records.specs.Judgement.{present, count_at, bytes_at, key_at, header_at, Deltas, deltas_at, head_at}
use Rattle.records.specs.Rows.{span_row, header_row}
use Rattle.records.specs.Answers.{place_row, Heading, heading_of}
use Rattle.records.specs.Parts.{bytes_row}
use Rattle.records.specs.Promises.{FromNullablePromise}
use Rattle.records.proofs.Places.{in_memory}

-- ---- a key or a value

pub place_is : (nullable : Bool) (s : List ℕ) (at : ℕ) (x : Option declared.Span) {q : ℕ} → ok (view_nullable span_as_read x) q ≡ span_at nullable s at
    → length s < 2 ^ 63 → (y : Place) → FromNullablePromise x y → ok (place_row y) q ≡ map_step span_row (span_at nullable s at)
place_is nullable s at (Some x) e small y says = rw (← e, in_memory x y (omega (arith, span_ends nullable s at (sym e))) says)
place_is nullable s at None e small y says = rw (← e, says)

-- where null is not allowed, the row is that of the bytes
bytes_rows : (s : List ℕ) (at : ℕ) → map_step bytes_row (bytes_at s at) ≡ map_step span_row (span_at false s at)
unfolding bytes_at
bytes_rows s at = by_cases (span_at false s at) refl where
  by_cases : (x : Step ℕ _) → x ≡ span_at false s at → map_step bytes_row (and_then x present) ≡ map_step span_row x
  by_cases (ok none q) e = null_bytes s at (sym e)
  by_cases (ok (some x) q) e = refl
  by_cases (no n) e = refl

pub key_ends : (s : List ℕ) (at : ℕ) (key : Option declared.Span) {q : ℕ} {x : declared.Span} → ok (view_nullable span_as_read key) q ≡ span_at false s at
    → key ≡ Some x → (x.start + x.len ≡ q) × (q ≤ length s)
key_ends s at key e there = span_ends false s at (sym (rw there at e))

map_pick : {A B : Type 0} (f : A → B) (t : Bool) (x y : Step ℕ A) → map_step f (pick t x y) ≡ pick t (map_step f x) (map_step f y)
map_pick f true x y = refl
map_pick f false x y = refl

-- a header's key, by what was judged of its bytes
pub key_is : (s : List ℕ) (at : ℕ) {x : declared.Span} {q : ℕ} → ok (some (span_as_read x)) q ≡ span_at false s at
    → (b : Bool) → b ≡ is_utf8 (take (q - x.start) (drop x.start s))
    → map_step bytes_row (key_at s at) ≡ pick b (ok (pos x.start ∷ pos x.len ∷ []) q) (no 11)
unfolding key_at bytes_at
key_is s at {x} {q} e b g =
    let h : q - x.start ≡ x.len = omega (arith, span_ends false s at (sym e)) in
    rw (← e, ← (rw h at g)) (map_pick bytes_row b _ _)

-- ---- rows of several fields are those of the fields, one after the other

map_onto : {A B C : Type 0} (f : B → C) (x : Step ℕ A) (next : A → ℕ → Step ℕ B)
    → map_step f (and_then x next) ≡ and_then x (λ a p. map_step f (next a p))
map_onto f (ok a p) next = refl
map_onto f (no n) next = refl

then_by : {A B : Type 0} (x : Step ℕ A) {f g : A → ℕ → Step ℕ B} → ((a : A) (p : ℕ) → f a p ≡ g a p) → and_then x f ≡ and_then x g
then_by x h = λ i. and_then x (λ a p. h a p i)

abbrev heading : Deltas → List ℤ → List ℤ → ℕ → Heading
heading d k v n = record { numbers = d.timestamp ∷ d.offset ∷ (k ++ v); count = n }

module _ (s : List ℕ) (at : ℕ) where
  pub head_rows : map_step heading_of (head_at s at)
      ≡ and_then (deltas_at s at) (λ d p.
      and_then (map_step span_row (span_at true s p)) (λ k q.
      and_then (map_step span_row (span_at true s q)) (λ v r. map_step (heading d k v) (count_at s r))))
  unfolding head_at
  head_rows =
      map_onto heading_of (deltas_at s at) _
      ∙ then_by (deltas_at s at) (λ d p.
      map_onto heading_of (span_at true s p) _
      ∙ then_by (span_at true s p) (λ k q.
      map_onto heading_of (span_at true s q) _
      ∙ then_by (span_at true s q) (λ v r. map_map heading_of _ (count_at s r))
      ∙ sym (map_and_then span_row (span_at true s q) _))
      ∙ sym (map_and_then span_row (span_at true s p) _))

  pub header_rows : map_step header_row (header_at s at)
      ≡ and_then (map_step bytes_row (key_at s at)) (λ k p. map_step (λ v. k ++ v) (map_step span_row (span_at false s p)))
  unfolding header_at
  header_rows =
      map_onto header_row (key_at s at) _
      ∙ then_by (key_at s at) (λ k p.
      map_map header_row _ (bytes_at s p) ∙ sym (map_map _ bytes_row (bytes_at s p)) ∙ ap (map_step (λ v. bytes_row k ++ v)) (bytes_rows s p))
      ∙ sym (map_and_then bytes_row (key_at s at) _)

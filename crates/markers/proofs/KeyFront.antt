-- The key of a record lies in the list. Its first four bytes, in the window that ends with them: what the key begins
-- with stands there, and what stands there is what the key begins with. Assumes nothing.
use Prim.Native.Nat.{ℕ, ◌+◌, ◌-◌, ◌≤◌}
use mathlib.Core.Path.{◌≡◌, sym, ap, ◌∙◌, subst}
use mathlib.Core.List.{List, ◌++◌}
use native.Mathlib.Omega.{arith}
use lib.ListN.{length, take, drop, length-drop, take-append-drop}
use lib.Seq.{length-take-le, take-append-add, drop-drop}
use Rattle.numbers.specs.Bytes.{Bytes}
use Rattle.primitives.specs.Step.{ok}
use Rattle.primitives.specs.Stands.{Stands}
use Rattle.primitives.specs.Reading.{Span, bytes_of}
use Rattle.primitives.proofs.Places.{first}
use Rattle.primitives.proofs.Windows.{inside, outside}
use Rattle.records.specs.Judgement.{RecordSpans, record_at}
use Rattle.records.specs.Inside.{Inside, NullableInside}
use Rattle.records.proofs.Sound.{record_sound}
use Rattle.records.proofs.Inside.{record_inside}

pub key_inside : (s : List ℕ) (p : ℕ) {r : RecordSpans} {q : ℕ} → Bytes s → record_at s p ≡ ok r q
    → NullableInside s r.key
key_inside s p {r} {q} b e =
    let (x, placed) = record_sound s p r q b e in
    subst (λ (r : RecordSpans). NullableInside s r.key) (sym placed) (record_inside x.stands x.encodes).key

module _ (s : List ℕ) (k : Span) where
  -- the bytes up to the fourth of the key
  abbrev pub key_front : List ℕ
  key_front = take (k.start + 4) s

  module _ (h : Inside s k) where
    pub key_length : length (bytes_of s k) ≡ k.len
    key_length = length-take-le k.len (drop k.start s) (rw length-drop (omega arith))

    -- what a span shows stands there
    span_stands : Stands s k.start (k.start + k.len) (bytes_of s k)
    span_stands =
        record {
          split =
              sym (take-append-drop k.len (drop k.start s))
              ∙ ap (λ (t : List ℕ). bytes_of s k ++ t) (drop-drop k.len k.start s);
          end = ap (λ (n : ℕ). k.start + n) (sym key_length);
          within = h;
        }

    pub front_length : 4 ≤ k.len → length key_front ≡ k.start + 4
    front_length enough = length-take-le (k.start + 4) s (omega arith)

    pub begins_there : (bs rest : List ℕ) → bytes_of s k ≡ bs ++ rest → length bs ≤ 4
        → Stands key_front k.start (k.start + length bs) bs
    begins_there bs rest e l =
        let x = subst (Stands s k.start (k.start + k.len)) e span_stands in
        inside (k.start + 4) (first bs rest x) (omega arith)

    pub there_begins : 4 ≤ k.len → {q : ℕ} {bs : List ℕ} → Stands key_front k.start q bs
        → bytes_of s k ≡ bs ++ take (k.len - length bs) (drop q s)
    there_begins enough {q} {bs} x =
        let total : k.len ≡ length bs + (k.len - length bs) = omega (arith, x.end, x.within, front_length enough) in
        ap (λ (n : ℕ). take n (drop k.start s)) total
        ∙ ap (take (length bs + (k.len - length bs))) (outside (k.start + 4) x).split
        ∙ take-append-add bs (drop q s) (k.len - length bs)

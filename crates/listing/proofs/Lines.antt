-- A line that is written byte after byte holds the bytes in their order, and zeros after them as long as it has room.
-- Assumes nothing.
use Prim.Native.Nat.{ℕ, suc, ◌+◌, ◌-◌, ◌≤◌, ◌<◌}
use mathlib.Core.Path.{◌≡◌, refl, sym, ap, ◌∙◌}
use mathlib.Core.List.{List, [], ◌∷◌, ◌++◌, append_assoc, append-nil}
use native.Mathlib.Omega.{arith}
use native.Mathlib.Numerals.{add-one}
use borrow.Author.Tests.{lt-ltb, le-ltb}
use lib.ListN.{length, get_or, drop, set, replicate, length-append, drop_of_length-le}
use lib.Seq.{drop-cons, set-append_seam}
use Rattle.listing.specs.declared.Line.{Line}
use Rattle.listing.specs.Answers.{line_size, in_line}
use Rattle.listing.specs.Writing.{pushed, written, empty_line}

-- ---- a byte

pub pushed_full : (l : Line) (b : ℕ) → line_size ≤ l.len → l ≡ pushed l b
unfolding pushed
pushed_full l b h = rw (le-ltb l.len line_size h)

pub pushed_fits : (l : Line) (b : ℕ) → l.len < line_size → record { bytes = set l.bytes l.len b; len = l.len + 1 } ≡ pushed l b
unfolding pushed
pushed_fits l b h = rw (lt-ltb l.len line_size h)

-- ---- bytes

written_append : (l : Line) (a b : List ℕ) → written (written l a) b ≡ written l (a ++ b)
unfolding written
written_append l [] b = refl
written_append l (x ∷ a) b = written_append (pushed l x) a b

-- on the same line
pub on_same : (l : Line) (a : List ℕ) {l' l'' : Line} → l' ≡ l → l'' ≡ written l' a → l'' ≡ written l a
on_same l a e f = f ∙ ap (λ (x : Line). written x a) e

-- one text after the other
pub onto : (l : Line) (a b : List ℕ) {l' l'' : Line} → l' ≡ written l a → l'' ≡ written l' b → l'' ≡ written l (a ++ b)
onto l a b e f = on_same (written l a) b e f ∙ written_append l a b

-- a byte after a text, and a text after a byte
pub byte_onto : (l : Line) (a : List ℕ) (b : ℕ) {l' l'' : Line} → l' ≡ written l a → l'' ≡ pushed l' b → l'' ≡ written l (a ++ (b ∷ []))
unfolding written
byte_onto l a b e f = onto l a (b ∷ []) e f

pub onto_byte : (l : Line) (a : ℕ) (b : List ℕ) {l' l'' : Line} → l' ≡ pushed l a → l'' ≡ written l' b → l'' ≡ written l (a ∷ b)
unfolding written
onto_byte l a b e f = on_same (pushed l a) b e f

-- a loop over the bytes of s, at the place i
pub written_again : (l : Line) (s : List ℕ) (i : ℕ) (l' : Line) → i < length s → l' ≡ pushed l (get_or s i 0)
    → written l' (drop (i + 1) s) ≡ written l (drop i s)
unfolding written
written_again l s i l' h e = rw (add-one, drop-cons s i 0 h) (ap (λ (x : Line). written x (drop (suc i) s)) e)

pub written_all : (l : Line) (s : List ℕ) (i : ℕ) → length s ≤ i → l ≡ written l (drop i s)
unfolding written
written_all l s i h = rw (drop_of_length-le s {i = i} h)

-- ---- what the line holds

module _ (a : List ℕ) (x : ℕ) (h : length a < line_size) where
  more_zeros : line_size - length a ≡ suc (line_size - length (a ++ (x ∷ [])))
  more_zeros = omega (arith, length-append a (x ∷ []))

  push_in : pushed (in_line a) x ≡ in_line (a ++ (x ∷ []))
  push_in =
      let zeros : List ℕ = replicate (line_size - length (a ++ (x ∷ []))) 0 in
      let bytes : set (a ++ replicate (line_size - length a) 0) (length a) x ≡ (a ++ (x ∷ [])) ++ zeros
      = ap (λ (n : ℕ). set (a ++ replicate n 0) (length a) x) more_zeros ∙ set-append_seam a 0 zeros x ∙ sym (append_assoc a (x ∷ []) zeros) in
      let len : length a + 1 ≡ length (a ++ (x ∷ [])) = sym (length-append a (x ∷ [])) in
      sym (pushed_fits (in_line a) x h) ∙ (λ i. record { bytes = bytes i; len = len i })

write_in : (a b : List ℕ) → length a + length b ≤ line_size → written (in_line a) b ≡ in_line (a ++ b)
unfolding written
write_in a [] h = ap in_line (sym (append-nil a))
write_in a (x ∷ b) h =
    ap (λ (l : Line). written l b) (push_in a x (omega arith))
    ∙ write_in (a ++ (x ∷ [])) b (omega (arith, length-append a (x ∷ [])))
    ∙ ap in_line (append_assoc a (x ∷ []) b)

pub line_holds : (text : List ℕ) → length text ≤ line_size → written empty_line text ≡ in_line text
line_holds text h = write_in [] text (omega arith)

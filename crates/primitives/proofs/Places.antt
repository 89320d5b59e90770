-- Laws of bytes that stand at a place: they are taken apart and put together, and a window that holds them shows them.
-- Assumes nothing.
use Rattle.std.proofs.Common.{◌≡◌, ℕ, ◌+◌, ◌<◌, ◌≤◌, List, [], ◌∷◌, ◌++◌, length, get_or, take, drop, sym, refl, ap, ◌∙◌, append_assoc, append-nil, add-zero, add-one, arith, length-append, drop_of_length-le, get_or-drop, drop-cons, drop-drop}
use lib.Seq.{drop-length, drop-append_seam, take-append_seam}
use Rattle.primitives.specs.Stands.{Stands}

-- none
pub nothing : (s : List ℕ) (p : ℕ) → p ≤ length s → Stands s p p []
nothing s p h = record { split = refl; end = sym (add-zero p); within = h }

-- a single byte
pub one : (s : List ℕ) (p : ℕ) → p < length s → Stands s p (p + 1) (get_or s p 0 ∷ [])
one s p h = record { split = rw add-one (drop-cons s p 0 h); end = refl; within = omega arith }

-- at the front of a list
pub in_front : (bs t : List ℕ) → Stands (bs ++ t) 0 (length bs) bs
in_front bs t = record { split = ap (λ (x : List ℕ). bs ++ x) (sym (drop-append_seam bs t)); end = omega arith; within = omega (arith, length-append bs t) }

module _ {s : List ℕ} {p q : ℕ} {bs : List ℕ} (x : Stands s p q bs) where
  pub shows : take (length bs) (drop p s) ≡ bs
  shows = rw x.split (take-append_seam bs (drop q s))

module _ {s : List ℕ} {p q b : ℕ} {bs : List ℕ} (x : Stands s p q (b ∷ bs)) where
  pub here : p < length s
  here = omega (arith, x.end, x.within)

  pub byte : get_or s p 0 ≡ b
  byte = ap (λ (i : ℕ). get_or s i 0) (sym (add-zero p)) ∙ sym (get_or-drop p s 0 0) ∙ ap (λ (l : List ℕ). get_or l 0 0) x.split

  pub after : Stands s (p + 1) q bs
  after =
      record {
        split = sym (drop-drop 1 p s) ∙ ap (drop 1) x.split;
        end = omega (arith, x.end);
        within = x.within;
      }

pub joined : {s : List ℕ} {p q r : ℕ} {a b : List ℕ} → Stands s p q a → Stands s q r b → Stands s p r (a ++ b)
joined {s} {p} {q} {r} {a} {b} x y =
    record {
      split = rw (x.split, y.split) (sym (append_assoc a b (drop r s)));
      end = omega (arith, length-append a b, x.end, y.end);
      within = y.within;
    }

module _ {s : List ℕ} {p r : ℕ} (a b : List ℕ) (x : Stands s p r (a ++ b)) where
  left_over : drop (p + length a) s ≡ b ++ drop r s
  left_over = sym (drop-drop (length a) p s) ∙ ap (drop (length a)) (x.split ∙ append_assoc a b (drop r s)) ∙ drop-append_seam a (b ++ drop r s)

  pub first : Stands s p (p + length a) a
  first =
      record {
        split = x.split ∙ append_assoc a b (drop r s) ∙ ap (λ (t : List ℕ). a ++ t) (sym left_over);
        end = refl;
        within = omega (arith, length-append a b, x.end, x.within);
      }

  pub second : Stands s (p + length a) r b
  second =
      record { split = left_over; end = omega (arith, length-append a b, x.end); within = x.within }

-- all of a list
pub whole : (bs : List ℕ) → Stands bs 0 (length bs) bs
whole bs = rw append-nil at (in_front bs [])

-- what stands up to the end of a list is all that is left there
pub all_left : {s : List ℕ} {p : ℕ} {bs : List ℕ} → Stands s p (length s) bs → drop p s ≡ bs
all_left {s} {bs = bs} x = x.split ∙ ap (λ (t : List ℕ). bs ++ t) (drop-length s) ∙ append-nil bs

-- what adds no length is nothing
pub no_rest : (bs rest : List ℕ) → length bs ≡ length (bs ++ rest) → rest ≡ []
no_rest bs rest e = sym (drop-append_seam bs rest) ∙ drop_of_length-le (bs ++ rest) {i = length bs} (omega arith)

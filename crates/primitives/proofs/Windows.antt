-- A window on a list: what stands in the list and ends within the window stands in the window, at the same place, since
-- both are cut at the same end; and what stands in the window stands in the list, since the rest comes after it.
-- Assumes nothing.
use Rattle.std.proofs.Common.{◌≡◌, ℕ, zero, suc, ◌+◌, ◌-◌, ◌≤◌, List, ◌++◌, length, take, drop, refl, subst, append_assoc, arith, length-append, take-append-drop, length-take, length-take-le, get_or-take, take-add, drop_at}
use native.Mathlib.Decide.{dec_lt}
use lib.ListN.{get_or-eq_default, get_or-append}
use lib.Seq.{drop-append-le, take-append-add}
use Rattle.numbers.specs.Bytes.{Bytes}
use Rattle.primitives.specs.Stands.{Stands}
use Rattle.primitives.specs.Reading.{big}

-- ---- from the list to the window

-- what is left of a window
drop_window : (p n : ℕ) (s : List ℕ) → p ≤ length s → drop p (take (p + n) s) ≡ take n (drop p s)
drop_window p n s h = rw (take-add p n s) (drop_at (take p s) (take n (drop p s)) p (length-take-le p s h))

-- the window ends n places after the bytes
inside_by : {s : List ℕ} {p q : ℕ} {bs : List ℕ} (n : ℕ) → Stands s p q bs → drop p (take (q + n) s) ≡ bs ++ drop q (take (q + n) s)
inside_by {s} {p} {q} {bs} n x =
    let e : q + n ≡ p + (length bs + n) = omega (arith, x.end) in
    rw (drop_window q n s x.within, e, drop_window p (length bs + n) s (omega (arith, x.end, x.within)), x.split)
    (take-append-add bs (drop q s) n)

pub inside : {s : List ℕ} {p q : ℕ} {bs : List ℕ} (e : ℕ) → Stands s p q bs → q ≤ e → Stands (take e s) p q bs
inside {s} {p} {q} {bs} e x h =
    let w : e ≡ q + (e - q) = omega arith in
    record {
      split = rw w (inside_by (e - q) x);
      end = x.end;
      within = rw length-take (omega (arith, x.within));
    }

-- ---- from the window to the list

longer : {s : List ℕ} {p q : ℕ} {bs : List ℕ} (rest : List ℕ) → Stands s p q bs → Stands (s ++ rest) p q bs
longer {s} {p} {q} {bs} rest x =
    record {
      split =
          rw (drop-append-le p s rest (omega (arith, x.end, x.within)), drop-append-le q s rest x.within, x.split)
          (append_assoc bs (drop q s) rest);
      end = x.end;
      within = omega (arith, length-append s rest, x.within);
    }

pub outside : {s : List ℕ} {p q : ℕ} {bs : List ℕ} (e : ℕ) → Stands (take e s) p q bs → Stands s p q bs
outside {s} {p} {q} {bs} e x = subst (λ (t : List ℕ). Stands t p q bs) (take-append-drop e s) (longer (drop e s) x)

pub window_bytes : (e : ℕ) (s : List ℕ) → Bytes s → Bytes (take e s)
window_bytes e s b i =
    elim (dec_lt i e) [
      | yes h ↦ rw (get_or-take e s i 0 h) (b i)
      | no h ↦ rw (get_or-eq_default (take e s) 0 {n = i} (simp length-take (omega arith))) (omega arith)
    ]

-- ---- a number, in a window that holds it and in a longer list

pub big_window : (n e : ℕ) (s : List ℕ) (p : ℕ) → p + n ≤ e → big n (take e s) p ≡ big n s p
unfolding big
big_window zero e s p h = refl
big_window (suc k) e s p h = rw (big_window k e s p (omega arith), get_or-take e s (p + k) 0 (omega arith))

pub big_longer : (n : ℕ) (s after : List ℕ) (at : ℕ) → at + n ≤ length s → big n (s ++ after) at ≡ big n s at
unfolding big
big_longer zero s after at h = refl
big_longer (suc k) s after at h =
    rw (big_longer k s after at (omega arith), get_or-append s after 0 (at + k) (omega arith))

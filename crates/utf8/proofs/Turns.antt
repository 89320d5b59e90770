-- What each test of the code says of the octets that are left: the judgement takes them one by one, so an octet that it
-- passes leaves the judgement of those behind it. Assumes nothing.
use Prim.Native.Nat.{ℕ, zero, suc, ◌+◌, ◌-◌, ◌*◌, ◌≤◌, ◌<◌}
use mathlib.Core.Path.{◌≡◌, refl, sym, ap, ap₂, ◌∙◌}
use mathlib.Core.Bool.{Bool, true, false, ◌&&◌}
use mathlib.Core.Option.{none, some}
use mathlib.Core.List.{List, [], ◌∷◌, ◌++◌}
use native.Mathlib.Nat.{add_comm, lt_of_le_of_lt, le-max_left, le-max_right}
use Rattle.std.specs.Prelude.{max}
use native.Mathlib.Omega.{arith}
use borrow.Author.Tests.{ltb-true}
use lib.Dec.{ltb, leb}
use Rattle.std.proofs.lemmas.Bool.Decides.{nat_tests}
use Rattle.std.specs.Ordering.{is_le, nat_cmp}
use Rattle.std.specs.Range.{range_inclusive_start, range_inclusive_end, range_inclusive_exhausted, range_inclusive_contains}
use Rattle.std.specs.declared.ops.RangeInclusive.{RangeInclusive}
use Rattle.std.specs.declared.option.Option.TheVariants.{Some}
use lib.ListN.{length, get_or, take, drop, replicate, take-append-drop, length-drop, length-replicate}
use lib.Seq.{drop-drop, length-take-le}
use Rattle.std.specs.List.{list_all, fold}
use Rattle.std.specs.Simd.{first_chunks}
use Rattle.numbers.specs.Pick.{pick}
use Rattle.numbers.proofs.Picks.{second_fails}
use Rattle.utf8.specs.Grammar.{Within, Tail}
use Rattle.utf8.specs.Judgement.{Range, from, tail, holds, goes_on, is_utf8}
use Rattle.utf8.specs.Steps.{following}
use Rattle.utf8.proofs.Rows.{Row, row_1, row_2, row_after, inside}

-- ---- an octet that begins a character

begins : {rs : List Range} {a : ℕ} (s : List ℕ) → Row a (some rs) → is_utf8 (a ∷ s) ≡ goes_on rs s
unfolding goes_on
begins s r = rw (row_after r, goes_on)

pub begun : {rs : List Range} (s : List ℕ) → 0 < length s → Row (get_or s 0 0) (some rs) → goes_on [] s ≡ goes_on rs (drop 1 s)
begun [] h r = absurd (omega arith)
begun (a ∷ s) h r = begins s r

pub not_begun : (s : List ℕ) → 0 < length s → Row (get_or s 0 0) none → goes_on [] s ≡ false
unfolding goes_on
not_begun [] h r = absurd (omega arith)
not_begun (a ∷ s) h r = rw (row_after r, goes_on)

-- ---- ASCII

ascii_first : (a : ℕ) (s : List ℕ) → a < 0x80 → is_utf8 (a ∷ s) ≡ is_utf8 s
ascii_first a s h = begins s (row_1 (omega arith))

pub ascii_run : (n : ℕ) (s : List ℕ) → n ≤ length s → ((k : ℕ) → k < n → get_or s k 0 < 0x80) → is_utf8 s ≡ is_utf8 (drop n s)
ascii_run zero s l h = refl
ascii_run (suc n) [] l h = absurd (omega arith)
ascii_run (suc n) (a ∷ s) l h =
    ascii_first a s (h 0 (omega arith)) ∙ ascii_run n s (omega arith) (λ k q. h (suc k) (omega arith))

-- n octets of which the greatest is ASCII
ascii_most : (n m : ℕ) (s : List ℕ) → fold max m (take n s) < 0x80 → (m < 0x80) × (is_utf8 s ≡ is_utf8 (drop n s))
ascii_most zero m s h = (h, refl)
ascii_most (suc n) m [] h = (h, refl)
ascii_most (suc n) m (a ∷ s) h =
    let (k, e) = ascii_most n (max m a) s h in
    (lt_of_le_of_lt (le-max_left m a) k, ascii_first a s (lt_of_le_of_lt (le-max_right m a) k) ∙ e)

abbrev pub ascii : List ℕ → Bool
ascii b = ltb (fold max 0 b) 0x80

-- n of k blocks, each of which is ASCII
pub ascii_blocks : (k n : ℕ) (s : List ℕ) → n ≤ k → ((i : ℕ) → i < n → ascii (get_or (first_chunks 16 k s) i []) ≡ true)
    → is_utf8 s ≡ is_utf8 (drop (16 * n) s)
ascii_blocks k zero s l h = refl
ascii_blocks zero (suc n) s l h = absurd (omega arith)
ascii_blocks (suc k) (suc n) s l h =
    let e : 16 * n + 16 ≡ 16 * suc n = omega arith in
    (ascii_most 16 0 s (ltb-true _ _ (h 0 (omega arith)))).1
    ∙ ascii_blocks k n (drop 16 s) (omega arith) (λ i q. h (suc i) (omega arith))
    ∙ ap is_utf8 (drop-drop (16 * n) 16 s ∙ ap (λ (i : ℕ). drop i s) (add_comm 16 (16 * n) ∙ e))

-- ---- a character of two octets

pub two_octets : (s : List ℕ) → 2 ≤ length s → Within 0xC2 0xDF (get_or s 0 0) → Tail (get_or s 1 0) → is_utf8 s ≡ is_utf8 (drop 2 s)
unfolding goes_on
two_octets (a ∷ b ∷ s) l v w = begins (b ∷ s) (row_2 v) ∙ rw (inside tail b w.least w.most) refl
two_octets s l v w = absurd (omega arith)

-- ---- octets in ranges that are asked for

too_few : (rs : List Range) (s : List ℕ) → length s < length rs → goes_on rs s ≡ false
unfolding goes_on
too_few [] s h = absurd (omega arith)
too_few (r ∷ rs) [] h = refl
too_few (r ∷ rs) (b ∷ s) h = rw (too_few rs s (omega arith)) (second_fails (holds r b))

tails : (b t : List ℕ) → goes_on (replicate (length b) tail) (b ++ t) ≡ pick (list_all (holds tail) b) (is_utf8 t) false
unfolding goes_on
tails [] t = refl
tails (a ∷ b) t = by (holds tail a) (tails b t)
  where
    by : (u : Bool) → goes_on (replicate (length b) tail) (b ++ t) ≡ pick (list_all (holds tail) b) (is_utf8 t) false
        → pick u (goes_on (replicate (length b) tail) (b ++ t)) false ≡ pick (u && list_all (holds tail) b) (is_utf8 t) false
    by true e = e
    by false e = refl

-- ---- a range's test

le_cmp : (a b : ℕ) → is_le (nat_cmp a b) ≡ leb a b
le_cmp a b = grind (arith, nat_tests)

both : (t u : Bool) → (t && u) ≡ pick t u false
both true u = refl
both false u = refl

pub contains_holds : {a b : ℕ} (s : RangeInclusive ℕ) (x : ℕ) → range_inclusive_exhausted s ≡ false
    → range_inclusive_start s ≡ a → range_inclusive_end s ≡ b
    → range_inclusive_contains (λ x y. Some (nat_cmp x y)) s x ≡ holds (from a b) x
contains_holds {a} {b} s x e f g = rw (f, g, e, le_cmp a x, le_cmp x b) (both (leb a x) (leb x b))

-- ---- a character of n octets

-- that its first octet asks for a second octet in a range and for tails
pub whole : (n least most : ℕ) (s octets rest : List ℕ) → 2 ≤ n → n ≤ length s → octets ≡ take n s → rest ≡ drop n s
    → goes_on (following n least most) (drop 1 s)
    ≡ pick (holds (from least most) (get_or octets 1 0)) (pick (list_all (holds tail) (drop 2 octets)) (is_utf8 rest) false) false
unfolding goes_on
whole (suc (suc m)) least most (a ∷ b ∷ t) octets rest h l e f =
    let g : suc (suc m) - 2 ≡ length (take m t) = omega (arith, length-take-le m t) in
    let inner : goes_on (replicate (suc (suc m) - 2) tail) t ≡ pick (list_all (holds tail) (take m t)) (is_utf8 (drop m t)) false =
    ap₂ (λ (k : ℕ) (y : List ℕ). goes_on (replicate k tail) y) g (sym (take-append-drop m t)) ∙ tails (take m t) (drop m t) in
    rw (e, f) (ap (λ (y : Bool). pick (holds (from least most) b) y false) inner)
whole n least most s octets rest h l e f = absurd (omega arith)

pub cut_off : (n least most : ℕ) (s : List ℕ) → length s < n → goes_on (following n least most) (drop 1 s) ≡ false
cut_off n least most s h =
    too_few (following n least most) (drop 1 s) (simp (length-drop, length-replicate) (omega arith))

pub at_end : (s t : List ℕ) → is_utf8 s ≡ is_utf8 t → length t ≤ 0 → true ≡ is_utf8 s
unfolding goes_on
at_end s [] e h = sym e
at_end s (a ∷ t) e h = absurd (omega arith)

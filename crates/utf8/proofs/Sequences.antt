-- The judgement is the grammar's: octets that lie in the ranges of their row are passed over, and nothing else is.
-- Assumes nothing.
use Prim.Native.Nat.{ℕ}
use mathlib.Core.Path.{◌≡◌, refl, sym, ◌∙◌, subst}
use mathlib.Core.Bool.{Bool, true, false, true≢false, false≢true}
use mathlib.Core.Option.{Option, none, some}
use mathlib.Core.List.{List, [], ◌∷◌, ◌++◌}
use borrow.Author.Tests.{leb-true}
use lib.Dec.{leb}
use Rattle.numbers.proofs.Picks.{both_hold}
use Rattle.utf8.specs.Grammar.{Octets}
use Rattle.utf8.specs.Judgement.{Range, holds, after, goes_on, is_utf8}
use Rattle.utf8.specs.Statements.{Utf8Sound, Utf8Complete, CharInFront, CharUnambiguous}
use Rattle.utf8.proofs.Rows.{inside, Row, row_after, after_row}
use Rattle.utf8.proofs.Characters.{Fits, all, more, Begun, begun, char_begun, begun_char}

-- ---- what the grammar has is judged so

passed_over : {rs : List Range} {t : List ℕ} (s : List ℕ) → Fits rs t → goes_on rs (t ++ s) ≡ goes_on [] s
unfolding goes_on
passed_over s all = refl
passed_over s (more {r} {b = b} w f) = rw (inside r b w.least w.most) (passed_over s f)

begun_in_front : {c : List ℕ} (s : List ℕ) → Begun c → goes_on [] (c ++ s) ≡ goes_on [] s
unfolding goes_on
begun_in_front s (begun r f) = rw (row_after r, goes_on) (passed_over s f)

pub char_in_front : CharInFront
char_in_front c s x = begun_in_front s (char_begun x)

pub utf8_complete : Utf8Complete
unfolding goes_on
utf8_complete s Octets.none = refl
utf8_complete s (Octets.more {c} {s = t} x o) = char_in_front c t x ∙ utf8_complete t o

-- ---- what is judged so the grammar has

data Rest (rs : List Range) : List ℕ → Type 0 where
  rest : {t s : List ℕ} → Fits rs t → Octets s → Rest rs (t ++ s)

next : (r : Range) (b : ℕ) {rs : List Range} {s : List ℕ} → holds r b ≡ true → Rest rs s → Rest (r ∷ rs) (b ∷ s)
next r b e (rest f o) =
    let (h, k) = both_hold (leb r.first b) (leb b r.last) e in
    rest (more (record { least = leb-true _ _ h; most = leb-true _ _ k }) f) o

begin : {a : ℕ} {rs : List Range} {s : List ℕ} → Row a (some rs) → Rest rs s → Rest [] (a ∷ s)
begin r (rest f o) = rest all (Octets.more (begun_char r f) o)

by_row : {a : ℕ} (o : Option (List Range)) (s : List ℕ) → Row a o → elim o [ none ↦ false | some rs ↦ goes_on rs s ] ≡ true
    → ((rs : List Range) → goes_on rs s ≡ true → Rest rs s) → Rest [] (a ∷ s)
by_row none s r e k = absurd (false≢true e)
by_row (some rs) s r e k = begin r (k rs e)

sound : (rs : List Range) (s : List ℕ) → goes_on rs s ≡ true → Rest rs s
unfolding goes_on
sound [] [] e = rest all Octets.none
sound [] (a ∷ s) e = by_row (after a) s (after_row a) e (λ rs. sound rs s)
sound (r ∷ rs) [] e = absurd (false≢true e)
sound (r ∷ rs) (b ∷ s) e =
    let (h, f) = both_hold (holds r b) (goes_on rs s) e in
    next r b h (sound rs s f)

none_begun : {s : List ℕ} → Rest [] s → Octets s
none_begun (rest all o) = o

pub utf8_sound : Utf8Sound
utf8_sound s e = none_begun (sound [] s e)

-- ---- what the one has not, the other has not

pub not_octets : (s : List ℕ) → is_utf8 s ≡ false → Octets s → ⊥
not_octets s e o = true≢false (sym (utf8_complete s o) ∙ e)

pub not_utf8 : (s : List ℕ) → (Octets s → ⊥) → is_utf8 s ≡ false
not_utf8 s wrong = by (is_utf8 s) refl
  where
    by : (t : Bool) → is_utf8 s ≡ t → t ≡ false
    by true e = absurd (wrong (utf8_sound s e))
    by false e = refl

-- ---- octets are read in one way only

same_fits : {rs : List Range} {c d : List ℕ} (s t : List ℕ) → Fits rs c → Fits rs d → c ++ s ≡ d ++ t → c ≡ d
same_fits s t all all e = refl
same_fits s t (more {t = c} v f) (more {t = d} w g) e =
    let h : c ++ s ≡ d ++ t = cc in
    let i = same_fits s t f g h in
    cc

same_begun : {c d : List ℕ} (s t : List ℕ) → Begun c → Begun d → c ++ s ≡ d ++ t → c ≡ d
same_begun s t (begun {rs} {t = c} q f) (begun {rs = rs'} {t = d} r g) e =
    let h : c ++ s ≡ d ++ t = cc in
    let i : rs' ≡ rs = cc (row_after q, row_after r) in
    let j = same_fits s t f (subst (λ (x : List Range). Fits x d) i g) h in
    cc

pub char_unambiguous : CharUnambiguous
char_unambiguous c d s t x y e = same_begun s t (char_begun x) (char_begun y) e

-- What the numbers of a row ask for, as the machine tests them. Assumes nothing.
use Prim.Native.Nat.{ℕ, zero, suc, ◌+◌, ◌-◌, ◌≤◌, ◌<◌}
use mathlib.Core.Path.{◌≡◌, refl, sym, ap, ◌∙◌, subst}
use mathlib.Core.Bool.{Bool, true, false}
use mathlib.Core.Option.{Option, none, some}
use native.Mathlib.Omega.{arith}
use borrow.Author.Tests.{le-leb, lt-leb, le-ltb, ne_eqb, eq-eqb}
use lib.Dec.{T, eqb, leb}
use lib.IntN.{ℤ, pos, negsuc, nat_abs}
use lib.Signed.{lt_z, non_neg}
use mir.Syntax.{w64}
use mir.Val.{Fits, SFits, to_z, of_z}
use mir.ValLaws.{to_z-of_z}
use Rattle.std.specs.Option.{ok_or}
use Rattle.std.proofs.Common as std
use Rattle.std.proofs.Common.{Some, None}
use Rattle.numbers.specs.Pick.{pick}
use Rattle.primitives.specs.declared.Span as declared
use Rattle.primitives.specs.Step.{Step, ok, no, map_step}
use Rattle.primitives.specs.Reading.{Span}
use Rattle.primitives.specs.Answers.{span_as_read}
use Rattle.asking.specs.declared.WriteFault.{WriteFault}
use Rattle.asking.specs.Answers.{span_of, view_answer}
use Rattle.asking.specs.Asked.{asked_bytes, asked_nullable, asked_count}

-- ---- a number as the machine reads it

module _ (z : ℤ) (f : SFits w64 z) where
  -- one that counts something, and one that does not
  pub counts : lt_z (to_z w64 (of_z w64 z)) (pos 0) ≡ false → z ≡ pos (nat_abs (to_z w64 (of_z w64 z)))
  counts t = rw (to_z-of_z w64 z f) (go z (rw (to_z-of_z w64 z f) at t))
    where
      go : (y : ℤ) → lt_z y (pos 0) ≡ false → y ≡ pos (nat_abs y)
      go (pos n) h = refl
      go (negsuc k) h = absurd (subst T h tt)

  below_0 : lt_z (to_z w64 (of_z w64 z)) (pos 0) ≡ true → (k : ℕ) × (z ≡ negsuc k)
  below_0 t = go z (rw (to_z-of_z w64 z f) at t)
    where
      go : (y : ℤ) → lt_z y (pos 0) ≡ true → (k : ℕ) × (y ≡ negsuc k)
      go (pos n) h = absurd (subst T (sym h ∙ le-ltb n 0 (omega arith)) tt)
      go (negsuc k) h = (k, refl)

  pub cast_from_0 : lt_z (to_z w64 (of_z w64 z)) (pos 0) ≡ false → T (non_neg (to_z w64 (of_z w64 z))) × Fits w64 (nat_abs (to_z w64 (of_z w64 z)))
  cast_from_0 t = rw (to_z-of_z w64 z f) (go z f (rw (to_z-of_z w64 z f) at t))
    where
      go : (y : ℤ) → SFits w64 y → lt_z y (pos 0) ≡ false → T (non_neg y) × Fits w64 (nat_abs y)
      go (pos n) g h = (tt, record { fits = omega (arith, g.sfits) })
      go (negsuc k) g h = absurd (subst T h tt)

-- ---- start and length

minus_1 : (z : ℤ) → SFits w64 z → of_z w64 z ≡ 18446744073709551615 → z ≡ negsuc 0
minus_1 z f e = sym (to_z-of_z w64 z f) ∙ ap (to_z w64) e

module _ (size : ℕ) (a n : ℤ) where
  pub start_below : SFits w64 a → lt_z (to_z w64 (of_z w64 a)) (pos 0) ≡ true → no 21 ≡ asked_nullable size a n 0
  start_below f h = rw (below_0 a f h).1 refl

  module _ (start : ℕ) (from : a ≡ pos start) where
    pub null_asked : SFits w64 n → of_z w64 n ≡ 18446744073709551615 → start ≡ 0 → ok none 0 ≡ asked_nullable size a n 0
    null_asked f e g = rw (minus_1 n f e, from, g) refl

    pub null_elsewhere : SFits w64 n → of_z w64 n ≡ 18446744073709551615 → (start ≡ 0 → ⊥) → no 21 ≡ asked_nullable size a n 0
    null_elsewhere f e g = rw (minus_1 n f e, from) (rw (ne_eqb start 0 g) refl)

    pub length_below : SFits w64 n → (of_z w64 n ≡ 18446744073709551615 → ⊥) → lt_z (to_z w64 (of_z w64 n)) (pos 0) ≡ true
        → no 21 ≡ asked_nullable size a n 0
    length_below f g h = let (k, e) = below_0 n f h in rw from (go k e)
      where
        go : (k : ℕ) → n ≡ negsuc k → no 21 ≡ asked_nullable size (pos start) n 0
        go zero e = absurd (g (ap (of_z w64) e))
        go (suc k) e = rw e refl

    module _ (len : ℕ) (long : n ≡ pos len) where
      outside : size < start + len → no 21 ≡ asked_nullable size a n 0
      outside h = rw (from, long) (rw (lt-leb (start + len) size h) refl)

      pub bytes_outside : size < len → no 21 ≡ asked_nullable size a n 0
      bytes_outside h = outside (omega (arith, h))

      pub bytes_past : len ≤ size → size - len < start → no 21 ≡ asked_nullable size a n 0
      bytes_past within h = outside (omega (arith, h, within))

      pub bytes_within : len ≤ size → start ≤ size - len → ok (some (record { start = start; len = len })) 0 ≡ asked_nullable size a n 0
      bytes_within within h = rw (from, long) (rw (le-leb (start + len) size (omega (arith, h, within))) refl)

-- ---- bytes that may not be null

-- what is asked for where null is not allowed
abbrev present : Step ℕ (Option Span) → Step ℕ Span
present (ok (some x) p) = ok x p
present (ok none p) = no 21
present (no n) = no n

bytes_present : (size : ℕ) (a n : ℤ) (p : ℕ) → asked_bytes size a n p ≡ present (asked_nullable size a n p)
bytes_present size (pos a) (pos n) p = go (leb (a + n) size)
  where
    x : Span
    x = record { start = a; len = n }

    go : (b : Bool) → pick b (ok x p) (no 21) ≡ present (map_step some (pick b (ok x p) (no 21)))
    go true = refl
    go false = refl
bytes_present size (pos a) (negsuc zero) p = go (eqb a 0)
  where
    go : (b : Bool) → no 21 ≡ present (pick b (ok none p) (no 21))
    go true = refl
    go false = refl
bytes_present size (pos a) (negsuc (suc k)) p = refl
bytes_present size (negsuc k) n p = refl

module _ (size : ℕ) (a n : ℤ) (f : SFits w64 a) (g : SFits w64 n) where
  asked_is : {x : Step ℕ (Option Span)} → x ≡ asked_nullable size (to_z w64 (of_z w64 a)) (to_z w64 (of_z w64 n)) 0
      → present x ≡ asked_bytes size a n 0
  asked_is e = ap present (rw (to_z-of_z w64 a f, to_z-of_z w64 n g) at e) ∙ sym (bytes_present size a n 0)

  pub bytes_wrong : (k : ℕ) → no k ≡ asked_nullable size (to_z w64 (of_z w64 a)) (to_z w64 (of_z w64 n)) 0 → no k ≡ asked_bytes size a n 0
  bytes_wrong k e = asked_is e

  pub bytes_got : (x : std.Option declared.Span) (r : std.Result declared.Span WriteFault)
      → ok (span_of x) 0 ≡ asked_nullable size (to_z w64 (of_z w64 a)) (to_z w64 (of_z w64 n)) 0 → r ≡ ok_or x WriteFault.Row
      → view_answer 0 span_as_read r ≡ asked_bytes size a n 0
  bytes_got None r e h = ap (view_answer 0 span_as_read) h ∙ asked_is e
  bytes_got (Some y) r e h = ap (view_answer 0 span_as_read) h ∙ asked_is e

-- ---- first header row and header count

module _ (rows first : ℕ) (a n : ℤ) where
  pub named_below : SFits w64 a → lt_z (to_z w64 (of_z w64 a)) (pos 0) ≡ true → no 21 ≡ asked_count rows first a n 0
  named_below f h = rw (below_0 a f h).1 refl

  module _ (named : ℕ) (from : a ≡ pos named) where
    pub count_below : SFits w64 n → lt_z (to_z w64 (of_z w64 n)) (pos 0) ≡ true → no 21 ≡ asked_count rows first a n 0
    count_below f h = rw (from, (below_0 n f h).1) refl

    module _ (count : ℕ) (many : n ≡ pos count) where
      pub not_running_on : (named ≡ first → ⊥) → no 21 ≡ asked_count rows first a n 0
      not_running_on h = rw (from, many) (rw (ne_eqb named first h) refl)

      module _ (on : named ≡ first) where
        too_many : rows < first + count → no 21 ≡ asked_count rows first a n 0
        too_many h = rw (from, many) (rw (eq-eqb named first on, lt-leb (first + count) rows h) refl)

        pub count_outside : rows < count → no 21 ≡ asked_count rows first a n 0
        count_outside h = too_many (omega (arith, h))

        pub count_past : count ≤ rows → rows - count < first → no 21 ≡ asked_count rows first a n 0
        count_past within h = too_many (omega (arith, h, within))

        pub count_asked : count ≤ rows → first ≤ rows - count → ok count 0 ≡ asked_count rows first a n 0
        count_asked within h = rw (from, many) (rw (eq-eqb named first on, le-leb (first + count) rows (omega (arith, h, within))) refl)

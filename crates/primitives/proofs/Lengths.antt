-- What the methods that read a length, and bytes after it, return: by the sign of the number, by whether it is -1, and
-- by whether the bytes are there. The premises have the form in which a proof finds them. Assumes nothing.
use Rattle.std.proofs.Common.{◌≡◌, ℕ, zero, suc, ◌+◌, ◌-◌, ◌<◌, ◌≤◌, Bool, true, false, List, length, ℤ, pos, negsuc, nat_abs, sym, ap, ◌∙◌, arith, w32, SFits, to_z, of_z, le-leb}
use mathlib.Core.Option.{none, some}
use borrow.Author.Tests.{lt-leb}
use lib.Signed.{le_z}
use mir.ValLaws.{to_z-of_z}
use Rattle.numbers.proofs.Signs.{nonnegative, negative}
use Rattle.primitives.specs.Step.{ok, no}
use Rattle.primitives.specs.Reading.{varint_at, length_of, length_at, span_of, span_at}
use Rattle.primitives.proofs.Moves.{length_moves}

-- ---- the number -1 is the one whose bits are all ones
all_ones : (z : ℤ) → SFits w32 z → of_z w32 z ≡ 4294967295 → z ≡ negsuc 0
all_ones z f e = sym (to_z-of_z w32 z f) ∙ ap (to_z w32) e

null : (z : ℤ) (p : ℕ) (nullable : Bool) → z ≡ negsuc 0 → nullable ≡ true → ok none p ≡ length_of nullable z p
null z p nullable e f = rw (e, f)

-- ---- a negative number that is not null
no_null : (z : ℤ) (k p : ℕ) (nullable : Bool) → negsuc k ≡ z → nullable ≡ false → no 10 ≡ length_of nullable z p
no_null z zero p nullable e f = rw (← e, f)
no_null z (suc k) p nullable e f = rw (← e)

below_null : (z : ℤ) (k p : ℕ) (nullable : Bool) → negsuc k ≡ z → (of_z w32 z ≡ 4294967295 → ⊥) → no 10 ≡ length_of nullable z p
below_null z zero p nullable e f = absurd (f (ap (of_z w32) (sym e)))
below_null z (suc k) p nullable e f = rw (← e)

module _ (nullable : Bool) (s : List ℕ) (at : ℕ) (z : ℤ) (p : ℕ) (e : ok z p ≡ varint_at 32 s at) (fits : SFits w32 z) where
  length_of_lem : length_of nullable z p ≡ length_at nullable s at
  unfolding length_at
  length_of_lem = rw (← e)

  pub length_got : le_z (pos 0) (to_z w32 (of_z w32 z)) ≡ true → ok (some (nat_abs (to_z w32 (of_z w32 z)))) p ≡ length_at nullable s at
  length_got t = ap (λ (y : ℤ). length_of nullable y p) (nonnegative w32 z fits t).is ∙ length_of_lem

  pub length_null : of_z w32 z ≡ 4294967295 → nullable ≡ true → ok none p ≡ length_at nullable s at
  length_null t u = null z p nullable (all_ones z fits t) u ∙ length_of_lem

  pub length_not_null : le_z (pos 0) (to_z w32 (of_z w32 z)) ≡ false → nullable ≡ false → no 10 ≡ length_at nullable s at
  length_not_null t u = no_null z _ p nullable (negative w32 z fits t).is u ∙ length_of_lem

  pub length_below : le_z (pos 0) (to_z w32 (of_z w32 z)) ≡ false → (of_z w32 z ≡ 4294967295 → ⊥) → no 10 ≡ length_at nullable s at
  length_below t u = below_null z _ p nullable (negative w32 z fits t).is u ∙ length_of_lem

module _ (nullable : Bool) (s : List ℕ) (at p : ℕ) where
  pub span_null : ok none p ≡ length_at nullable s at → ok none p ≡ span_at nullable s at
  unfolding span_at
  span_null e = rw (← e)

  module _ (len : ℕ) (e : ok (some len) p ≡ length_at nullable s at) where
    span_of_lem : span_of s (some len) p ≡ span_at nullable s at
    unfolding span_at
    span_of_lem = rw (← e)

    pub span_starts : p ≤ length s
    span_starts = (length_moves nullable s at (sym e)).1

    pub span_past : length s - p < len → no 8 ≡ span_at nullable s at
    span_past h = rw (lt-leb (p + len) (length s) (omega arith)) at span_of_lem

    pub span_got : len ≤ length s - p → ok (some (record { start = p; len = len })) (p + len) ≡ span_at nullable s at
    span_got h = rw (le-leb (p + len) (length s) (omega (arith, span_starts))) at span_of_lem

-- Sums of signed numbers as the machine makes them: where they fit, and what they then are. By cases on the signs.
-- Assumes nothing.
use Prim.Native.Nat.{ℕ, suc, ◌≤◌, ◌^◌}
use mathlib.Core.Path.{◌≡◌, refl, sym, ap, ◌∙◌}
use mathlib.Core.Bool.{Bool, true, false}
use mathlib.Core.Option.{none, some}
use native.Mathlib.Omega.{arith}
use native.Mathlib.Decide.{dec_lt}
use borrow.Author.Tests.{lt-ltb, le-ltb}
use lib.Dec.{lit≤}
use lib.IntN.{ℤ, pos, negsuc, ◌+ℤ◌}
use mir.Syntax.{w32, w64}
use mir.Val.{SFits, to_z, of_z}
use mir.ValLaws.{to_z-of_z}
use Rattle.std.proofs.Common as std
use Rattle.std.proofs.Common.{Some, None, SomeIff}
use Rattle.numbers.specs.Format.{in_bits}
use Rattle.numbers.specs.Pick.{pick}
use Rattle.numbers.proofs.InBits.{test_in, tested_in, in_bits_lem}
use Rattle.numbers.proofs.Signs.{widen_fits, widen_back}
use Rattle.layout.specs.Table.{uncounted}
use Rattle.layout.specs.Time.{view_time}

-- ---- 12 and batchLength

sum_fits : (k : ℕ) → k ≤ 2 ^ 32 → (n : ℤ) → SFits w32 n → SFits w64 (pos k +ℤ n)
sum_fits k h (pos m) f = record { sfits = omega (arith, f.sfits) }
sum_fits k h (negsuc j) f =
    elim (dec_lt k (suc j)) [
      | yes l ↦ rw (lt-ltb k (suc j) l) (record { sfits = omega (arith, f.sfits) })
      | no l ↦ rw (le-ltb k (suc j) (omega arith)) (record { sfits = omega (arith, f.sfits) })
    ]

module _ (n : ℤ) (f : SFits w32 n) where
  wide_is : to_z w64 (of_z w64 (to_z w32 (of_z w32 n))) ≡ n
  wide_is = widen_back w32 w64 n (omega arith) f

  pub total_widens : SFits w64 (to_z w32 (of_z w32 n))
  total_widens = widen_fits w32 w64 n (omega arith) f

  pub total_fits : (k : ℕ) → k ≤ 2 ^ 32 → SFits w64 (pos k +ℤ to_z w64 (of_z w64 (to_z w32 (of_z w32 n))))
  total_fits k h = rw wide_is (sum_fits k h n f)

  pub total_back : to_z w64 (of_z w64 (pos uncounted +ℤ to_z w64 (of_z w64 (to_z w32 (of_z w32 n))))) ≡ pos uncounted +ℤ n
  total_back = rw wide_is (to_z-of_z w64 (pos uncounted +ℤ n) (sum_fits uncounted (lit≤ tt) n f))

-- ---- the time of a record

told : (z : ℤ) (r : std.Option ℤ) → SomeIff r (SFits w64 z) z → view_time r ≡ pick (in_bits 64 z) (some z) none
told z (Some t) (fits, same) = ap some same ∙ ap (λ (b : Bool). pick b (some z) none) (sym (test_in 64 z (in_bits_lem w64 z fits.sfits)))
told z None beyond = go (in_bits 64 z) refl
  where
    of_64 : (z : ℤ) → in_bits 64 z ≡ true → SFits w64 z
    of_64 (pos n) e = record { sfits = tested_in 64 (pos n) e }
    of_64 (negsuc k) e = record { sfits = tested_in 64 (negsuc k) e }

    go : (b : Bool) → in_bits 64 z ≡ b → none ≡ pick b (some z) none
    go true e = absurd (beyond (of_64 z e))
    go false e = refl

pub time_is : (first delta : ℤ) → SFits w64 first → SFits w64 delta → (r : std.Option ℤ)
    → SomeIff r (SFits w64 (to_z w64 (of_z w64 first) +ℤ to_z w64 (of_z w64 delta))) (to_z w64 (of_z w64 first) +ℤ to_z w64 (of_z w64 delta))
    → view_time r ≡ pick (in_bits 64 (first +ℤ delta)) (some (first +ℤ delta)) none
time_is first delta f g r h = told (first +ℤ delta) r (rw (to_z-of_z w64 first f, to_z-of_z w64 delta g) at h)

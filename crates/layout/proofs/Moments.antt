-- The time of a record is the sum, or none, by the test of the sum. Assumes nothing.
use Prim.Native.Nat.{ℕ}
use mathlib.Core.Path.{◌≡◌, refl, sym, ◌∙◌, subst}
use mathlib.Core.Bool.{Bool, true, false, true≢false}
use mathlib.Core.Option.{none, some}
use native.Mathlib.Omega.{arith}
use lib.IntN.{ℤ, ◌+ℤ◌}
use Rattle.numbers.specs.Exactly.{Exactly}
use Rattle.numbers.specs.Format.{InBits, in_bits}
use Rattle.numbers.specs.Pick.{pick}
use Rattle.numbers.proofs.InBits.{test_in, tested_in}
use Rattle.layout.specs.Time.{record_time}
use Rattle.layout.specs.Statements.{RecordTimes}

module _ (z : ℤ) where
  time_told : (b : Bool) → in_bits 64 z ≡ b → (t : ℤ) → Exactly (pick b (some z) none ≡ some t) ((t ≡ z) × InBits 64 t)
  time_told true e t =
      (λ w. let same : t ≡ z = cc in (same, subst (InBits 64) (sym same) (tested_in 64 z e)), λ (same, h). cc)
  time_told false e t = (
    λ w. let y : ◌≡◌ {A = ℕ} 0 1 = cc in absurd (omega arith),
    λ (same, h). absurd (true≢false (sym (test_in 64 z (subst (InBits 64) same h)) ∙ e)),
  )

  none_told : (b : Bool) → in_bits 64 z ≡ b → Exactly (pick b (some z) none ≡ none) (InBits 64 z → ⊥)
  none_told true e = (λ w. let y : ◌≡◌ {A = ℕ} 0 1 = cc in absurd (omega arith), λ h. absurd (h (tested_in 64 z e)))
  none_told false e = (λ w h. true≢false (sym (test_in 64 z h) ∙ e), λ h. refl)

pub record_times : RecordTimes
unfolding record_time
record_times x delta = (time_told (x.first_timestamp +ℤ delta) _ refl, none_told (x.first_timestamp +ℤ delta) _ refl)

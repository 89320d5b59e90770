-- Of the ways that the tests before the marker or the records can go, those that refuse by a number from 8 on are the
-- two in which the list ends too early. Assumes nothing.
use Prim.Native.Nat.{ℕ, ◌+◌, ◌≤◌}
use mathlib.Core.Path.{subst}
use mathlib.Core.Logic.{inl, inr}
use mathlib.Core.List.{List}
use native.Mathlib.Omega.{arith}
use native.Mathlib.Decide.{dec_lt}
use lib.ListN.{length}
use Rattle.primitives.specs.Step.{no}
use Rattle.opening.specs.Faults.{FixedWrong}
use Rattle.opening.specs.Statements.{OpenedFaults}
use Rattle.opening.proofs.Tests.{Openings, no_attributes, unknown_codec, no_fields, low_count, compressed, wrong_count, opening_is, openings}

module _ (s : List ℕ) (at : ℕ) where
  fixed_wrong : {n : ℕ} → Openings s at (no n) → 8 ≤ n → FixedWrong s at n
  fixed_wrong (no_attributes h) l = FixedWrong.past (inl h)
  fixed_wrong (no_fields h f g) l = FixedWrong.past (inr (g, f))
  fixed_wrong (unknown_codec h f) l = absurd (omega arith)
  fixed_wrong (low_count h f e) l = absurd (omega arith)
  fixed_wrong (compressed h d f w) l = absurd (omega arith)
  fixed_wrong (wrong_count h d t w f) l = absurd (omega arith)

  fixed_opening : {n : ℕ} → FixedWrong s at n → Openings s at (no n)
  fixed_opening (FixedWrong.past (inl h)) = no_attributes h
  fixed_opening (FixedWrong.past (inr (h, f))) =
      elim (dec_lt (length s) (at + 23)) [
        | yes l ↦ no_attributes l
        | Dec.no l ↦ no_fields (omega arith) f h
      ]

pub opened_faults : OpenedFaults
opened_faults s at n l = (
  λ e. fixed_wrong s at (subst (Openings s at) e (openings s at)) l,
  λ x. opening_is s at (no n) (fixed_opening s at x),
)

-- What the opening of a batch returns: by the checksum, and then by the fields under it. The premises have the form in
-- which a proof finds them. Assumes nothing.
use Prim.Native.Nat.{ℕ, ◌+◌, ◌-◌, ◌≤◌}
use mathlib.Core.Path.{◌≡◌, sym, ap, ◌∙◌}
use mathlib.Core.Bool.{true, false}
use mathlib.Core.List.{List}
use native.Mathlib.Omega.{arith}
use lib.Dec.{eqb}
use lib.IntN.{ℤ}
use lib.ListN.{length, take, drop, length-drop}
use lib.Seq.{take_all}
use Rattle.primitives.specs.Step.{ok, no}
use Rattle.primitives.specs.Reading.{unsigned_at}
use Rattle.primitives.proofs.Values.{unsigned_value, unsigned_past}
use Rattle.crc32c.specs.Crc.{crc32c}
use Rattle.layout.specs.Table.{table}
use Rattle.opening.specs.Judgement.{unsigned_in}
use Rattle.opening.specs.Opening.{checked_at, opening_at}
use Rattle.opening.proofs.Checked.{checked_is_lem}

-- ---- the checksum

module _ (s : List ℕ) (at : ℕ) where
  pub crc_there : {n : ℕ} → no n ≡ unsigned_at 4 s (at + 17) → at + 21 ≤ length s
      → false ≡ eqb (unsigned_in table.crc s at) (crc32c (drop (at + 21) s))
  crc_there e h = absurd (omega (arith, unsigned_past 4 s (at + 17) (sym e)))

  pub sums_compare : (x next : ℕ) → ok x next ≡ unsigned_at 4 s (at + 17) → (from : ℕ) → from ≡ at + 21 → (n : ℕ)
      → n ≡ crc32c (take (length s - from) (drop from s)) → eqb x n ≡ eqb (unsigned_in table.crc s at) (crc32c (drop (at + 21) s))
  sums_compare x next e from w n g =
      let (crc, end, within) = unsigned_value 4 s (at + 17) (sym e) in
      let rest = take_all (length s - from) (drop from s) (simp length-drop (omega arith)) ∙ ap (λ (p : ℕ). drop p s) w in
      λ i. eqb (sym crc i) ((g ∙ ap crc32c rest) i)

-- what `checksum_holds` is proved by
pub ruleset sums = (crc_there, sums_compare)

-- ---- the opening

module _ (base epoch : ℤ) (s : List ℕ) (at : ℕ) where
  pub opens_on : true ≡ eqb (unsigned_in table.crc s at) (crc32c (drop (at + 21) s)) → (p : ℕ) → p ≡ at + 21
      → checked_at base epoch s p ≡ opening_at base epoch s at
  unfolding opening_at
  opens_on e p q = ap (checked_at base epoch s) q ∙ checked_is_lem base epoch s at ∙ rw (← e)

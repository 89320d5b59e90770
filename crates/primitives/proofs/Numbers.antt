-- What the methods that read a number of varying length return, over the width: the code that was read, turned back to
-- its number. The premises have the form in which a proof finds them. Assumes nothing.
use Rattle.std.proofs.Common.{◌≡◌, ℕ, ◌^◌, ◌<◌, List, get_or, ℤ, sym, ap, ◌∙◌, w8, Fits, to_z, of_z}
use lib.Signed.{mag}
use mir.Syntax.{Width}
use mir.Val.{hbits}
use mir.ValLaws.{to_z-of_z}
use Rattle.primitives.specs.Step.{ok, map_step}
use Rattle.primitives.specs.Reading.{code_at, full, limit, unzigzag, varint_at}
use Rattle.primitives.proofs.Codes.{code_below}
use Rattle.primitives.proofs.Varints.{width_holds, limit_some}

module _ (w : ℕ) (s : List ℕ) (at c q : ℕ) (e : ok c q ≡ code_at (full w) (limit w) s at) where
  pub code_fits : ((i : ℕ) → Fits w8 (get_or s i 0)) → c < 2 ^ w
  code_fits bytes = rw (← width_holds w) (code_below (limit w) s (λ i. (bytes i).fits) (limit_some w) (full w) at (sym e))

  -- the number lies in a type of v bits
  pub number_got : (v : Width) (n : ℤ) → mag n < 2 ^ hbits v → n ≡ unzigzag c → ok (to_z v (of_z v n)) q ≡ varint_at w s at
  unfolding varint_at
  number_got v n fits g =
      ap (λ (z : ℤ). ok z q) (to_z-of_z v n (record { sfits = fits }) ∙ g) ∙ ap (map_step unzigzag) e

-- The zigzag and its inverse, by the code's parity: a code is twice the number's size, or one more where it is
-- negative. Assumes nothing.
use Rattle.std.proofs.Common.{◌≡◌, ℕ, ◌+◌, ◌*◌, ◌/◌, ◌%◌, pos, negsuc, ap, arith, eq-eqb, ne_eqb}
use native.Mathlib.Decide.{dec_lt}
use Rattle.primitives.specs.Reading.{unzigzag}
use Rattle.primitives.specs.Statements.{ZigzagBack, ZigzagAgain}

even_is : (c : ℕ) → c % 2 ≡ 0 → unzigzag c ≡ pos (c / 2)
unfolding unzigzag
even_is c h = simp (eq-eqb (c % 2) 0 h)

odd_is : (c : ℕ) → c % 2 ≡ 1 → unzigzag c ≡ negsuc (c / 2)
unfolding unzigzag
odd_is c h = simp (ne_eqb (c % 2) 0 (omega arith))

pub zigzag_back : ZigzagBack
zigzag_back (pos n) = rw (even_is (2 * n) (omega arith)) (ap pos (omega arith))
zigzag_back (negsuc k) = rw (odd_is (2 * k + 1) (omega arith)) (ap negsuc (omega arith))

pub zigzag_again : ZigzagAgain
zigzag_again c =
    elim (dec_lt (c % 2) 1) [
      | yes h ↦ rw (even_is c (omega arith)) (omega arith)
      | no g ↦ rw (odd_is c (omega arith)) (omega arith)
    ]

-- What the reading of an integer says of the bytes there: they are within the list, and the integer is their number; or
-- they run past its end. And the other way. Assumes nothing.
use Rattle.std.proofs.Common.{◌≡◌, ℕ, ◌+◌, ◌-◌, ◌*◌, ◌^◌, ◌<◌, ◌≤◌, leb, List, length, ℤ, sym, ap, ◌∙◌, arith, leb-false, leb-true}
use Rattle.primitives.specs.Step.{ok, no, map_step}
use Rattle.primitives.specs.Reading.{big, unsigned_at, signed_by, integer_at}
use Rattle.primitives.proofs.Integers.{unsigned_in_lem, unsigned_out}
use Rattle.primitives.proofs.Picks.{pick_no}
use Rattle.primitives.proofs.Steps.{pick_ok, map_ok, map_no}

module _ (n : ℕ) (s : List ℕ) (p : ℕ) where
  pub unsigned_value : {v q : ℕ} → unsigned_at n s p ≡ ok v q → (big n s p ≡ v) × (q ≡ p + n) × (p + n ≤ length s)
  unfolding unsigned_at
  unsigned_value e =
      let (t, v, q) = pick_ok (leb (p + n) (length s)) (big n s p) (p + n) 8 e in
      (v, sym q, leb-true (p + n) (length s) t)

  pub unsigned_past : {m : ℕ} → unsigned_at n s p ≡ no m → length s < p + n
  unfolding unsigned_at
  unsigned_past e = leb-false (p + n) (length s) (pick_no (leb (p + n) (length s)) (big n s p) (p + n) 8 e).0

  pub integer_value : {z : ℤ} {q : ℕ} → integer_at n s p ≡ ok z q → (signed_by (2 ^ (8 * n - 1)) (big n s p) ≡ z) × (q ≡ p + n) × (p + n ≤ length s)
  unfolding integer_at
  integer_value e =
      let (v, there, is) = map_ok (signed_by (2 ^ (8 * n - 1))) (unsigned_at n s p) e in
      let (value, end, within) = unsigned_value there in
      (ap (signed_by (2 ^ (8 * n - 1))) value ∙ is, end, within)

  pub integer_past : {m : ℕ} → integer_at n s p ≡ no m → length s < p + n
  unfolding integer_at
  integer_past e = unsigned_past (map_no (signed_by (2 ^ (8 * n - 1))) (unsigned_at n s p) e)

-- the same the other way
module _ (n : ℕ) (s : List ℕ) (p q : ℕ) (e : q ≡ p + n) where
  pub unsigned_there : q ≤ length s → unsigned_at n s p ≡ ok (big n s p) q
  unsigned_there h = unsigned_in_lem n s p (omega arith) ∙ ap (ok (big n s p)) (sym e)

  pub integer_there : q ≤ length s → integer_at n s p ≡ ok (signed_by (2 ^ (8 * n - 1)) (big n s p)) q
  unfolding integer_at
  integer_there h = ap (map_step (signed_by (2 ^ (8 * n - 1)))) (unsigned_there h)

  pub unsigned_gone : length s < q → unsigned_at n s p ≡ no 8
  unsigned_gone h = unsigned_out n s p (omega arith)

  pub integer_gone : length s < q → integer_at n s p ≡ no 8
  unfolding integer_at
  integer_gone h = ap (map_step (signed_by (2 ^ (8 * n - 1)))) (unsigned_gone h)

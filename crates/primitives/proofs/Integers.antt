-- A number below 256^n is n bytes in one way only, the highest first, since each byte is a digit; of these numbers the
-- upper half are the negative ones. Assumes nothing.
use Rattle.std.proofs.Common.{◌≡◌, ℕ, zero, suc, ◌+◌, ◌-◌, ◌*◌, ◌/◌, ◌%◌, ◌^◌, ◌<◌, ◌≤◌, leb, List, length, get_or, ℤ, pos, negsuc, sym, refl, ap, ◌∙◌, subst, add-zero, add_assoc, add-suc, mod-eq_of_lt, mul_assoc, mul_comm, add_comm, arith, le-ltb, lt-ltb, le-leb, leb-true}
use native.Mathlib.Decide.{dec_lt}
use native.Mathlib.Nat.{pow-succ', mod-one, one-le-pow, add-mul-div_right, div-eq_of_lt}
use borrow.Author.Tests.{lt-leb}
use lib.Arith.{mod-mul}
use Rattle.numbers.specs.Bytes.{Bytes}
use Rattle.numbers.specs.Format.{big_endian, complement, InBits, Unsigned}
use Rattle.numbers.proofs.Integers.{big_endian_length, big_endian_low, bytes_are_bits, twice, complement_below}
use Rattle.primitives.specs.Step.{ok, no}
use Rattle.primitives.specs.Stands.{Stands}
use Rattle.primitives.specs.Reading.{big, unsigned_at, signed_by, integer_at}
use Rattle.primitives.specs.Statements.{UnsignedSound, UnsignedComplete, IntegerSound, IntegerComplete}
use Rattle.primitives.proofs.Places.{nothing, one, joined, byte, after}
use Rattle.primitives.proofs.Steps.{map_ok, pick_ok}

-- ---- bytes as one number

pub big_split : (j k : ℕ) (s : List ℕ) (at : ℕ) → big (j + k) s at ≡ 256 ^ k * big j s at + big k s (at + j)
unfolding big
big_split j zero s at = rw (add-zero j) (omega arith)
big_split j (suc k) s at =
    rw (add-suc j k, pow-succ' 256 k, mul_assoc 256 (256 ^ k) (big j s at))
    (omega (arith, big_split j k s at, ap (λ (i : ℕ). get_or s i 0) (add_assoc at j k)))

pub big_one : (s : List ℕ) (at : ℕ) → big 1 s at ≡ get_or s at 0
unfolding big
big_one s at = omega (arith, ap (λ (i : ℕ). get_or s i 0) (add-zero at))

-- the first byte and the others
big_first : (k : ℕ) (s : List ℕ) (at : ℕ) → big (suc k) s at ≡ big k s (at + 1) + get_or s at 0 * 256 ^ k
big_first k s at =
    let e : suc k ≡ 1 + k = omega arith in
    rw (e, big_split 1 k s at, big_one, mul_comm (256 ^ k) (get_or s at 0)) (omega arith)

pub big_below : (n : ℕ) (s : List ℕ) (at : ℕ) → Bytes s → big n s at < 256 ^ n
unfolding big
big_below zero s at h = omega arith
big_below (suc k) s at h = rw pow-succ' (omega (arith, big_below k s at h, h (at + k)))

-- ---- a number as bytes

first_digit : (k x b : ℕ) → x < 256 ^ k → b < 256 → (x + b * 256 ^ k) / 256 ^ k % 256 ≡ b
first_digit k x b h l = rw (add-mul-div_right x b (one-le-pow k 256 (omega arith)), div-eq_of_lt h) (omega arith)

-- what is read stands there
big_stands : (n : ℕ) (s : List ℕ) (p : ℕ) → Bytes s → p + n ≤ length s → Stands s p (p + n) (big_endian n (big n s p))
unfolding big_endian
big_stands zero s p b h = rw add-zero (nothing s p (omega arith))
big_stands (suc k) s p b h =
    let e : p + suc k ≡ p + 1 + k = omega arith in
    let d = first_digit k (big k s (p + 1)) (get_or s p 0) (big_below k s (p + 1) b) (b p) in
    rw (big_first, d, big_endian_low k (get_or s p 0) (big k s (p + 1)), e)
    (joined (one s p (omega arith)) (big_stands k s (p + 1) b (omega arith)))

-- what stands there is read
stands_big : (n : ℕ) {s : List ℕ} {p q : ℕ} (v : ℕ) → Stands s p q (big_endian n v) → big n s p ≡ v % 256 ^ n
unfolding big_endian big
stands_big zero v x = sym (mod-one v)
stands_big (suc k) {s} {p} v x =
    let h = mod-mul v {m = 256} {c = 256 ^ k} (omega arith) (one-le-pow k 256 (omega arith)) in
    big_first k s p ∙ rw (byte x, stands_big k v (after x), pow-succ' 256 k, h) (add_comm _ _)

-- ---- unsigned integers

pub unsigned_in_lem : (n : ℕ) (s : List ℕ) (at : ℕ) → at + n ≤ length s → unsigned_at n s at ≡ ok (big n s at) (at + n)
unfolding unsigned_at
unsigned_in_lem n s at h = simp (le-leb (at + n) (length s) h)

pub unsigned_out : (n : ℕ) (s : List ℕ) (at : ℕ) → length s < at + n → unsigned_at n s at ≡ no 8
unfolding unsigned_at
unsigned_out n s at h = simp (lt-leb (at + n) (length s) h)

pub unsigned_sound : UnsignedSound
unfolding unsigned_at
unsigned_sound n s p v q b e =
    let w = pick_ok (leb (p + n) (length s)) (big n s p) (p + n) 8 e in
    rw (← w.1, ← w.2)
    (record {
      bytes = big_endian n (big n s p);
      stands = big_stands n s p b (leb-true (p + n) (length s) w.0);
      encodes = record { is = refl; fits = big_below n s p b };
    })

pub unsigned_complete : UnsignedComplete
unsigned_complete n s p q bs v x u =
    let y = subst (Stands s p q) u.is x in
    let e : q ≡ p + n = omega (arith, y.end, big_endian_length n v) in
    rw (unsigned_in_lem n s p (omega (arith, x.within)), stands_big n v y, mod-eq_of_lt u.fits, e)

-- ---- signed integers

pub signed_low : (half v : ℕ) → v < half → signed_by half v ≡ pos v
unfolding signed_by
signed_low half v h = simp (lt-ltb v half h)

pub signed_high : (half v : ℕ) → half ≤ v → signed_by half v ≡ negsuc (2 * half - suc v)
unfolding signed_by
signed_high half v h = simp (le-ltb v half h)

-- what holds of both halves
signed_either : (P : ℤ → Type 0) (half v : ℕ) → (v < half → P (pos v)) → (half ≤ v → P (negsuc (2 * half - suc v))) → P (signed_by half v)
signed_either P half v low high =
    elim (dec_lt v half) [
      | yes h ↦ rw (signed_low half v h) (low h)
      | Dec.no h ↦ let l : half ≤ v = omega arith in rw (signed_high half v l) (high l)
    ]

pub signed_of_complement : (w : ℕ) (z : ℤ) → 0 < w → InBits w z → signed_by (2 ^ (w - 1)) (complement w z) ≡ z
signed_of_complement w (pos n) h b = signed_low (2 ^ (w - 1)) n b
signed_of_complement w (negsuc k) h b =
    let e = twice w h in
    signed_high (2 ^ (w - 1)) (2 ^ w - suc k) (omega arith) ∙ ap negsuc (omega arith)

module _ (w v : ℕ) (h : 0 < w) (l : v < 2 ^ w) where
  pub complement_of_signed : complement w (signed_by (2 ^ (w - 1)) v) ≡ v
  complement_of_signed = signed_either (λ z. complement w z ≡ v) (2 ^ (w - 1)) v (λ a. refl) (λ a. omega (arith, twice w h))

  pub signed_in_bits : InBits w (signed_by (2 ^ (w - 1)) v)
  signed_in_bits = signed_either (InBits w) (2 ^ (w - 1)) v (λ a. a) (λ a. omega (arith, twice w h))

pub integer_sound : IntegerSound
unfolding integer_at
integer_sound n s p z q h b e =
    let w = map_ok (signed_by (2 ^ (8 * n - 1))) (unsigned_at n s p) e in
    let x = unsigned_sound n s p w.0 q b w.1 in
    let l : 0 < 8 * n = omega arith in
    let f = rw bytes_are_bits at x.encodes.fits in
    rw (← w.2)
    (record {
      bytes = x.bytes;
      stands = x.stands;
      encodes = record { is = rw (complement_of_signed (8 * n) w.0 l f) x.encodes.is; fits = signed_in_bits (8 * n) w.0 l f };
    })

pub integer_complete : IntegerComplete
unfolding integer_at
integer_complete n s p q bs z h x i =
    let l : 0 < 8 * n = omega arith in
    let u : Unsigned n bs (complement (8 * n) z) = record { is = i.is; fits = rw bytes_are_bits (complement_below (8 * n) z l i.fits) } in
    rw (unsigned_complete n s p q bs (complement (8 * n) z) x u, signed_of_complement (8 * n) z l i.fits)

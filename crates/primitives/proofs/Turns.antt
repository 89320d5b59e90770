-- A turn of the loop that reads a code: the code is v and p times what is still to be read, and p times the largest
-- that can still come fits 64 bits. Assumes nothing.
use Rattle.std.proofs.Common.{◌≡◌, ℕ, suc, ◌+◌, ◌-◌, ◌*◌, ◌^◌, ◌<◌, ◌≤◌, List, length, get_or, sym, refl, ap, ◌∙◌, add_assoc, mul_assoc, mul-le-mul, mul-le-mul_left, one-mul, mul-add, arith, ltb, ltb-true, ltb-false, nat_lt, true, false, w8, Fits}
use native.Mathlib.Nat.{one-le-pow, pow-succ'}
use Rattle.std.proofs.lemmas.List.{get_or_default}
use Rattle.primitives.specs.Step.{Step, ok, no, map_step}
use Rattle.primitives.specs.Reading.{byte_at, code_at}
use Rattle.primitives.specs.Words.{Holds}
use Rattle.primitives.proofs.Picks.{pick_no}
use Rattle.primitives.proofs.Steps.{pick_ok}
use Rattle.primitives.proofs.Codes.{past_is, last_is, beyond_is, end_is, more_is}

-- ---- a byte that is there, or not

pub record Byte (s : List ℕ) (at b q : ℕ) : Type 0 where
  pub inside : at < length s
  pub is : b ≡ get_or s at 0
  pub next : q ≡ at + 1

pub byte_is : (s : List ℕ) (at b d : ℕ) → true ≡ nat_lt at (length s) → b ≡ get_or s at d → ok b (at + 1) ≡ byte_at s at
unfolding byte_at
byte_is s at b d t e =
    let same : get_or s at d ≡ get_or s at 0 = get_or_default s at d 0 (ltb-true at (length s) (sym t)) in
    rw (← t, e, same)

pub byte_is_not : (s : List ℕ) (at : ℕ) → false ≡ nat_lt at (length s) → no 8 ≡ byte_at s at
unfolding byte_at
byte_is_not s at t = rw (← t)

pub byte_there : (s : List ℕ) (at : ℕ) {b q : ℕ} → ok b q ≡ byte_at s at → Byte s at b q
unfolding byte_at
byte_there s at e =
    let (t, v, w) = pick_ok (ltb at (length s)) (get_or s at 0) (at + 1) 8 (sym e) in
    record { inside = ltb-true at (length s) t; is = sym v; next = sym w }

pub byte_gone : (s : List ℕ) (at : ℕ) {n : ℕ} → no n ≡ byte_at s at → (n ≡ 8) × (length s ≤ at)
unfolding byte_at
byte_gone s at e =
    let (t, m) = pick_no (ltb at (length s)) (get_or s at 0) (at + 1) 8 (sym e) in
    (sym m, ltb-false at (length s) t)

pub byte_below : (s : List ℕ) (at : ℕ) {b q : ℕ} → ((i : ℕ) → Fits w8 (get_or s i 0)) → ok b q ≡ byte_at s at → b < 256
byte_below s at bytes e = omega (arith, (byte_there s at e).is, (bytes at).fits)

-- v and p times a code
abbrev pub upon : ℕ → ℕ → Step ℕ ℕ → Step ℕ ℕ
upon v p = map_step (λ c. v + p * c)

pub record Reading (s : List ℕ) (start more limit v p at k : ℕ) : Type 0 where
  pub same : upon v p (code_at k limit s at) ≡ code_at more limit s start
  pub low : v < p
  pub some : 1 < limit
  pub room : p * (128 ^ k * limit) ≤ 2 ^ 64

upon_nothing : (x : Step ℕ ℕ) → upon 0 1 x ≡ x
upon_nothing (ok c q) = ap (λ (y : ℕ). ok y q) (omega arith)
upon_nothing (no n) = refl

upon_more : (v p b : ℕ) (x : Step ℕ ℕ) → upon v p (map_step (λ c. b - 128 + 128 * c) x) ≡ upon (v + p * (b - 128)) (p * 128) x
upon_more v p b (ok c q) =
    ap (λ (y : ℕ). ok y q)
    (ap (λ (y : ℕ). v + y) (mul-add p (b - 128) (128 * c))
    ∙ sym (add_assoc v (p * (b - 128)) (p * (128 * c)))
    ∙ ap (λ (y : ℕ). v + p * (b - 128) + y) (sym (mul_assoc p 128 c)))
upon_more v p b (no n) = refl

shift : (p j limit : ℕ) → p * (128 ^ suc j * limit) ≡ p * 128 * (128 ^ j * limit)
shift p j limit = rw (pow-succ' 128 j, mul_assoc 128 (128 ^ j) limit, ← mul_assoc p 128 (128 ^ j * limit))

pub begin : (s : List ℕ) (start more limit : ℕ) → Holds more limit → Reading s start more limit 0 1 start more
begin s start more limit r =
    record { same = upon_nothing (code_at more limit s start); low = omega arith; some = r.some; room = omega (arith, r.fits) }

module _ {s : List ℕ} {start more limit v p at k : ℕ} (i : Reading s start more limit v p at k) where
  -- the same, where k is known
  same_at : (j : ℕ) → k ≡ j → upon v p (code_at j limit s at) ≡ code_at more limit s start
  same_at j e = ap (λ (x : ℕ). upon v p (code_at x limit s at)) (sym e) ∙ i.same

  pub past : {n : ℕ} → no n ≡ byte_at s at → no n ≡ code_at more limit s start
  past {n} e =
      let (number, h) = byte_gone s at e in
      rw number (ap (upon v p) (sym (past_is k limit s at h)) ∙ i.same)

  module _ {b q : ℕ} (e : ok b q ≡ byte_at s at) where
    there : Byte s at b q
    there = byte_there s at e

    -- at least one byte may follow this one
    module _ (h : 0 < k) where
      one_less : k ≡ suc (k - 1)
      one_less = omega arith

      turn_room : p * 256 ≤ 2 ^ 64
      turn_room =
          let r : p * (128 ^ suc (k - 1) * limit) ≤ 2 ^ 64 = rw one_less at i.room in
          let q : 1 * 2 ≤ 128 ^ (k - 1) * limit = mul-le-mul (one-le-pow (k - 1) 128 (omega arith)) i.some in
          omega (arith, rw shift at r, mul-le-mul_left (p * 128) q)

      pub turn_fits : (x : ℕ) → x ≤ 127 → v + p * x < 2 ^ 64
      turn_fits x l = omega (arith, turn_room, i.low, mul-le-mul_left {m = x} {n = 127} p l)

      pub turn_grows : p * 128 < 2 ^ 64
      turn_grows = omega (arith, turn_room, i.low)

      pub ends : b < 128 → ok (v + p * b) q ≡ code_at more limit s start
      ends l =
          rw (there.is, there.next)
          (ap (upon v p) (sym (end_is limit s at there.inside (k - 1) (omega (arith, l, there.is)))) ∙ same_at (suc (k - 1)) one_less)

      pub again : 128 ≤ b → b < 256 → Reading s start more limit (v + p * (b - 128)) (p * 128) q (k - 1)
      again l u =
          record {
            same =
                rw (there.is, there.next)
                (sym (upon_more v p (get_or s at 0) (code_at (k - 1) limit s (at + 1)))
                ∙ ap (upon v p) (sym (more_is limit s at there.inside (k - 1) (omega (arith, l, there.is))))
                ∙ same_at (suc (k - 1)) one_less);
            low = omega (arith, i.low, mul-le-mul_left {m = b - 128} {n = 127} p (omega arith));
            some = i.some;
            room = rw (← shift p (k - 1) limit, ← one_less) i.room;
          }

    -- this byte is the last that may come
    module _ (h : k ≡ 0) where
      last_room : p * limit ≤ 2 ^ 64
      last_room = let r : p * (1 * limit) ≤ 2 ^ 64 = rw h at i.room in rw one-mul at r

      pub last_fits : b < limit → v + p * b < 2 ^ 64
      last_fits l = omega (arith, last_room, i.low, mul-le-mul_left {m = suc b} {n = limit} p l)

      pub lasts : b < limit → ok (v + p * b) q ≡ code_at more limit s start
      lasts l =
          rw (there.is, there.next)
          (ap (upon v p) (sym (last_is limit s at there.inside (omega (arith, l, there.is)))) ∙ same_at 0 h)

      pub beyond : limit ≤ b → no 9 ≡ code_at more limit s start
      beyond l = ap (upon v p) (sym (beyond_is limit s at there.inside (omega (arith, l, there.is)))) ∙ same_at 0 h

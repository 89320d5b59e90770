-- Reading a code and its groups of seven bits agree byte by byte: a byte with its top bit set is a group before the
-- last, any other is the last. Assumes nothing.
use Rattle.std.proofs.Common.{◌≡◌, ℕ, zero, suc, ◌+◌, ◌-◌, ◌*◌, ◌/◌, ◌%◌, ◌^◌, ◌<◌, ◌≤◌, List, ◌∷◌, length, get_or, sym, refl, ap, ◌∙◌, mul_assoc, mul-le-mul, arith, le-ltb, lt-ltb}
use native.Mathlib.Decide.{dec_lt}
use native.Mathlib.Nat.{one-le-pow, pow-succ'}
use Rattle.numbers.specs.Bytes.{Bytes}
use Rattle.numbers.specs.Format.{groups}
use Rattle.primitives.specs.Step.{Step, ok, map_step}
use Rattle.primitives.specs.Stands.{Stands}
use Rattle.primitives.specs.Reading.{byte_at, code_at}
use Rattle.primitives.proofs.Places.{one, here, byte, after, joined}

-- ---- what `code_at` is, by the tests

pub past_is : (k limit : ℕ) (s : List ℕ) (at : ℕ) → length s ≤ at → code_at k limit s at ≡ Step.no 8
unfolding code_at byte_at
past_is zero limit s at h = simp (le-ltb at (length s) h)
past_is (suc k) limit s at h = simp (le-ltb at (length s) h)

module _ (limit : ℕ) (s : List ℕ) (at : ℕ) (h : at < length s) where
  pub last_is : get_or s at 0 < limit → code_at zero limit s at ≡ ok (get_or s at 0) (at + 1)
  unfolding code_at byte_at
  last_is l = simp (lt-ltb at (length s) h, lt-ltb (get_or s at 0) limit l)

  pub beyond_is : limit ≤ get_or s at 0 → code_at zero limit s at ≡ Step.no 9
  unfolding code_at byte_at
  beyond_is l = simp (lt-ltb at (length s) h, le-ltb (get_or s at 0) limit l)

  pub end_is : (k : ℕ) → get_or s at 0 < 128 → code_at (suc k) limit s at ≡ ok (get_or s at 0) (at + 1)
  unfolding code_at byte_at
  end_is k l = simp (lt-ltb at (length s) h, lt-ltb (get_or s at 0) 128 l)

  pub more_is : (k : ℕ) → 128 ≤ get_or s at 0
      → code_at (suc k) limit s at ≡ map_step (λ c. get_or s at 0 - 128 + 128 * c) (code_at k limit s (at + 1))
  unfolding code_at byte_at
  more_is k l = simp (lt-ltb at (length s) h, le-ltb (get_or s at 0) 128 l)

-- ---- a code that is read stands there in groups, and is below its limits

pub record Code (k limit : ℕ) (s : List ℕ) (at c q : ℕ) : Type 0 where
  pub more : ℕ
  pub stands : Stands s at q (groups more c)
  pub short : more ≤ k
  pub whole : limit ≤ 128 → c < 128 ^ suc more
  pub below : 0 < limit → c < 128 ^ k * limit

abbrev CodeIn : ℕ → ℕ → List ℕ → ℕ → Step ℕ ℕ → Type 0
CodeIn k limit s at (ok c q) = Code k limit s at c q
CodeIn k limit s at (Step.no n) = Unit {0}

next : (k limit : ℕ) → 128 ^ suc k * limit ≡ 128 * (128 ^ k * limit)
next k limit = rw (pow-succ' 128 k, mul_assoc 128 (128 ^ k) limit)

room : (k : ℕ) {limit : ℕ} → 0 < limit → 128 ≤ 128 ^ suc k * limit
room k {limit} some = omega (arith, next k limit, mul-le-mul {n₁ = 1} {m₁ = 1} (one-le-pow k 128 (omega arith)) some)

groups_more : (m b c : ℕ) → 128 ≤ b → b < 256 → groups (suc m) (b - 128 + 128 * c) ≡ b ∷ groups m c
unfolding groups
groups_more m b c h l =
    let first : 128 + (b - 128 + 128 * c) % 128 ≡ b = omega arith in
    let rest : (b - 128 + 128 * c) / 128 ≡ c = omega arith in
    rw (first, rest)

module _ (limit : ℕ) (s : List ℕ) (bytes : Bytes s) where
  final : (k at : ℕ) → at < length s → (limit ≤ 128 → get_or s at 0 < 128) → (0 < limit → get_or s at 0 < 128 ^ k * limit)
      → Code k limit s at (get_or s at 0) (at + 1)
  unfolding groups
  final k at h w b = record { more = 0; stands = one s at h; short = omega arith; whole = w; below = b }

  longer : (k at : ℕ) → at < length s → 128 ≤ get_or s at 0 → (r : Step ℕ ℕ) → CodeIn k limit s (at + 1) r
      → CodeIn (suc k) limit s at (map_step (λ c. get_or s at 0 - 128 + 128 * c) r)
  longer k at h l (ok c q) t =
      record {
        more = suc t.more;
        stands = rw (groups_more t.more (get_or s at 0) c l (bytes at)) (joined (one s at h) t.stands);
        short = omega (arith, t.short);
        whole = λ cap. omega (arith, t.whole cap, bytes at, pow-succ' 128 (suc t.more));
        below = λ some. omega (arith, t.below some, bytes at, next k limit);
      }
  longer k at h l (Step.no n) t = tt

  unless_past : (k at : ℕ) → (at < length s → CodeIn k limit s at (code_at k limit s at)) → CodeIn k limit s at (code_at k limit s at)
  unless_past k at inside =
      elim (dec_lt at (length s)) [
        | yes h ↦ inside h
        | no g ↦ rw (past_is k limit s at (omega arith)) tt
      ]

  code_in : (k at : ℕ) → CodeIn k limit s at (code_at k limit s at)
  code_in zero at =
      unless_past zero at
      (λ h.
      elim (dec_lt (get_or s at 0) limit) [
        | yes l ↦ rw (last_is limit s at h l) (final zero at h (λ cap. omega arith) (λ some. omega arith))
        | no g ↦ rw (beyond_is limit s at h (omega arith)) tt
      ])
  code_in (suc k) at =
      unless_past (suc k) at
      (λ h.
      elim (dec_lt (get_or s at 0) 128) [
        | yes l ↦ rw (end_is limit s at h k l) (final (suc k) at h (λ cap. l) (λ some. omega (arith, room k some)))
        | no g ↦ rw (more_is limit s at h k (omega arith)) (longer k at h (omega arith) (code_at k limit s (at + 1)) (code_in k (at + 1)))
      ])

  pub code_sound : (k at : ℕ) {c q : ℕ} → code_at k limit s at ≡ ok c q → Code k limit s at c q
  code_sound k at e = rw e at (code_in k at)

  pub code_below : 0 < limit → (k at : ℕ) {c q : ℕ} → code_at k limit s at ≡ ok c q → c < 128 ^ k * limit
  code_below some k at e = (code_sound k at e).below some

-- ---- a code that stands there in groups is read

same_ok : {c d p q : ℕ} → c ≡ d → p ≡ q → ok c p ≡ ok d q
same_ok e f = cc

module _ (limit : ℕ) (s : List ℕ) where
  pub code_complete : (k at : ℕ) {q : ℕ} (more c : ℕ) → Stands s at q (groups more c) → more ≤ k → c < 128 ^ suc more → c < 128 ^ k * limit
      → code_at k limit s at ≡ ok c q
  unfolding groups
  code_complete zero at zero c x m w b = last_is limit s at (here x) (rw (byte x) (omega arith)) ∙ same_ok (byte x) (sym x.end)
  code_complete zero at (suc more) c x m w b = absurd (omega arith)
  code_complete (suc k) at zero c x m w b = end_is limit s at (here x) k (rw (byte x) w) ∙ same_ok (byte x) (sym x.end)
  code_complete (suc k) at (suc more) c x m w b =
      more_is limit s at (here x) k (rw (byte x) (omega arith))
      ∙ ap (map_step (λ d. get_or s at 0 - 128 + 128 * d))
      (code_complete k (at + 1) more (c / 128) (after x) (omega arith) (omega (arith, pow-succ' 128 (suc more))) (omega (arith, next k limit)))
      ∙ same_ok (omega (arith, byte x)) refl

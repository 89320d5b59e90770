-- The octets are the digits of the number, six bits in each tail: its size tells which row they are in, and the number
-- is made from them again. Assumes nothing.
use Prim.Native.Nat.{ℕ, ◌+◌, ◌-◌, ◌*◌, ◌/◌, ◌%◌, ◌≤◌, ◌<◌}
use mathlib.Core.Path.{◌≡◌, refl, sym, ap, ◌∙◌}
use mathlib.Core.Logic.{◌⊎◌, inl, inr}
use mathlib.Core.List.{List, [], ◌∷◌}
use native.Mathlib.Omega.{arith}
use borrow.Author.Tests.{lt-ltb, le-ltb}
use Rattle.utf8.specs.Grammar.{Within, Tail, Char, utf8_1, utf8_2, utf8_3_E0, utf8_3_E1, utf8_3_ED, utf8_3_EE, utf8_4_F0, utf8_4_F1, utf8_4_F4}
use Rattle.utf8.specs.Scalars.{Scalar, octets_of}
use Rattle.utf8.specs.Statements.{ScalarChar, CharScalar, ScalarUnambiguous}
use Rattle.utf8.proofs.Bounds.{up_to}

-- ---- the octets by the number's size

module _ (v : ℕ) where
  octets_1 : v < 0x80 → octets_of v ≡ v ∷ []
  unfolding octets_of
  octets_1 h = rw (lt-ltb v 0x80 h)

  octets_2 : (0x80 ≤ v) × (v < 0x800) → octets_of v ≡ (0xC0 + v / 64) ∷ (0x80 + v % 64) ∷ []
  unfolding octets_of
  octets_2 h = rw (le-ltb v 0x80 h.0, lt-ltb v 0x800 h.1)

  octets_3 : (0x800 ≤ v) × (v < 0x10000) → octets_of v ≡ (0xE0 + v / 4096) ∷ (0x80 + v / 64 % 64) ∷ (0x80 + v % 64) ∷ []
  unfolding octets_of
  octets_3 h = rw (le-ltb v 0x80 (omega arith), le-ltb v 0x800 h.0, lt-ltb v 0x10000 h.1)

  octets_4 : 0x10000 ≤ v → octets_of v ≡ (0xF0 + v / 262144) ∷ (0x80 + v / 4096 % 64) ∷ (0x80 + v / 64 % 64) ∷ (0x80 + v % 64) ∷ []
  unfolding octets_of
  octets_4 h = rw (le-ltb v 0x80 (omega arith), le-ltb v 0x800 (omega arith), le-ltb v 0x10000 h)

-- ---- and the number by its octets

abbrev number_of : List ℕ → ℕ
number_of [] = 0
number_of (a ∷ []) = a
number_of (a ∷ b ∷ []) = a * 64 + b - 0x3080
number_of (a ∷ b ∷ c ∷ []) = a * 4096 + b * 64 + c - 0xE2080
number_of (a ∷ b ∷ c ∷ d ∷ _) = a * 262144 + b * 4096 + c * 64 + d - 0x3C82080

sixes : (v : ℕ) → (v / 64 / 64 ≡ v / 4096) × (v / 4096 / 64 ≡ v / 262144)
sixes v = omega arith

number_back : (v : ℕ) → number_of (octets_of v) ≡ v
number_back v =
    up_to 0x7F v (λ k. rw (octets_1 v (omega arith))) λ h.
    up_to 0x7FF v (λ k. rw (octets_2 v (omega arith)) (omega arith)) λ h.
    up_to 0xFFFF v (λ k. rw (octets_3 v (omega arith)) (omega arith)) λ h.
    rw (octets_4 v (omega arith)) (omega (arith, sixes v))

pub scalar_unambiguous : ScalarUnambiguous
scalar_unambiguous v w x y e = sym (number_back v) ∙ ap number_of e ∙ number_back w

-- ---- the octets of a character are in a row

shown : {c d : List ℕ} → c ≡ d → Char d → Char c
shown e x = rw e x

no_surrogate_above : {v : ℕ} → Scalar v → 0xD7FF < v → 0xDFFF < v
no_surrogate_above x h = elim x.no_surrogate [ inl k ↦ omega arith | inr k ↦ k ]

pub scalar_char : ScalarChar
scalar_char v x =
    up_to 0x7F v (λ k. shown (octets_1 v (omega arith)) (utf8_1 (omega arith))) λ h.
    up_to 0x7FF v (λ k. shown (octets_2 v (omega arith)) (utf8_2 (omega arith) (omega arith))) λ h.
    up_to 0xFFF v (λ k. shown (octets_3 v (omega arith)) (utf8_3_E0 (omega arith) (omega arith) (omega arith))) λ h.
    up_to 0xCFFF v (λ k. shown (octets_3 v (omega arith)) (utf8_3_E1 (omega arith) (omega arith) (omega arith))) λ h.
    up_to 0xD7FF v (λ k. shown (octets_3 v (omega arith)) (utf8_3_ED (omega arith) (omega arith) (omega arith))) λ h.
    let h = no_surrogate_above x h in
    up_to 0xFFFF v (λ k. shown (octets_3 v (omega arith)) (utf8_3_EE (omega arith) (omega arith) (omega arith))) λ h.
    up_to 0x3FFFF v (λ k. shown (octets_4 v (omega arith)) (utf8_4_F0 (omega arith) (omega arith) (omega arith) (omega arith))) λ h.
    up_to 0xFFFFF v (λ k. shown (octets_4 v (omega arith)) (utf8_4_F1 (omega arith) (omega arith) (omega arith) (omega arith))) λ h.
    shown (octets_4 v (omega arith)) (utf8_4_F4 (omega (arith, x.most)) (omega (arith, x.most)) (omega arith) (omega arith))

-- ---- what is in a row are the octets of a character

abbrev Named : List ℕ → Type 0
Named c = (v : ℕ) × Scalar v × (c ≡ octets_of v)

one : {a : ℕ} → Within 0x00 0x7F a → Named (a ∷ [])
one {a} x = (a, record { most = omega arith; no_surrogate = inl (omega arith) }, sym (octets_1 a (omega arith)))

two : {a b : ℕ} (v : ℕ) → v ≡ number_of (a ∷ b ∷ []) → Within 0xC2 0xDF a → Tail b → Named (a ∷ b ∷ [])
two {a} {b} v e x y =
    let p : 0xC0 + v / 64 ≡ a = omega arith in
    let q : 0x80 + v % 64 ≡ b = omega arith in
    (v, record { most = omega arith; no_surrogate = inl (omega arith) }, sym (octets_2 v (omega arith) ∙ cc))

three : {a b c : ℕ} (v : ℕ) → v ≡ number_of (a ∷ b ∷ c ∷ []) → Within 0xE0 0xEF a → Tail b → Tail c
    → 0x800 ≤ v → (v < 0xD800) ⊎ (0xDFFF < v) → Named (a ∷ b ∷ c ∷ [])
three {a} {b} {c} v e x y z h k =
    let p : 0xE0 + v / 4096 ≡ a = omega arith in
    let q : 0x80 + v / 64 % 64 ≡ b = omega arith in
    let r : 0x80 + v % 64 ≡ c = omega arith in
    (v, record { most = omega arith; no_surrogate = k }, sym (octets_3 v (omega arith) ∙ cc))

four : {a b c d : ℕ} (v : ℕ) → v ≡ number_of (a ∷ b ∷ c ∷ d ∷ []) → Within 0xF0 0xF4 a → Tail b → Tail c → Tail d
    → 0x10000 ≤ v → v ≤ 0x10FFFF → Named (a ∷ b ∷ c ∷ d ∷ [])
four {a} {b} {c} {d} v e x y z t h k =
    let p : 0xF0 + v / 262144 ≡ a = omega arith in
    let q : 0x80 + v / 4096 % 64 ≡ b = omega arith in
    let r : 0x80 + v / 64 % 64 ≡ c = omega arith in
    let u : 0x80 + v % 64 ≡ d = omega arith in
    (v, record { most = k; no_surrogate = inr (omega arith) }, sym (octets_4 v h ∙ cc))

pub char_scalar : CharScalar
char_scalar c (utf8_1 x) = one x
char_scalar c (utf8_2 x y) = two _ refl x y
char_scalar c (utf8_3_E0 x y z) = three _ refl (omega arith) (omega arith) z (omega arith) (inl (omega arith))
char_scalar c (utf8_3_E1 x y z) = three _ refl (omega arith) y z (omega arith) (inl (omega arith))
char_scalar c (utf8_3_ED x y z) = three _ refl (omega arith) (omega arith) z (omega arith) (inl (omega arith))
char_scalar c (utf8_3_EE x y z) = three _ refl (omega arith) y z (omega arith) (inr (omega arith))
char_scalar c (utf8_4_F0 x y z t) = four _ refl (omega arith) (omega arith) z t (omega arith) (omega arith)
char_scalar c (utf8_4_F1 x y z t) = four _ refl (omega arith) y z t (omega arith) (omega arith)
char_scalar c (utf8_4_F4 x y z t) = four _ refl (omega arith) (omega arith) z t (omega arith) (omega arith)

-- What stands where bytes are copied to the front of others: a window that is moved, or a register that is put before
-- zeros. Assumes nothing.
use Prim.Native.Nat.{ℕ, zero, suc, ◌+◌, ◌-◌, ◌*◌, ◌/◌, ◌%◌, ◌^◌, ◌≤◌, ◌<◌}
use native.Mathlib.Nat.{zero-add, mod-eq_of_lt, mod-one, div-one}
use native.Mathlib.Omega.{arith}
use mathlib.Core.Path.{◌≡◌, refl, sym, ap, ap₂, ◌∙◌}
use mathlib.Core.List.{List, ◌++◌}
use mir.Syntax.{w32}
use lib.Pow.{shr-shr, mod-pow-add, pow_pos}
use native.Mathlib.Nat.{mod-lt}
use lib.ListN.{length, get_or, take, drop, replicate}
use lib.Seq.{get_or-take, get_or-drop, get_or-append_right}
use Rattle.std.proofs.lemmas.List.{get_or_append_left}
use Rattle.std.specs.Int.{to_le_bytes}
use Rattle.crc32c.specs.Crc.{number}
use Rattle.crc32c.specs.Folding.{window}
use Rattle.crc32c.proofs.Numbers.{number_same, number_sum, number_zeros}
use Rattle.crc32c.proofs.Folds.{at_place}

-- ---- a window is copied

-- The bytes a are those of the window from place k of w, and b stands behind them.
pub window_copied : (a b w : List ℕ) (k : ℕ) → length a ≡ 209 → ((i : ℕ) → i < 209 → get_or a i 0 ≡ get_or w (k + i) 0)
    → window (a ++ b) 0 ≡ window w k
unfolding window
window_copied a b w k l h =
    number_same 209 _ _ (λ i q. at_place (a ++ b) (zero-add i) ∙ get_or_append_left a b 0 i (omega arith) ∙ h i q)

pub at_front : (w : List ℕ) (k n i : ℕ) → i < n → get_or (take n (drop k w)) i 0 ≡ get_or w (k + i) 0
at_front w k n i h = get_or-take n (drop k w) i 0 h ∙ get_or-drop k w i 0

-- ---- zeros

pub zeros_at : (n i : ℕ) → ◌≡◌ {A = ℕ} (get_or (replicate n 0) i 0) 0
zeros_at zero i = refl
zeros_at (suc n) zero = refl
zeros_at (suc n) (suc i) = zeros_at n i

pub zeros_behind : (a : List ℕ) (k n i : ℕ) → length a ≤ i → get_or (a ++ drop k (replicate n 0)) i 0 ≡ 0
zeros_behind a k n i h =
    get_or-append_right a (drop k (replicate n 0)) i 0 h ∙ get_or-drop k (replicate n 0) (i - length a) 0 ∙ zeros_at n _

-- ---- the bytes of a number

unfoldable byte : ℕ → ℕ → ℕ
byte c i = c / 2 ^ (8 * i) % 2 ^ 8

byte_below : (c i : ℕ) → byte c i < 256
unfolding byte
byte_below c i = mod-lt (c / 2 ^ (8 * i)) (pow_pos 8)

byte_later : (c i : ℕ) → byte c (suc i) ≡ byte (c / 2 ^ 8) i
unfolding byte
byte_later c i = let e : 8 * suc i ≡ 8 + 8 * i = omega arith in rw (e, ← shr-shr)

number_byte : (n c : ℕ) → number (byte c) n ≡ c % 2 ^ (8 * n)
unfolding byte number
number_byte zero c = sym (mod-one c)
number_byte (suc n) c =
    let e : 8 * suc n ≡ 8 * n + 8 = omega arith in
    number_sum n (byte c) (byte_below c 0)
    ∙ ap₂ (λ (x y : ℕ). x * 256 + y) (number_same n _ _ (λ i h. byte_later c i) ∙ number_byte n (c / 2 ^ 8))
    (ap (λ (x : ℕ). x % 2 ^ 8) (div-one c))
    ∙ sym (mod-pow-add c (8 * n) 8) ∙ ap (λ (k : ℕ). c % 2 ^ k) (sym e)

four_bytes : (c i : ℕ) → i < 4 → get_or (to_le_bytes w32 c) i 0 ≡ byte c i
unfolding byte
four_bytes c zero h = ap (λ (x : ℕ). x % 256) (sym (div-one c))
four_bytes c (suc zero) h = refl
four_bytes c (suc (suc zero)) h = refl
four_bytes c (suc (suc (suc zero))) h = refl
four_bytes c (suc (suc (suc (suc i)))) h = absurd (omega arith)

-- the bytes of a register, and zeros behind them
pub register_window : (c k n : ℕ) (a : List ℕ) → c < 2 ^ 32 → a ≡ to_le_bytes w32 c → window (a ++ drop k (replicate n 0)) 0 ≡ c
unfolding window
register_window c k n a h e =
    let z : List ℕ = drop k (replicate n 0) in
    let l : length a ≡ 4 = ap length e in
    number_zeros 205 4 (λ i. get_or (a ++ z) (0 + i) 0) (λ i q. at_place (a ++ z) (zero-add i) ∙ zeros_behind a k n i (omega arith))
    ∙ number_same 4 _ (byte c)
    (λ i q. at_place (a ++ z) (zero-add i) ∙ get_or_append_left a z 0 i (omega arith) ∙ ap (λ (t : List ℕ). get_or t i 0) e ∙ four_bytes c i q)
    ∙ number_byte 4 c ∙ mod-eq_of_lt h

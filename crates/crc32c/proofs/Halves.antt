-- A register in parts: the steps of the whole are the steps of each part alone, fewer for the parts that stand higher.
-- So bytes are divided by their halves, words by their bytes, and eight bytes by two words. Assumes nothing.
use Prim.Native.Nat.{ℕ, zero, suc, ◌+◌, ◌*◌, ◌/◌, ◌%◌, ◌^◌, ◌<◌}
use native.Mathlib.Nat.{mod-lt, zero-lt-suc, zero-mul, suc-mul, add_comm}
use native.Mathlib.Omega.{arith}
use mathlib.Core.Path.{◌≡◌, refl, sym, ap, ap₂, ◌∙◌}
use mathlib.Core.Bool.{Bool}
use mathlib.Core.List.{List, [], ◌∷◌, ◌++◌}
use lib.Bits.{bit_xor, xor_comm, xor_shifted}
use Rattle.std.specs.List.{concat, fold}
use Rattle.std.specs.Int.{sum_through, byte_worth}
use Rattle.std.specs.Simd.{first_chunks}
use lib.Dec.{eqb, eqb→eq, T}
use lib.ListN.{length, get_or, take, drop, take-append-drop}
use lib.Seq.{take-add}
use Rattle.crc32c.specs.Crc.{steps, over, castagnoli, number, number_of}
use Rattle.crc32c.specs.Table.{IsTable}
use Rattle.crc32c.proofs.Xor.{xor_assoc, xor_split}
use Rattle.crc32c.proofs.Division.{steps_linear, steps_shift, steps_add}
use Rattle.crc32c.proofs.Joined.{over_joined}
use Rattle.crc32c.proofs.Numbers.{over_number, number_sum}
use Rattle.crc32c.proofs.Entries.{every, passed}

-- ---- the table

abbrev right : ℕ → ℕ → Bool
right k x = eqb x (steps castagnoli (4 * (k / 16 + 1)) (k % 16))

pub is_table : (t : List ℕ) → T (every right 0 t) → length t ≡ 256 → IsTable t
is_table t ok l = record { entry = λ k h. eqb→eq (get_or t k 0) (steps castagnoli (4 * (k / 16 + 1)) (k % 16)) (passed right t ok k (rw l h)) }

-- ---- parts

-- n more steps for what stands m bits lower
steps_parts : (p m n high low : ℕ) → steps p (m + n) (bit_xor (high * 2 ^ m) low) ≡ bit_xor (steps p (m + n) low) (steps p n high)
steps_parts p m n high low =
    steps_linear p (m + n) (high * 2 ^ m) low
    ∙ ap (λ (x : ℕ). bit_xor x (steps p (m + n) low)) (steps_add p m n (high * 2 ^ m) ∙ ap (steps p n) (steps_shift p m high))
    ∙ xor_comm (steps p n high) (steps p (m + n) low)

-- a number by its m lowest bits and the others
steps_low : (p m n high low x k : ℕ) → low < 2 ^ m → high * 2 ^ m + low ≡ x → m + n ≡ k → bit_xor (steps p k low) (steps p n high) ≡ steps p k x
steps_low p m n high low x k h e f =
    ap (λ (j : ℕ). bit_xor (steps p j low) (steps p n high)) (sym f)
    ∙ sym (steps_parts p m n high low)
    ∙ ap₂ (steps p) f (xor_shifted high m low h ∙ e)

pub byte_halves : (p m x : ℕ) → bit_xor (steps p (8 * (m + 1)) (x % 16)) (steps p (8 * m + 4) (x / 16 % 16)) ≡ steps p (8 * (m + 1)) (x % 256)
byte_halves p m x =
    steps_low p 4 (8 * m + 4) (x / 16 % 16) (x % 16) (x % 256) (8 * (m + 1)) (mod-lt x (zero-lt-suc 15)) (omega arith) (omega arith)

-- the lowest byte, m bytes further than the others
lowest : (p m w : ℕ) → bit_xor (steps p (8 * (m + 1)) (w % 256)) (steps p (8 * m) (w / 256)) ≡ steps p (8 * (m + 1)) w
lowest p m w = steps_low p 8 (8 * m) (w / 256) (w % 256) w (8 * (m + 1)) (mod-lt w (zero-lt-suc 255)) (omega arith) (omega arith)

pub word_bytes : (p m w a b c d : ℕ) → w < 2 ^ 32
    → a ≡ steps p (8 * (m + 3 + 1)) (w % 256) → b ≡ steps p (8 * (m + 2 + 1)) (w / 256 % 256)
    → c ≡ steps p (8 * (m + 1 + 1)) (w / 65536 % 256) → d ≡ steps p (8 * (m + 1)) (w / 16777216 % 256)
    → bit_xor a (bit_xor b (bit_xor c d)) ≡ steps p (8 * (m + 4)) w
word_bytes p m w a b c d h ea eb ec ed =
    let last : w / 16777216 % 256 ≡ w / 65536 / 256 = omega arith in
    let third : w / 65536 ≡ w / 256 / 256 = omega arith in
    let one : bit_xor c d ≡ steps p (8 * (m + 1 + 1)) (w / 65536) =
    ap₂ bit_xor ec (ed ∙ ap (steps p (8 * (m + 1))) last) ∙ lowest p (m + 1) (w / 65536) in
    let two : bit_xor b (bit_xor c d) ≡ steps p (8 * (m + 2 + 1)) (w / 256) =
    ap₂ bit_xor eb (one ∙ ap₂ (λ (k x : ℕ). steps p (8 * k) x) (omega arith) third) ∙ lowest p (m + 2) (w / 256) in
    ap₂ bit_xor ea (two ∙ ap (λ (k : ℕ). steps p (8 * k) (w / 256)) (omega arith)) ∙ lowest p (m + 3) w
    ∙ ap (λ (k : ℕ). steps p (8 * k) w) (omega arith)

-- ---- eight bytes as one number

number_one : (f : ℕ → ℕ) → number f 1 ≡ f 0
unfolding number
number_one f = refl

pub eight_bytes : (f : ℕ → ℕ) → ((k : ℕ) → f k < 256) → sum_through (λ i. byte_worth i (f i)) 7 ≡ number f 8
eight_bytes f h =
    let a = number_sum 7 f (h 0) in
    let b = number_sum 6 (λ i. f (suc i)) (h 1) in
    let c = number_sum 5 (λ i. f (suc (suc i))) (h 2) in
    let d = number_sum 4 (λ i. f (suc (suc (suc i)))) (h 3) in
    let e = number_sum 3 (λ i. f (suc (suc (suc (suc i))))) (h 4) in
    let j = number_sum 2 (λ i. f (suc (suc (suc (suc (suc i)))))) (h 5) in
    let k = number_sum 1 (λ i. f (suc (suc (suc (suc (suc (suc i))))))) (h 6) in
    let l = number_one (λ i. f (suc (suc (suc (suc (suc (suc (suc i)))))))) in
    omega arith

pub eight_words : (p c x : ℕ)
    → bit_xor (steps p 64 (bit_xor c (x % 2 ^ 32))) (steps p 32 (x / 2 ^ 32)) ≡ steps p 64 (bit_xor c x)
eight_words p c x =
    let low = x % 2 ^ 32 in
    let high = x / 2 ^ 32 in
    sym
    (ap (λ (y : ℕ). steps p 64 (bit_xor c y)) (sym (xor_split x 32) ∙ xor_comm (high * 2 ^ 32) low)
    ∙ ap (steps p 64) (sym (xor_assoc c low (high * 2 ^ 32)) ∙ xor_comm (bit_xor c low) (high * 2 ^ 32))
    ∙ steps_parts p 32 32 high (bit_xor c low))

-- ---- bytes one by one, and eight at a time

pub by_ones : (p c : ℕ) (s : List ℕ) → fold (λ c b. steps p 8 (bit_xor c b)) c s ≡ over p c s
unfolding over
by_ones p c [] = refl
by_ones p c (b ∷ s) = by_ones p (steps p 8 (bit_xor c b)) s

over_eight : (p c : ℕ) (y : List ℕ) → length y ≡ 8 → steps p 64 (bit_xor c (number_of y)) ≡ over p c y
over_eight p c y l = sym (over_number p c y ∙ ap (λ (n : ℕ). steps p (8 * n) (bit_xor c (number_of y))) l)

pub by_eights : (p c : ℕ) (ys : List (List ℕ)) → ((k : ℕ) → k < length ys → length (get_or ys k []) ≡ 8)
    → fold (λ c y. steps p 64 (bit_xor c (number_of y))) c ys ≡ over p c (concat ys)
unfolding over
by_eights p c [] h = refl
by_eights p c (y ∷ ys) h =
    let d = steps p 64 (bit_xor c (number_of y)) in
    by_eights p d ys (λ k l. h (suc k) (omega arith))
    ∙ ap (λ (x : ℕ). over p x (concat ys)) (over_eight p c y (h 0 (omega arith)))
    ∙ sym (over_joined p c y (concat ys))

pub chunks_joined : (n k : ℕ) (s : List ℕ) → concat (first_chunks n k s) ≡ take (k * n) s
chunks_joined n zero s = rw zero-mul
chunks_joined n (suc k) s =
    ap (λ (t : List ℕ). take n s ++ t) (chunks_joined n k (drop n s)) ∙ sym (take-add n (k * n) s) ∙ ap (λ (m : ℕ). take m s) (sym (suc-mul k n ∙ add_comm (k * n) n))

pub chunks_over : (p c d r n k : ℕ) (s : List ℕ) → d ≡ over p c (concat (first_chunks n k s)) → r ≡ over p d (drop (k * n) s) → r ≡ over p c s
chunks_over p c d r n k s e f =
    f ∙ ap (λ (x : ℕ). over p x (drop (k * n) s)) (e ∙ ap (over p c) (chunks_joined n k s))
    ∙ sym (over_joined p c (take (k * n) s) (drop (k * n) s)) ∙ ap (over p c) (take-append-drop (k * n) s)

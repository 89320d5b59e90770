-- What is put into an output, field after field: the fixed fields of a batch. Assumes nothing.
use Prim.Native.Nat.{ℕ, ◌+◌}
use mathlib.Core.Path.{◌≡◌, sym, ap, ◌∙◌}
use mathlib.Core.List.{List, [], ◌∷◌, ◌++◌, append-nil, append_assoc}
use native.Mathlib.Omega.{arith}
use lib.IntN.{ℤ, pos}
use lib.ListN.{length, take, drop, length-append}
use lib.Seq.{take_all, take_at, drop_at}
use mir.Syntax.{Width, w16, w32, w64}
use mir.Val.{SFits, to_z, of_z}
use mir.ValLaws.{to_z-of_z}
use Rattle.numbers.specs.Format.{big_endian}
use Rattle.numbers.specs.Pen.{Pen, pen, emit}
use Rattle.numbers.specs.Concat.{concat}
use Rattle.numbers.proofs.Integers.{big_endian_length}
use Rattle.numbers.proofs.Pens.{emit_emit, emit_inside, all_put}
use Rattle.crc32c.specs.Crc.{continued, castagnoli, crc32c}
use Rattle.crc32c.proofs.Joined.{checksum_joined}
use Rattle.layout.specs.Table.{fixed_checked, fixed_part}
use Rattle.layout.specs.Batch.{Fields}
use Rattle.layout.specs.Fixed.{signed, frame_bytes, times_bytes, producer_bytes, checked_part, fixed_bytes, fixed_before}
use Rattle.layout.specs.Statements.{FixedLength}

-- ---- one after the other

onto : (a : List ℕ) (rest : List (List ℕ)) (p q r : Pen) → q ≡ emit a p → r ≡ emit (concat rest) q → r ≡ emit (concat (a ∷ rest)) p
unfolding concat
onto a rest p q r e f = f ∙ ap (emit (concat rest)) e ∙ emit_emit a (concat rest) p

last : (a : List ℕ) (p q : Pen) → q ≡ emit a p → q ≡ emit (concat (a ∷ [])) p
unfolding concat
last a p q e = e ∙ ap (λ (x : List ℕ). emit x p) (sym (append-nil a))

-- a number that was made of a field is the field
made : (w : Width) (n : ℕ) (z : ℤ) (p q : Pen) → SFits w z → q ≡ emit (signed n (to_z w (of_z w z))) p → q ≡ emit (signed n z) p
made w n z p q fits e = e ∙ ap (λ (y : ℤ). emit (signed n y) p) (to_z-of_z w z fits)

-- ---- the three parts

module _ (x : Fields) (p q r t u : Pen) where
  pub frame_put : (batch_length : ℤ) (crc : ℕ) (v : Pen) → SFits w64 x.base_offset → SFits w32 x.partition_leader_epoch
      → q ≡ emit (signed 8 (to_z w64 (of_z w64 x.base_offset))) p → r ≡ emit (signed 4 batch_length) q
      → t ≡ emit (signed 4 (to_z w32 (of_z w32 x.partition_leader_epoch))) r → u ≡ emit (signed 1 (pos 2)) t
      → v ≡ emit (big_endian 4 crc) u → v ≡ emit (frame_bytes x batch_length crc) p
  unfolding frame_bytes
  frame_put batch_length crc v f g a b c d e =
      onto _ _ p q v (made w64 8 _ p q f a)
      (onto _ _ q r v b (onto _ _ r t v (made w32 4 _ r t g c) (onto _ _ t u v d (last _ u v e))))

  pub times_put : (attributes : ℤ) → SFits w32 x.last_offset_delta → SFits w64 x.first_timestamp → SFits w64 x.max_timestamp
      → q ≡ emit (signed 2 attributes) p → r ≡ emit (signed 4 (to_z w32 (of_z w32 x.last_offset_delta))) q
      → t ≡ emit (signed 8 (to_z w64 (of_z w64 x.first_timestamp))) r
      → u ≡ emit (signed 8 (to_z w64 (of_z w64 x.max_timestamp))) t → u ≡ emit (times_bytes x attributes) p
  unfolding times_bytes
  times_put attributes f g h a b c d =
      onto _ _ p q u a
      (onto _ _ q r u (made w32 4 _ q r f b) (onto _ _ r t u (made w64 8 _ r t g c) (last _ t u (made w64 8 _ t u h d))))

  pub producer_put : (count : ℤ) → SFits w64 x.producer_id → SFits w16 x.producer_epoch → SFits w32 x.base_sequence
      → q ≡ emit (signed 8 (to_z w64 (of_z w64 x.producer_id))) p → r ≡ emit (signed 2 (to_z w16 (of_z w16 x.producer_epoch))) q
      → t ≡ emit (signed 4 (to_z w32 (of_z w32 x.base_sequence))) r → u ≡ emit (signed 4 count) t
      → u ≡ emit (producer_bytes x count) p
  unfolding producer_bytes
  producer_put count f g h a b c d =
      onto _ _ p q u (made w64 8 _ p q f a)
      (onto _ _ q r u (made w16 2 _ q r g b) (onto _ _ r t u (made w32 4 _ r t h c) (last _ t u d)))

-- ---- all of them

frame_length : (x : Fields) (batch_length : ℤ) (crc : ℕ) → length (frame_bytes x batch_length crc) ≡ 21
unfolding frame_bytes concat
frame_length x batch_length crc = simp (length-append, big_endian_length)

module _ (x : Fields) (attributes count : ℤ) where
  checked_part_length : length (checked_part x attributes count) ≡ fixed_checked
  unfolding times_bytes producer_bytes concat
  checked_part_length = simp (length-append, big_endian_length)

  fixed_bytes_length : (batch_length : ℤ) (crc : ℕ) → length (fixed_bytes x batch_length crc attributes count) ≡ fixed_part
  fixed_bytes_length batch_length crc =
      length-append (frame_bytes x batch_length crc) (checked_part x attributes count)
      ∙ (λ i. frame_length x batch_length crc i + checked_part_length i)

pub fixed_put : (x : Fields) (batch_length : ℤ) (crc : ℕ) (attributes count : ℤ) (out : List ℕ) (q r : Pen) (next : ℕ) (output : List ℕ)
    → length out ≡ fixed_part → q ≡ emit (frame_bytes x batch_length crc) (pen 0 out) → r ≡ emit (times_bytes x attributes) q
    → pen next output ≡ emit (producer_bytes x count) r → output ≡ fixed_bytes x batch_length crc attributes count
fixed_put x batch_length crc attributes count out q r next output long e f g =
    let checked = g ∙ ap (emit (producer_bytes x count)) f ∙ emit_emit (times_bytes x attributes) (producer_bytes x count) q in
    let whole =
    checked ∙ ap (emit (checked_part x attributes count)) e ∙ emit_emit (frame_bytes x batch_length crc) (checked_part x attributes count) (pen 0 out) in
    all_put _ out next output (fixed_bytes_length x attributes count batch_length crc ∙ sym long) whole

-- ---- in front of a body

-- what stands before the checksum
abbrev lead : Fields → ℤ → List ℕ
lead x batch_length = signed 8 x.base_offset ++ (signed 4 batch_length ++ (signed 4 x.partition_leader_epoch ++ signed 1 (pos 2)))

frame_split : (x : Fields) (batch_length : ℤ) (crc : ℕ) → frame_bytes x batch_length crc ≡ lead x batch_length ++ big_endian 4 crc
unfolding frame_bytes concat
frame_split x batch_length crc = simp (append_assoc, append-nil)

lead_length : (x : Fields) (batch_length : ℤ) → length (lead x batch_length) ≡ 17
lead_length x batch_length = simp (length-append, big_endian_length)

-- another checksum in the place of the first
module _ (x : Fields) (batch_length : ℤ) (crc : ℕ) (attributes count : ℤ) where
  split : fixed_bytes x batch_length crc attributes count ≡ lead x batch_length ++ (big_endian 4 crc ++ checked_part x attributes count)
  split =
      ap (λ (l : List ℕ). l ++ checked_part x attributes count) (frame_split x batch_length crc)
      ∙ append_assoc (lead x batch_length) (big_endian 4 crc) (checked_part x attributes count)

  checked_from : drop 21 (fixed_bytes x batch_length crc attributes count) ≡ checked_part x attributes count
  checked_from = drop_at (frame_bytes x batch_length crc) (checked_part x attributes count) 21 (frame_length x batch_length crc)

  lead_to : take 17 (fixed_bytes x batch_length crc attributes count) ≡ lead x batch_length
  lead_to = ap (take 17) split ∙ take_at (lead x batch_length) _ 17 (lead_length x batch_length)

crc_put : (x : Fields) (batch_length : ℤ) (old crc : ℕ) (attributes count : ℤ) (next : ℕ) (output : List ℕ)
    → pen next output ≡ emit (big_endian 4 crc) (pen 17 (fixed_bytes x batch_length old attributes count))
    → output ≡ fixed_bytes x batch_length crc attributes count
crc_put x batch_length old crc attributes count next output e =
    let bytes = fixed_bytes x batch_length old attributes count in
    let four = big_endian_length 4 crc in
    let place : 17 + length (big_endian 4 crc) ≡ 21 = omega (arith, four) in
    emit_inside 17 bytes (big_endian 4 crc) next output e (omega (arith, four, fixed_bytes_length x attributes count batch_length old))
    ∙ (λ i. lead_to x batch_length old attributes count i ++ (big_endian 4 crc ++ drop (place i) bytes))
    ∙ ap (λ (l : List ℕ). lead x batch_length ++ (big_endian 4 crc ++ l)) (checked_from x batch_length old attributes count)
    ∙ sym (split x batch_length crc attributes count)

pub before_put : (x : Fields) (batch_length attributes count : ℤ) (body bytes : List ℕ) (sum crc next : ℕ) (output : List ℕ)
    → bytes ≡ fixed_bytes x batch_length 0 attributes count → sum ≡ crc32c (take 40 (drop 21 bytes))
    → crc ≡ continued castagnoli sum body → pen next output ≡ emit (big_endian 4 crc) (pen 17 bytes)
    → output ≡ fixed_before x batch_length attributes count body
unfolding fixed_before
before_put x batch_length attributes count body bytes sum crc next output is summed continues e =
    let checked = checked_part x attributes count in
    let from : drop 21 bytes ≡ checked = ap (drop 21) is ∙ checked_from x batch_length 0 attributes count in
    let all : take 40 (drop 21 bytes) ≡ checked = ap (take 40) from ∙ take_all 40 checked (omega (arith, checked_part_length x attributes count)) in
    let whole : crc ≡ crc32c (checked ++ body)
    = continues ∙ ap (λ (s : ℕ). continued castagnoli s body) (summed ∙ ap crc32c all) ∙ checksum_joined castagnoli checked body in
    crc_put x batch_length 0 crc attributes count next output (e ∙ ap (λ (l : List ℕ). emit (big_endian 4 crc) (pen 17 l)) is)
    ∙ (λ i. fixed_bytes x batch_length (whole i) attributes count)

pub fixed_length : FixedLength
unfolding fixed_before
fixed_length x batch_length attributes count body = fixed_bytes_length x attributes count batch_length _

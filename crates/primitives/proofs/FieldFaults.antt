-- The first faults of integers, of lengths and of bytes that follow them: an integer's bytes are there or run past the
-- end; a length has the faults of its number, and then the tests of the reading each say by their number just what the
-- fault is. Assumes nothing.
use Rattle.std.proofs.Common.{◌≡◌, ℕ, zero, suc, ◌+◌, ◌≤◌, Bool, true, false, leb, List, length, ℤ, pos, negsuc, refl, subst, inl, inr, arith, leb-false}
use mathlib.Core.Option.{Option, none, some}
use borrow.Author.Tests.{lt-leb}
use Rattle.numbers.specs.Bytes.{Bytes}
use Rattle.primitives.specs.Step.{ok, no}
use Rattle.primitives.specs.Reading.{integer_at, unsigned_at, varint_at, length_of, length_at, span_of, span_at}
use Rattle.primitives.specs.Faults.{IntegerWrong, TooLow, LengthWrong, BytesWrong}
use Rattle.primitives.specs.Statements.{IntegerFaults, LengthFaults, BytesFaults}
use Rattle.primitives.proofs.Steps.{ok_not_no, and_then_no, map_no}
use Rattle.primitives.proofs.Picks.{pick_no}
use Rattle.primitives.proofs.Values.{integer_gone}
use Rattle.primitives.proofs.Varints.{varint_sound, varint_complete}
use Rattle.primitives.proofs.Spans.{length_found, length_reads}
use Rattle.primitives.proofs.NumberFaults.{number_faults}

-- ---- integers

module _ (k : ℕ) (s : List ℕ) (p : ℕ) where
  integer_fault : (n : ℕ) → integer_at k s p ≡ no n → IntegerWrong k s p n
  unfolding integer_at unsigned_at
  integer_fault n e =
      let (t, eight) = pick_no (leb (p + k) (length s)) _ (p + k) 8 (map_no _ (unsigned_at k s p) e) in
      subst (IntegerWrong k s p) eight (IntegerWrong.past (leb-false (p + k) (length s) t))

  integer_is : {n : ℕ} → IntegerWrong k s p n → integer_at k s p ≡ no n
  integer_is (IntegerWrong.past h) = integer_gone k s p (p + k) refl h

pub integer_faults : IntegerFaults
integer_faults k s p n = (integer_fault k s p n, λ f. integer_is k s p f)

-- ---- lengths

below_fault : (nullable : Bool) (z : ℤ) (m : ℕ) {n : ℕ} → length_of nullable z m ≡ no n → TooLow nullable z × (10 ≡ n)
below_fault nullable (pos k) m e = ok_not_no e
below_fault true (negsuc zero) m e = ok_not_no e
below_fault false (negsuc zero) m e = (tt, cc)
below_fault nullable (negsuc (suc k)) m e = (tt, cc)

below_is : (nullable : Bool) (z : ℤ) (m : ℕ) → TooLow nullable z → length_of nullable z m ≡ no 10
below_is nullable (pos k) m x = absurd x
below_is true (negsuc zero) m x = absurd x
below_is false (negsuc zero) m x = refl
below_is nullable (negsuc (suc k)) m x = refl

module _ (nullable : Bool) (s : List ℕ) (b : Bytes s) (p : ℕ) where
  length_fault : p ≤ length s → (n : ℕ) → length_at nullable s p ≡ no n → LengthWrong nullable s p n
  unfolding length_at
  length_fault l n e =
      elim (and_then_no (varint_at 32 s p) (length_of nullable) e) [
        | inl i ↦ LengthWrong.number ((number_faults 32 s p n (omega arith) b l).0 i)
        | inr w ↦
            let (z, m, i, j) = w in
            let (x, ten) = below_fault nullable z m j in
            subst (LengthWrong nullable s p) ten (LengthWrong.low (varint_sound 32 s p z m (omega arith) b i) x)
      ]

  length_is : p ≤ length s → {n : ℕ} → LengthWrong nullable s p n → length_at nullable s p ≡ no n
  unfolding length_at
  length_is l {n} (LengthWrong.number f) = rw ((number_faults 32 s p n (omega arith) b l).1 f)
  length_is l (LengthWrong.low {z} {q} t x) =
      rw (varint_complete 32 false s p q t.bytes z (omega arith) t.stands t.encodes) (below_is nullable z q x)

pub length_faults : LengthFaults
length_faults nullable s p n b l = (length_fault nullable s b p l n, λ f. length_is nullable s b p l f)

-- ---- bytes

module _ (nullable : Bool) (s : List ℕ) (b : Bytes s) (p : ℕ) where
  short_fault : {n : ℕ} (o : Option ℕ) (m : ℕ) → length_at nullable s p ≡ ok o m → span_of s o m ≡ no n → BytesWrong nullable s p n
  short_fault none m i j = ok_not_no j
  short_fault (some k) m i j =
      let (t, eight) = pick_no (leb (m + k) (length s)) _ (m + k) 8 j in
      subst (BytesWrong nullable s p) eight (BytesWrong.past (length_found nullable s b p i) (leb-false (m + k) (length s) t))

  bytes_fault : p ≤ length s → (n : ℕ) → span_at nullable s p ≡ no n → BytesWrong nullable s p n
  unfolding span_at
  bytes_fault l n e =
      elim (and_then_no (length_at nullable s p) (span_of s) e) [
        | inl i ↦ BytesWrong.size (length_fault nullable s b p l n i)
        | inr w ↦ let (o, m, i, j) = w in short_fault o m i j
      ]

  bytes_is : p ≤ length s → {n : ℕ} → BytesWrong nullable s p n → span_at nullable s p ≡ no n
  unfolding span_at
  bytes_is l (BytesWrong.size f) = rw (length_is nullable s b p l f)
  bytes_is l (BytesWrong.past {m} {q} x h) = rw (length_reads nullable x.stands x.encodes, lt-leb (q + m) (length s) h)

pub bytes_faults : BytesFaults
bytes_faults nullable s p n b l = (bytes_fault nullable s b p l n, λ f. bytes_is nullable s b p l f)

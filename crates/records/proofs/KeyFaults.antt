-- The first faults of counts and of bytes that may not be null, which are those of lengths and of bytes, since no null
-- is read there; and of a header's key, whose bytes are then judged. Assumes nothing.
use Prim.Native.Nat.{ℕ, ◌≤◌}
use mathlib.Core.Path.{◌≡◌, subst}
use mathlib.Core.Bool.{false}
use mathlib.Core.Logic.{inl, inr}
use mathlib.Core.List.{List}
use lib.ListN.{length}
use Rattle.numbers.specs.Bytes.{Bytes}
use Rattle.numbers.specs.Exactly.{Exactly}
use Rattle.primitives.specs.Step.{no}
use Rattle.primitives.specs.Reading.{bytes_of}
use Rattle.primitives.specs.Faults.{LengthWrong, BytesWrong}
use Rattle.primitives.proofs.Steps.{and_then_no}
use Rattle.primitives.proofs.Picks.{pick_no}
use Rattle.primitives.proofs.FieldFaults.{length_faults, bytes_faults}
use Rattle.utf8.specs.Judgement.{is_utf8}
use Rattle.utf8.proofs.Sequences.{not_octets, not_utf8}
use Rattle.records.specs.Judgement.{count_at, bytes_at, key_at}
use Rattle.records.specs.Faults.{KeyWrong}
use Rattle.records.specs.Statements.{KeyFaults}
use Rattle.records.proofs.Presence.{count_no, bytes_no}
use Rattle.records.proofs.Complete.{bytes_reads}
use Rattle.records.proofs.Found.{bytes_found}
use Rattle.records.proofs.Shows.{bytes_shows}

-- ---- counts, and bytes that may not be null

pub count_faults : (s : List ℕ) (p n : ℕ) → Bytes s → p ≤ length s → Exactly (count_at s p ≡ no n) (LengthWrong false s p n)
unfolding count_at
count_faults s p n b l =
    let (wrong, refused) = length_faults false s p n b l in (λ e. wrong (count_no s p e), λ f. rw (refused f))

pub present_faults : (s : List ℕ) (p n : ℕ) → Bytes s → p ≤ length s → Exactly (bytes_at s p ≡ no n) (BytesWrong false s p n)
unfolding bytes_at
present_faults s p n b l =
    let (wrong, refused) = bytes_faults false s p n b l in (λ e. wrong (bytes_no s p e), λ f. rw (refused f))

-- ---- a header's key

module _ (s : List ℕ) (b : Bytes s) (p : ℕ) where
  key_fault : p ≤ length s → (n : ℕ) → key_at s p ≡ no n → KeyWrong s p n
  unfolding key_at
  key_fault l n e =
      elim (and_then_no (bytes_at s p) _ e) [
        | inl i ↦ KeyWrong.bytes ((present_faults s p n b l).0 i)
        | inr w ↦
            let (x, m, i, j) = w in
            let (t, eleven) = pick_no (is_utf8 (bytes_of s x)) x m 11 j in
            subst (KeyWrong s p) eleven
            (KeyWrong.octets (bytes_found s b p i).0 (not_octets (bytes_of s x) t))
      ]

  key_is : p ≤ length s → {n : ℕ} → KeyWrong s p n → key_at s p ≡ no n
  unfolding key_at
  key_is l {n} (KeyWrong.bytes f) = rw ((present_faults s p n b l).1 f)
  key_is l (KeyWrong.octets {v} x wrong) =
      rw (bytes_reads x.stands x.encodes, bytes_shows x.stands x.encodes, not_utf8 v wrong)

pub key_faults : KeyFaults
key_faults s p n b l = (key_fault s b p l n, λ f. key_is s b p l f)

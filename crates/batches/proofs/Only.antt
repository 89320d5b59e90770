-- By the strict grammar every part of a batch is forced, so that what is written is its only encoding there; and it is
-- the shortest of all, since the fixed fields always have the same bytes. Assumes nothing.
use Prim.Native.Nat.{ℕ, ◌≤◌}
use mathlib.Core.Path.{◌≡◌, refl, sym, ap, ◌∙◌}
use mathlib.Core.Bool.{Bool, true}
use mathlib.Core.List.{List, [], ◌∷◌, ◌++◌}
use native.Mathlib.Omega.{arith}
use lib.IntN.{ℤ, pos}
use lib.ListN.{length, length-append}
use Rattle.numbers.specs.Concat.{concat}
use Rattle.numbers.specs.Format.{big_endian, complement}
use Rattle.numbers.proofs.Integers.{unsigned_length, integer_length}
use Rattle.primitives.proofs.Places.{whole}
use Rattle.crc32c.specs.Crc.{crc32c}
use Rattle.records.specs.Format.{Record}
use Rattle.records.proofs.Written.{run_written}
use Rattle.records.proofs.Shortest.{run_shortest}
use Rattle.layout.specs.Batch.{Content, control, records, Batch}
use Rattle.layout.specs.Format.{grammar_of, Counts, exactly, ContentBytes, BatchBytes}
use Rattle.layout.specs.declared.ControlMode.{ControlMode}
use Rattle.markers.proofs.Forms.{forms_lawful, writes_one}
use Rattle.batches.specs.Writer.{written_content, checked_bytes, batch_length_of, written_batch, most_length}
use Rattle.batches.specs.Rewriting.{WrittenShortest, WrittenOnly}
use Rattle.batches.proofs.Encodes.{content_length}
use Rattle.batches.proofs.Parts.{ends}
use Rattle.batches.proofs.Sizes.{body_rest}

-- ---- the only one

content_written : (mode : ControlMode) (bs : List ℕ) (c : Content Record) → ContentBytes (grammar_of mode) true bs c → bs ≡ written_content c
unfolding written_content
content_written mode bs (control m) g = writes_one mode m bs (((forms_lawful mode).strict bs m).0 g)
content_written mode bs (records rs) g = run_written bs rs g

pub exact_count : {z : ℤ} {n : ℕ} → Counts true z n → z ≡ pos n
exact_count exactly = refl

module _ (mode : ControlMode) {bs : List ℕ} {b : Batch Record} (g : BatchBytes mode true bs b) where
  checked_written : g.checked ≡ checked_bytes b
  unfolding checked_bytes
  checked_written =
      let count = g.numbered.is ∙ ap (λ (z : ℤ). big_endian 4 (complement 32 z)) (exact_count g.counts) in
      g.checked_is
      ∙ (λ i.
      concat (
      g.attributes.is i ∷ g.last_offset_delta.is i ∷ g.first_timestamp.is i ∷ g.max_timestamp.is i ∷ g.producer_id.is i
      ∷ g.producer_epoch.is i ∷ g.base_sequence.is i ∷ count i ∷ []
      )
      ++ content_written mode g.body b.content g.holds i)

  counted_length : length g.counted ≡ batch_length_of b
  unfolding batch_length_of concat
  counted_length =
      ap length g.counted_is
      ∙ simp length-append (omega (
        arith,
        integer_length g.partition_leader_epoch,
        integer_length g.magic,
        unsigned_length g.crc,
        ap length checked_written,
      ))

  pub batch_written : bs ≡ written_batch b
  unfolding written_batch
  batch_written =
      let batch_length = g.batch_length.is ∙ ap (big_endian 4) counted_length in
      let crc = g.crc.is ∙ ap (λ (x : List ℕ). big_endian 4 (crc32c x)) checked_written in
      let counted =
      g.counted_is ∙ (λ i. concat (g.partition_leader_epoch.is i ∷ g.magic.is i ∷ crc i ∷ []) ++ checked_written i) in
      g.is ∙ (λ i. concat (g.base_offset.is i ∷ batch_length i ∷ []) ++ counted i)

pub written_only : WrittenOnly
written_only mode bs bs' b g h = batch_written mode g ∙ sym (batch_written mode h)

-- ---- the shortest

content_shortest : (mode : ControlMode) (strict : Bool) (bs : List ℕ) (c : Content Record) → ContentBytes (grammar_of mode) strict bs c → length (written_content c) ≤ length bs
unfolding written_content
content_shortest mode strict bs (control m) g = ((forms_lawful mode).shortest strict bs m g).1
content_shortest mode strict bs (records rs) g = run_shortest strict bs rs g

-- so a batch that has an encoding is not too long to be written
pub batch_short : (mode : ControlMode) {strict : Bool} {bs : List ℕ} {b : Batch Record} → BatchBytes mode strict bs b → batch_length_of b ≤ most_length
batch_short mode {strict} {bs} {b} g =
    omega (
      arith,
      content_length b,
      content_shortest mode strict g.body b.content g.holds,
      body_rest g,
      ends (whole bs) g,
      g.batch_length.fits,
    )

pub written_shortest : WrittenShortest
written_shortest mode strict bs bs' b g h =
    omega (
      arith,
      body_rest g,
      body_rest h,
      ap length (content_written mode g.body b.content g.holds),
      content_shortest mode strict h.body b.content h.holds,
    )

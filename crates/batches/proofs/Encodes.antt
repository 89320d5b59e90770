-- What is written of a batch is an encoding of it by the strict grammar: each field has as many bytes as its number
-- needs, batchLength and checksum are worked out from what they are of, and the length of the whole bounds the number
-- of records. Assumes nothing.
use Prim.Native.Nat.{ℕ, ◌+◌, ◌^◌, ◌≤◌, ◌<◌}
use mathlib.Core.Path.{◌≡◌, refl, sym, ap}
use mathlib.Core.Bool.{true}
use mathlib.Core.Option.{some}
use mathlib.Core.List.{List, [], ◌∷◌, ◌++◌}
use native.Mathlib.Omega.{arith}
use lib.IntN.{pos}
use lib.ListN.{length, length-append}
use Rattle.numbers.specs.Bytes.{Bytes}
use Rattle.numbers.specs.Concat.{concat}
use Rattle.numbers.specs.Format.{big_endian}
use Rattle.numbers.proofs.Integers.{big_endian_length}
use Rattle.numbers.proofs.AllBytes.{joined_bytes, big_endian_bytes}
use Rattle.crc32c.specs.Crc.{castagnoli, crc32c}
use Rattle.crc32c.proofs.Division.{castagnoli_reflected}
use Rattle.crc32c.proofs.Injective.{checksum_held}
use Rattle.records.specs.Format.{Record}
use Rattle.records.specs.Judgement.{RecordSpans}
use Rattle.records.specs.Statements.{Each, Writable}
use Rattle.records.specs.Written.{written_fields, written_record, written_records}
use Rattle.records.proofs.Encodes.{written_length, run_encodes}
use Rattle.layout.specs.Table.{FixedFields, unchecked, fixed_checked, unchecked_fields, checked_fields}
use Rattle.layout.specs.Batch.{Fields, Content, control, records, Batch}
use Rattle.layout.specs.Format.{grammar_of, attributes_of, how_many, Counts, ContentBytes, BatchBytes}
use Rattle.layout.proofs.Flags.{timestamp_small, bit_small, control_small}
use Rattle.layout.specs.declared.ControlMode.{ControlMode}
use Rattle.markers.proofs.Forms.{forms_lawful}
use Rattle.markers.specs.Forms.{written_control, writes_of}
use Rattle.batches.specs.Placed.{shown_content}
use Rattle.batches.specs.Writer.{written_content, written_fixed, checked_bytes, batch_length_of, written_batch, most_length}
use Rattle.batches.specs.Request.{InWidth}
use Rattle.batches.proofs.AllBytes.{concat_bytes, content_bytes}

-- ---- what follows the fixed fields

-- a marker that is written, or records that can be
abbrev pub WritableContent : ControlMode → Content Record → Type 0
WritableContent mode (control m) = writes_of mode m ≡ some (written_control m)
WritableContent mode (records rs) = Each Writable rs

content_encodes : (mode : ControlMode) (c : Content Record) → WritableContent mode c → ContentBytes (grammar_of mode) true (written_content c) c
unfolding written_content
content_encodes mode (control m) w = ((forms_lawful mode).strict (written_control m) m).1 w
content_encodes mode (records rs) w = run_encodes true rs w

-- each record has a byte at least
records_within : (rs : List Record) → length rs ≤ length (written_records rs)
unfolding written_records written_fields
records_within [] = omega arith
records_within (r ∷ rest) =
    omega (arith, length-append (written_record r) (written_records rest), written_length (written_fields r), records_within rest)

pub many_within : (c : Content Record) → how_many c ≤ 1 + length (written_content c)
unfolding written_content
many_within (control m) = omega arith
many_within (records rs) = omega (arith, records_within rs)

-- ---- the fixed fields

module _ (b : Batch Record) where
  attributes_within : attributes_of true 0 b < 256 ^ 2
  attributes_within =
      omega (arith, timestamp_small b.fields.timestamp_type, bit_small b.fields.transactional, control_small b.content)

  -- how many bytes are checked
  checked_length : length (checked_bytes b) ≡ fixed_checked + length (written_content b.content)
  unfolding checked_bytes concat
  checked_length = simp (length-append, big_endian_length) (omega arith)

  checked_fields_bytes : Each Bytes (checked_fields (written_fixed b 0 0))
  unfolding Each
  checked_fields_bytes = (
    big_endian_bytes 2 _,
    (
      big_endian_bytes 4 _,
      (
        big_endian_bytes 8 _,
        (
          big_endian_bytes 8 _,
          (
            big_endian_bytes 8 _,
            (
              big_endian_bytes 2 _,
              (big_endian_bytes 4 _, (big_endian_bytes 4 _, tt)),
            ),
          ),
        ),
      ),
    ),
  )

  checked_bytes_lem : Bytes (written_content b.content) → Bytes (checked_bytes b)
  unfolding checked_bytes
  checked_bytes_lem h =
      joined_bytes (concat (checked_fields (written_fixed b 0 0))) (written_content b.content)
      (concat_bytes (checked_fields (written_fixed b 0 0)) checked_fields_bytes) h

  length_is : batch_length_of b ≡ unchecked + length (checked_bytes b)
  unfolding batch_length_of
  length_is = refl

  -- what follows the fixed fields is the rest of batchLength
  pub content_length : batch_length_of b ≡ 49 + length (written_content b.content)
  content_length = omega (arith, length_is, checked_length)

  abbrev fixed : FixedFields (List ℕ)
  fixed = written_fixed b (batch_length_of b) (crc32c (checked_bytes b))

  abbrev counted : List ℕ
  counted = concat (unchecked_fields fixed) ++ checked_bytes b

  counted_length : length counted ≡ batch_length_of b
  unfolding concat
  counted_length = simp (length-append, big_endian_length) (omega (arith, length_is))

  pub batch_encodes : (mode : ControlMode) → InWidth b.fields → WritableContent mode b.content → batch_length_of b ≤ most_length → Bytes (written_content b.content)
      → BatchBytes mode true (written_batch b) b
  unfolding written_batch checked_bytes
  batch_encodes mode x w short bytes =
      record {
        part = fixed;
        body = written_content b.content;
        checked = checked_bytes b;
        counted = counted;
        higher = 0;
        count = pos (how_many b.content);
        is = refl;
        counted_is = refl;
        checked_is = refl;
        base_offset = record { is = refl; fits = x.base_offset };
        batch_length = record { is = ap (big_endian 4) (sym counted_length); fits = omega (arith, counted_length) };
        partition_leader_epoch = record { is = refl; fits = x.partition_leader_epoch };
        magic = record { is = refl; fits = omega arith };
        crc = record { is = refl; fits = checksum_held castagnoli (checked_bytes b) castagnoli_reflected (checked_bytes_lem bytes) };
        attributes = record { is = refl; fits = attributes_within };
        last_offset_delta = record { is = refl; fits = x.last_offset_delta };
        first_timestamp = record { is = refl; fits = x.first_timestamp };
        max_timestamp = record { is = refl; fits = x.max_timestamp };
        producer_id = record { is = refl; fits = x.producer_id };
        producer_epoch = record { is = refl; fits = x.producer_epoch };
        base_sequence = record { is = refl; fits = x.base_sequence };
        numbered = record { is = refl; fits = omega (arith, many_within b.content, content_length) };
        counts = Counts.exactly;
        holds = content_encodes mode b.content w;
      }

-- ---- of what spans show

abbrev pub shows : Fields → List ℕ → Content RecordSpans → Batch Record
shows x s c = record { fields = x; content = shown_content s c }

module _ (mode : ControlMode) (s : List ℕ) (x : Fields) (c : Content RecordSpans) (bytes : Bytes s) (w : WritableContent mode (shown_content s c)) where
  pub shown_encodes : InWidth x → batch_length_of (shows x s c) ≤ most_length
      → BatchBytes mode true (written_batch (shows x s c)) (shows x s c)
  shown_encodes i short = batch_encodes (shows x s c) mode i w short (content_bytes mode s _ c bytes (content_encodes mode (shown_content s c) w))

-- An encoding of a batch whose marker or records are shown by bytes consists of bytes: its integers do, and so does
-- what follows them. Assumes nothing.
use Prim.Native.Nat.{ℕ}
use mathlib.Core.Path.{sym, subst}
use mathlib.Core.Bool.{Bool, true}
use mathlib.Core.List.{List, [], ◌∷◌}
use Rattle.numbers.specs.Bytes.{Bytes}
use Rattle.numbers.specs.Concat.{concat}
use Rattle.numbers.proofs.AllBytes.{no_bytes, joined_bytes, unsigned_bytes, integer_bytes}
use Rattle.records.specs.Format.{Record}
use Rattle.records.specs.Judgement.{RecordSpans}
use Rattle.records.specs.Statements.{Each}
use Rattle.records.proofs.AllBytes.{records_bytes, shown_of_bytes}
use Rattle.layout.specs.Table.{uncounted_fields, unchecked_fields, checked_fields}
use Rattle.layout.specs.Batch.{Content, control, records, Batch}
use Rattle.layout.specs.Format.{grammar_of, ContentBytes, Grammar, BatchBytesWith}
use Rattle.layout.specs.declared.ControlMode.{ControlMode}
use Rattle.markers.proofs.Forms.{forms_lawful, writes_one}
use Rattle.markers.proofs.Keyed.{keyed_octets}
use Rattle.batches.specs.Placed.{shown_content}

pub concat_bytes : (xs : List (List ℕ)) → Each Bytes xs → Bytes (concat xs)
unfolding Each concat
concat_bytes [] each = no_bytes
concat_bytes (x ∷ rest) (b, each) = joined_bytes x (concat rest) b (concat_bytes rest each)

pub content_bytes : (mode : ControlMode) (s bs : List ℕ) (c : Content RecordSpans) → Bytes s → ContentBytes (grammar_of mode) true bs (shown_content s c) → Bytes bs
content_bytes mode s bs (control m) b g =
    subst Bytes (sym (writes_one mode m bs (((forms_lawful mode).strict bs m).0 g))) (keyed_octets m)
content_bytes mode s bs (records rs) b g = records_bytes g (shown_of_bytes s b rs)

module _ {grammar : Grammar} {strict : Bool} {bs : List ℕ} {b : Batch Record} (g : BatchBytesWith grammar strict bs b) (body : Bytes g.body) where
  checked_bytes_lem : Bytes g.checked
  unfolding Each
  checked_bytes_lem =
      subst Bytes (sym g.checked_is)
      (joined_bytes (concat (checked_fields g.part)) g.body
      (concat_bytes (checked_fields g.part) (
        unsigned_bytes g.attributes,
        (
          integer_bytes g.last_offset_delta,
          (
            integer_bytes g.first_timestamp,
            (
              integer_bytes g.max_timestamp,
              (
                integer_bytes g.producer_id,
                (
                  integer_bytes g.producer_epoch,
                  (integer_bytes g.base_sequence, (integer_bytes g.numbered, tt)),
                ),
              ),
            ),
          ),
        ),
      )) body)

  counted_bytes : Bytes g.counted
  unfolding Each
  counted_bytes =
      subst Bytes (sym g.counted_is)
      (joined_bytes (concat (unchecked_fields g.part)) g.checked
      (concat_bytes (unchecked_fields g.part) (integer_bytes g.partition_leader_epoch, (integer_bytes g.magic, (unsigned_bytes g.crc, tt))))
      checked_bytes_lem)

  pub batch_bytes : Bytes bs
  unfolding Each
  batch_bytes =
      subst Bytes (sym g.is)
      (joined_bytes (concat (uncounted_fields g.part)) g.counted
      (concat_bytes (uncounted_fields g.part) (integer_bytes g.base_offset, (integer_bytes g.batch_length, tt))) counted_bytes)

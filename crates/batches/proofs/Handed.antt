-- What is answered of a batch's fields is answered of the batch; and what is lent and handed in is of the machine's
-- types. The premises have the form in which a proof finds them. Assumes nothing.
use Rattle.std.specs.Prelude.{Result, Option}
use Prim.Native.Nat.{ℕ}
use mathlib.Core.Path.{◌≡◌, ap, ◌∙◌, subst}
use mathlib.Core.List.{List}
use lib.IntN.{ℤ, pos, ◌+ℤ◌}
use lib.ListN.{get_or}
use mir.Syntax.{w8, w32, w64}
use mir.Val.{Fits, SFits, to_z, of_z}
use mir.ValLaws.{to_z-of_z}
use Rattle.numbers.specs.Bytes.{Bytes}
use Rattle.records.specs.Rows.{Tables}
use Rattle.writing.specs.Promises.{WriteOutcome, WriteBy}
use Rattle.layout.specs.declared.BatchFields.{BatchFields}
use Rattle.layout.specs.Table.{uncounted}
use Rattle.layout.specs.Batch.{Fields}
use Rattle.layout.specs.Time.{record_time, view_time}
use Rattle.layout.specs.Fixed.{view_batch_fields}
use Rattle.layout.specs.declared.ControlMode.{ControlMode}
use Rattle.opening.specs.Judgement.{judge_at}
use Rattle.batches.specs.declared.RecordBatch.{RecordBatch}
use Rattle.batches.specs.declared.ControlBatchOrRecords.{ControlBatchOrRecords}
use Rattle.batches.specs.declared.BatchFound.{BatchFound}
use Rattle.opening.specs.declared.OpenError.{OpenError}
use Rattle.batches.specs.Answers.{view_fields, view_check, answer_with_room}
use Rattle.batches.specs.Writer.{view_wanted, batch_given}
use Rattle.batches.specs.Promises.{FromRecordBatchPromise, CheckPromise, ReadOutcome, ReadBy, ReadPromise, WritePromise}

pub total_same : (n : ℤ) → SFits w32 n → (r : ℤ) → r ≡ pos uncounted +ℤ to_z w32 (of_z w32 n) → r ≡ pos uncounted +ℤ n
total_same n fits r e = e ∙ ap (λ (y : ℤ). pos uncounted +ℤ y) (to_z-of_z w32 n fits)

pub time_same : (b : RecordBatch) (y : BatchFields) → FromRecordBatchPromise b y → (delta : ℤ) → SFits w64 delta → (r : Option ℤ) → view_time r ≡ record_time (view_batch_fields y) (to_z w64 (of_z w64 delta))
    → view_time r ≡ record_time (view_fields b) delta
time_same b y laid delta fits r e = e ∙ (λ i. record_time (laid.same i) (to_z-of_z w64 delta fits i))

-- ---- of their width

-- a lent slice of bytes
module _ (s : List ℕ) (fits : (i : ℕ) → Fits w8 (get_or s i 0)) where
  bytes_are : Bytes s
  bytes_are i = (fits i).fits

  pub check_lent : (mode : ControlMode) (r : Result BatchFound OpenError) → view_check r ≡ answer_with_room (judge_at mode s 0 0) → CheckPromise mode s r
  check_lent mode r e = record { lent = bytes_are; answer = e }

  pub read_lent : (mode : ControlMode) (t : Tables) (o : ReadOutcome) → ReadBy (judge_at mode s 0 0) t o → ReadPromise mode s t o
  read_lent mode t o e = record { lent = bytes_are; by = e }

  -- what is written by the fields as they are laid out
  pub write_handed : (mode : ControlMode) (b : RecordBatch) (x : BatchFields) → FromRecordBatchPromise b x → (codec : ℕ) (kind : ControlBatchOrRecords) (t : Tables) (out : List ℕ)
      (o : WriteOutcome) → WriteBy (batch_given mode (view_batch_fields x) codec (view_wanted kind) t s) 0 out o
      → WritePromise mode b codec kind t s out o
  write_handed mode b x laid codec kind t out o w =
      record {
        handed = record { fields = laid.widths; source = bytes_are };
        by = subst (λ (x : Fields). WriteBy (batch_given mode x codec (view_wanted kind) t s) 0 out o) laid.same w;
      }

-- What the reading of a batch's records returns and leaves in the tables, and what the check makes of it: records'
-- promise, by its answer, is the batch's. Assumes nothing.
use Prim.Native.Nat.{ℕ, ◌≤◌}
use mathlib.Core.Path.{◌≡◌, refl, sym, ap, ◌∙◌}
use mathlib.Core.Bool.{Bool, true, false}
use mathlib.Core.List.{List}
use native.Mathlib.Omega.{arith}
use lib.ListN.{length}
use Rattle.numbers.specs.Pick.{pick}
use Rattle.primitives.specs.declared.Fault.{Fault}
use Rattle.std.specs.Prelude.{Result, Ok, Err}
use Rattle.primitives.specs.Step.{Step, ok, no, map_step}
use Rattle.records.specs.declared.RecordFault.{RecordFault}
use Rattle.records.specs.Judgement.{RecordSpans}
use Rattle.records.specs.Rows.{headers_in, Tables, roomy, with_rows}
use Rattle.records.specs.Answers.{record_number_of}
use Rattle.records.proofs.Refusals.{Refuses}
use Rattle.reading.specs.declared.RecordsFound.{RecordsFound}
use Rattle.reading.specs.declared.RecordsError.{RecordsError}
use Rattle.reading.specs.Answers.{counts_of}
use Rattle.reading.specs.Answers as Records
use Rattle.reading.specs.Promises.{answer_due, tables_due}
use Rattle.layout.specs.Batch.{records}
use Rattle.opening.specs.Judgement.{Judgement}
use Rattle.opening.specs.Opened.{judged_as}
use Rattle.batches.specs.declared.RecordBatch.{RecordBatch}
use Rattle.batches.specs.declared.BatchFound.{BatchFound}
use Rattle.batches.specs.declared.ReadError.{ReadError}
use Rattle.batches.specs.Answers.{of_records, accepts, refuses, lacks_room, view_fields, view_check, error_of_records, rooms_of, has_room, answer_with_room, answer_of, tables_of}
use Rattle.batches.specs.Promises.{ReadBy}
use Rattle.batches.specs.Reading.{found_records, check_of_records_read}

pub room_is : (first : ℕ) (rs : List RecordSpans) (t : Tables) → has_room (records rs) first (rooms_of t) ≡ roomy first rs t
unfolding roomy
room_is first rs t = refl

-- 0, 14 and the refusals are told apart by their numbers
numbers : {a b : Records.Answer} → a ≡ b → a.number ≡ b.number
numbers e = ap (λ (x : Records.Answer). x.number) e

counts : {a b : Records.Answer} → a ≡ b → (a.records ≡ b.records) × (a.headers ≡ b.headers)
counts e = (ap (λ (x : Records.Answer). x.records) e, ap (λ (x : Records.Answer). x.headers) e)

least : (f : RecordFault) → (8 ≤ record_number_of f) × (record_number_of f ≤ 13)
least (RecordFault.Field Fault.PastEnd) = (omega arith, omega arith)
least (RecordFault.Field Fault.BeyondLimits) = (omega arith, omega arith)
least (RecordFault.Field Fault.NegativeLength) = (omega arith, omega arith)
least RecordFault.KeyNotUtf8 = (omega arith, omega arith)
least RecordFault.BytesLeft = (omega arith, omega arith)

-- what is returned, of what the records gave
abbrev pub read_of : RecordBatch → ℕ → Result RecordsFound RecordsError → Result BatchFound ReadError
read_of b total (Ok x) =
    Ok (found_records b total x.records x.headers)
read_of b total (Err e) = Err (error_of_records e)

module _ (b : RecordBatch) (first total : ℕ) (t : Tables) where
  abbrev pub judged : Step ℕ (List RecordSpans) → Judgement
  judged y = judged_as (view_fields b) first total (map_step records y)

  -- ---- the check

  module _ (rs : List RecordSpans) (p : ℕ) where
    -- 0 and 14 name the same counts
    named : (z : Bool) {a : Records.Answer} → a ≡ pick z (Records.accepted (counts_of rs) p) (Records.no_room (counts_of rs))
        → (a.records ≡ length rs) × (a.headers ≡ headers_in rs)
    named true f = counts f
    named false f = counts f

    check_ok : (z : Bool) (r : Result RecordsFound RecordsError) → Records.view_read r ≡ pick z (Records.accepted (counts_of rs) p) (Records.no_room (counts_of rs))
        → view_check (check_of_records_read b total r) ≡ answer_with_room (judged (ok rs p))
    check_ok z (Ok x) f = λ i. accepts (view_fields b) of_records ((named z f).0 i) ((named z f).1 i) total
    check_ok z (Err (RecordsError.NoRoom k l)) f = λ i. accepts (view_fields b) of_records ((named z f).0 i) ((named z f).1 i) total
    check_ok true (Err (RecordsError.Refused x)) f = absurd (omega (arith, numbers f, least x))
    check_ok false (Err (RecordsError.Refused x)) f = absurd (omega (arith, numbers f, least x))

  check_no : (n : ℕ) → 8 ≤ n → n ≤ 13 → (r : Result RecordsFound RecordsError) → Records.view_read r ≡ Records.refused n
      → view_check (check_of_records_read b total r) ≡ answer_with_room (judged (no n))
  check_no n h h' (Ok x) f = absurd (omega (arith, numbers f))
  check_no n h h' (Err (RecordsError.Refused x)) f = ap refuses (numbers f)
  check_no n h h' (Err (RecordsError.NoRoom k l)) f = absurd (omega (arith, numbers f))

  pub checks : (y : Step ℕ (List RecordSpans)) → Refuses y → (r : Result RecordsFound RecordsError) → Records.view_read r ≡ answer_due first t y
      → view_check (check_of_records_read b total r) ≡ answer_with_room (judged y)
  checks (ok rs p) h r f = check_ok rs p (roomy first rs t) r f
  checks (no n) h r f = check_no n h.0 h.1 r f

  -- ---- the reading, with the tables at exit

  module _ (t' : Tables) where
    -- by whether there is room
    module _ (rs : List RecordSpans) (p : ℕ) where
      roomed : (z : Bool) → roomy first rs t ≡ z → t' ≡ pick z (with_rows first rs t) t → tables_of (judged (ok rs p)) t ≡ t'
      roomed z e f = ap (λ (x : Bool). pick x (with_rows first rs t) t) (room_is first rs t ∙ e) ∙ sym f

      answered : (z : Bool) → roomy first rs t ≡ z
          → answer_of (judged (ok rs p)) (rooms_of t) ≡ pick z (accepts (view_fields b) of_records (length rs) (headers_in rs) total) (lacks_room (length rs) (headers_in rs))
      answered z e =
          ap (λ (x : Bool). pick x (accepts (view_fields b) of_records (length rs) (headers_in rs) total) (lacks_room (length rs) (headers_in rs))) (room_is first rs t ∙ e)

      read_ok : (z : Bool) → roomy first rs t ≡ z → (r : Result RecordsFound RecordsError)
          → Records.view_read r ≡ pick z (Records.accepted (counts_of rs) p) (Records.no_room (counts_of rs)) → t' ≡ pick z (with_rows first rs t) t
          → ReadBy (judged (ok rs p)) t (record { result = read_of b total r; tables = t' })
      read_ok true e (Ok x) f g =
          record {
            answer = (λ i. accepts (view_fields b) of_records ((counts f).0 i) ((counts f).1 i) total) ∙ sym (answered true e);
            tables = sym (roomed true e g);
          }
      read_ok false e (Err (RecordsError.NoRoom k l)) f g =
          record { answer = (λ i. lacks_room ((counts f).0 i) ((counts f).1 i)) ∙ sym (answered false e); tables = sym (roomed false e g) }
      read_ok true e (Err (RecordsError.NoRoom k l)) f g = absurd (omega (arith, numbers f))
      read_ok false e (Ok x) f g = absurd (omega (arith, numbers f))
      read_ok true e (Err (RecordsError.Refused x)) f g = absurd (omega (arith, numbers f, least x))
      read_ok false e (Err (RecordsError.Refused x)) f g = absurd (omega (arith, numbers f, least x))

    read_no : (n : ℕ) → 8 ≤ n → n ≤ 13 → (r : Result RecordsFound RecordsError) → Records.view_read r ≡ Records.refused n → t' ≡ t
        → ReadBy (judged (no n)) t (record { result = read_of b total r; tables = t' })
    read_no n h h' (Ok x) f g = absurd (omega (arith, numbers f))
    read_no n h h' (Err (RecordsError.Refused x)) f g = record { answer = ap refuses (numbers f); tables = g }
    read_no n h h' (Err (RecordsError.NoRoom k l)) f g = absurd (omega (arith, numbers f))

    pub reads : (y : Step ℕ (List RecordSpans)) → Refuses y → (r : Result RecordsFound RecordsError) → Records.view_read r ≡ answer_due first t y
        → t' ≡ tables_due first t y → ReadBy (judged y) t (record { result = read_of b total r; tables = t' })
    reads (ok rs p) h r f g = read_ok rs p (roomy first rs t) refl r f g
    reads (no n) h r f g = read_no n h.0 h.1 r f g

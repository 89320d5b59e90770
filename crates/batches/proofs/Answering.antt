-- What the check and the reading of a batch return: by what was opened, by its control bit, and by what the marker or
-- the records say. The premises have the form in which a proof finds them. Assumes nothing.
use Prim.Native.Nat.{ℕ, ◌+◌, ◌≤◌}
use mathlib.Core.Path.{◌≡◌, refl, sym, ap, ◌∙◌, subst}
use mathlib.Core.Bool.{Bool, true, false}
use mathlib.Core.List.{List}
use lib.ListN.{length, take}
use Rattle.std.specs.Prelude.{Result, Ok, Err, IsErrAnd}
use Rattle.primitives.proofs.Exits.{exit}
use Rattle.primitives.specs.Step.{Step, ok, no, map_step}
use Rattle.records.specs.Judgement.{RecordSpans, records_at}
use Rattle.records.specs.Rows.{Tables}
use Rattle.records.proofs.Refusals.{records_refuses}
use Rattle.reading.specs.declared.RecordsFound.{RecordsFound}
use Rattle.reading.specs.declared.RecordsError.{RecordsError}
use Rattle.layout.specs.Fixed.{view_batch_fields}
use Rattle.layout.specs.Batch.{Fields, Marker, Content, control, records}
use Rattle.opening.specs.declared.BatchFault.{BatchFault}
use Rattle.opening.specs.declared.Opened.{Opened}
use Rattle.opening.specs.declared.OpenError.{OpenError}
use Rattle.opening.specs.Judgement.{Judged, Judgement, content_at, way_of, judge_at}
use Rattle.opening.specs.Answers.{batch_number_of, view_judged, view_known_at}
use Rattle.opening.specs.Opened.{KnownAt, open_at, judged_as, judged_from}
use Rattle.opening.proofs.Judging.{judged_by_opening, opened_inside}
use Rattle.markers.specs.declared.ControlBatchRecord.{ControlBatchRecord}
use Rattle.markers.specs.Markers.{view_marker}
use Rattle.layout.specs.declared.ControlMode.{ControlMode}
use Rattle.batches.specs.declared.RecordBatch.{RecordBatch}
use Rattle.batches.specs.declared.BatchFound.{BatchFound}
use Rattle.batches.specs.declared.ReadError.{ReadError}
use Rattle.batches.specs.Answers.{Answer, of_records, of_marker, accepts, wants, refuses, view_fields, error_of_opening, error_of_records, answer_with_room}
use Rattle.batches.specs.Answers as Answers
use Rattle.batches.specs.Promises.{ReadOutcome, ReadBy, ReadBodyPromise}
use Rattle.batches.specs.Reading.{check_of_records_read}
use Rattle.batches.proofs.Storing.{checks, read_of, reads}

-- what was opened
abbrev pub view_opened : Result Opened OpenError → Judged KnownAt
view_opened = view_judged view_known_at

-- ---- a marker needs no room

abbrev marked : ControlMode → List ℕ → ℕ → Step ℕ (Content RecordSpans)
marked mode s p = map_step control (way_of mode s p)

marker_needs_no_room : (x : Fields) (first total : ℕ) (t : Tables) (y : Step ℕ Marker) (r : Result BatchFound ReadError)
    → Answers.view_read r ≡ answer_with_room (judged_as x 0 total (map_step control y))
    → ReadBy (judged_as x first total (map_step control y)) t (record { result = r; tables = t })
marker_needs_no_room x first total t (ok m q) r e = record { answer = e; tables = refl }
marker_needs_no_room x first total t (no n) r e = record { answer = e; tables = refl }

-- what is returned of a fault in the opening, in the marker or in the records
pub check_err : (r : Result BatchFound OpenError) (f : OpenError) → IsErrAnd r (λ e. e ≡ f) → Answers.view_check r ≡ Answers.view_check (Err f)
check_err r f x = ap Answers.view_check (exit r x)

pub read_err : (r : Result BatchFound ReadError) (f : ReadError) → IsErrAnd r (λ e. e ≡ f) → Answers.view_read r ≡ Answers.view_read (Err f)
read_err r f x = ap Answers.view_read (exit r x)

same_error : (f : OpenError) → Answers.view_read (Err (error_of_opening f)) ≡ Answers.view_check (Err f)
same_error (OpenError.MoreBytes n) = refl
same_error (OpenError.Refused f) = refl

module _ (mode : ControlMode) (s : List ℕ) (at : ℕ) (b : RecordBatch) (total : ℕ) where
  abbrev due : Step ℕ Marker → Answer
  due y = answer_with_room (judged_as (view_fields b) 0 total (map_step control y))

  pub marker_got : (m : ControlBatchRecord) (end : ℕ) → ok (view_marker m) end ≡ way_of mode s at
      → accepts (view_fields b) (of_marker (view_marker m)) 0 0 total ≡ due (way_of mode s at)
  marker_got m end e = ap due e

  pub marker_refused : (h : BatchFault) → no (batch_number_of h) ≡ way_of mode s at → refuses (batch_number_of h) ≡ due (way_of mode s at)
  marker_refused h e = ap due e

-- ---- the judgement, by what was opened

by_judgement : {j j' : Judgement} {t : Tables} {o : ReadOutcome} → j ≡ j' → ReadBy j t o → ReadBy j' t o
by_judgement {t = t} {o = o} e x = subst (λ (j : Judgement). ReadBy j t o) e x

pub opened_within : (s : List ℕ) (at : ℕ) (x : Opened) → view_opened (Ok x) ≡ open_at s at → at + x.total ≤ length s
opened_within s at x e = (opened_inside s at _ (sym e)).end

module _ (mode : ControlMode) (s : List ℕ) (at : ℕ) where
  judged : (first : ℕ) (a : Result Opened OpenError) → view_opened a ≡ open_at s at → judged_from (way_of mode) s at first (view_opened a) ≡ judge_at mode s at first
  judged first a e = ap (judged_from (way_of mode) s at first) e ∙ sym (judged_by_opening (way_of mode) s at first)

  -- ---- nothing was opened

  check_error : (f : OpenError) → Answers.view_check (Err f) ≡ answer_with_room (judged_from (way_of mode) s at 0 (view_opened (Err f)))
  check_error (OpenError.MoreBytes n) = refl
  check_error (OpenError.Refused f) = refl

  pub check_unopened : (r : Result BatchFound OpenError) (f : OpenError) → IsErrAnd r (λ e. e ≡ f) → view_opened (Err f) ≡ open_at s at
      → Answers.view_check r ≡ answer_with_room (judge_at mode s at 0)
  check_unopened r f x e = check_err r f x ∙ check_error f ∙ ap answer_with_room (judged 0 (Err f) e)

  module _ (first : ℕ) (t : Tables) where
    read_error : (f : OpenError)
        → ReadBy (judged_from (way_of mode) s at first (view_opened (Err f))) t (record { result = Err (error_of_opening f); tables = t })
    read_error (OpenError.MoreBytes n) = record { answer = refl; tables = refl }
    read_error (OpenError.Refused f) = record { answer = refl; tables = refl }

    pub read_unopened : (r : Result BatchFound ReadError) (f : OpenError) → IsErrAnd r (λ e. e ≡ error_of_opening f)
        → view_opened (Err f) ≡ open_at s at → ReadBy (judge_at mode s at first) t (record { result = r; tables = t })
    read_unopened r f x e =
        subst (λ (y : Result BatchFound ReadError). ReadBy (judge_at mode s at first) t (record { result = y; tables = t })) (sym (exit r x))
        (by_judgement (judged first (Err f) e) (read_error f))

  module _ (x : Opened) (e : view_opened (Ok x) ≡ open_at s at) (b : RecordBatch) (same : view_fields b ≡ view_batch_fields x.fields) where
    abbrev window : List ℕ
    window = take (at + x.total) s

    -- the batch that is handed out has the fields that were opened
    judged_content : (first : ℕ) (y : Step ℕ (Content RecordSpans)) → y ≡ content_at (way_of mode) x.is_control window x.count x.next.at
        → judged_as (view_fields b) first x.total y ≡ judge_at mode s at first
    judged_content first y g = (λ i. judged_as (same i) first x.total (g i)) ∙ judged first (Ok x) e

    -- ---- a marker

    module _ (g : x.is_control ≡ true) where
      judged_marker : (first : ℕ) → judged_as (view_fields b) first x.total (marked mode window x.next.at) ≡ judge_at mode s at first
      judged_marker first =
          judged_content first (marked mode window x.next.at)
          (ap (λ (t : Bool). content_at (way_of mode) t window x.count x.next.at) (sym g))

      module _ (r : Result BatchFound OpenError) (m : Answers.view_check r ≡ answer_with_room (judged_as (view_fields b) 0 x.total (marked mode window x.next.at))) where
        pub check_marker : Answers.view_check r ≡ answer_with_room (judge_at mode s at 0)
        check_marker = m ∙ ap answer_with_room (judged_marker 0)

        read_marker : (first : ℕ) (t : Tables) (y : Result BatchFound ReadError) → Answers.view_read y ≡ Answers.view_check r
            → ReadBy (judge_at mode s at first) t (record { result = y; tables = t })
        read_marker first t y h =
            by_judgement (judged_marker first)
            (marker_needs_no_room (view_fields b) first x.total t (way_of mode window x.next.at) y (h ∙ m))

      pub read_marker_got : (found : BatchFound)
          → Answers.view_check (Ok found) ≡ answer_with_room (judged_as (view_fields b) 0 x.total (marked mode window x.next.at))
          → (first : ℕ) (t : Tables) → ReadBy (judge_at mode s at first) t (record { result = Ok found; tables = t })
      read_marker_got found m first t = read_marker (Ok found) m first t (Ok found) refl

      pub read_marker_wrong : (f : OpenError)
          → Answers.view_check (Err f) ≡ answer_with_room (judged_as (view_fields b) 0 x.total (marked mode window x.next.at))
          → (first : ℕ) (t : Tables) (r : Result BatchFound ReadError) → IsErrAnd r (λ e. e ≡ error_of_opening f)
          → ReadBy (judge_at mode s at first) t (record { result = r; tables = t })
      read_marker_wrong f m first t r y = read_marker (Err f) m first t r (read_err r _ y ∙ same_error f)

    -- ---- records

    module _ (g : x.is_control ≡ false) where
      abbrev found_records : Step ℕ (List RecordSpans)
      found_records = records_at window x.count x.next.at

      judged_records : (first : ℕ) → judged_as (view_fields b) first x.total (map_step records found_records) ≡ judge_at mode s at first
      judged_records first =
          judged_content first (map_step records found_records)
          (ap (λ (t : Bool). content_at (way_of mode) t window x.count x.next.at) (sym g))

      pub check_records_as : (t t' : Tables) (y : Result RecordsFound RecordsError)
          → ReadBodyPromise window x.next.at x.count 0 t (record { result = y; tables = t' })
          → (r : Result BatchFound OpenError) → r ≡ check_of_records_read b x.total y → Answers.view_check r ≡ answer_with_room (judge_at mode s at 0)
      check_records_as t t' y m r e =
          ap Answers.view_check e
          ∙ checks b 0 x.total t found_records (records_refuses window x.count x.next.at) y m.answer
          ∙ ap answer_with_room (judged_records 0)

      module _ (first : ℕ) (t t' : Tables) where
        read_records_as : (y : Result RecordsFound RecordsError)
            → ReadBodyPromise window x.next.at x.count first t (record { result = y; tables = t' })
            → ReadBy (judge_at mode s at first) t (record { result = read_of b x.total y; tables = t' })
        read_records_as y m =
            by_judgement (judged_records first)
            (reads b first x.total t t' found_records (records_refuses window x.count x.next.at) y m.answer m.tables)

        pub read_records_found : (y : RecordsFound) → ReadBodyPromise window x.next.at x.count first t (record { result = Ok y; tables = t' })
            → ReadBy (judge_at mode s at first) t (record { result = read_of b x.total (Ok y); tables = t' })
        read_records_found y m = read_records_as (Ok y) m

        pub read_records_wrong : (f : RecordsError) → ReadBodyPromise window x.next.at x.count first t (record { result = Err f; tables = t' })
            → (r : Result BatchFound ReadError) → IsErrAnd r (λ e. e ≡ error_of_records f)
            → ReadBy (judge_at mode s at first) t (record { result = r; tables = t' })
        read_records_wrong f m r y =
            subst (λ (z : Result BatchFound ReadError). ReadBy (judge_at mode s at first) t (record { result = z; tables = t' })) (sym (exit r y))
            (read_records_as (Err f) m)

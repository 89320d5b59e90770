-- What is written: the answer and the output are those of what is given, and that is an encoding of what was asked for.
-- Assumes nothing.
use Prim.Native.Nat.{ℕ, ◌+◌, ◌<◌}
use mathlib.Core.Path.{◌≡◌, refl, sym, ap, ◌∙◌}
use mathlib.Core.Bool.{Bool, true, false}
use mathlib.Core.Logic.{◌⊎◌, inl, inr}
use mathlib.Core.List.{List, ◌++◌}
use native.Mathlib.Omega.{arith}
use native.Mathlib.Nat.{zero-add}
use borrow.Author.Tests.{leb-false}
use lib.Dec.{eqb, leb}
use lib.ListN.{length, take, drop}
use lib.Seq.{take_at}
use Rattle.numbers.specs.Pick.{pick}
use Rattle.primitives.specs.Step.{Step, ok, no}
use Rattle.primitives.proofs.Refusing.{RefusedBy, map_refused}
use Rattle.records.specs.Judgement.{RecordSpans}
use Rattle.records.specs.Rows.{Tables}
use Rattle.asking.specs.declared.WriteFault.{WriteFault}
use Rattle.asking.specs.Asked.{RowPlace, records_asked}
use Rattle.asking.proofs.Refusals.{RowFault, records_refused}
use Rattle.std.specs.Prelude.{Result, Ok, Err}
use Rattle.writing.specs.Answers.{Answer, writes, refuses, view_written, Given, given, refused, measured, over}
use Rattle.writing.specs.Promises.{WriteOutcome, WriteBy}
use Rattle.writing.proofs.Single.{single_written}
use Rattle.writing.proofs.Outcomes.{Numbered, numbers, put}
use Rattle.layout.specs.Batch.{Fields, Content, records}
use Rattle.layout.specs.declared.ControlMode.{ControlMode}
use Rattle.markers.specs.Forms.{writes_of}
use Rattle.batches.specs.Answers.{view_fields}
use Rattle.batches.specs.Writer.{batch_length_of, written_batch, Wanted, marker, rows, view_wanted, rows_asked, content_asked, most_length, batch_given_by, batch_given}
use Rattle.batches.specs.Request.{Request}
use Rattle.batches.specs.Rewriting.{WrittenAs, Written, WriteUntouched, WriteMeasures, MarkerAlone}
use Rattle.batches.proofs.Encodes.{shows}
use Rattle.batches.proofs.Given.{given_for_lem, given_encodes}

-- ---- a refusal has a number of its own

pub pick_numbered : (t : Bool) (g : Given) (n : ℕ) → Numbered g → 0 < n → Numbered (pick t g (refused n))
pick_numbered true g n w h = w
pick_numbered false g n w h = h

given_by_numbered : (x : Fields) (s : List ℕ) (asked : Step RowPlace (Content RecordSpans)) → RefusedBy (λ n. 0 < n) asked
    → Numbered (batch_given_by x s asked)
given_by_numbered x s (ok c p) w =
    pick_numbered (leb (batch_length_of (shows x s c)) most_length) (given (written_batch (shows x s c))) 23 tt (omega arith)
given_by_numbered x s (no n) h = h

row_numbered : {P A : Type 0} (x : Step P A) → RefusedBy RowFault x → RefusedBy (λ n. 0 < n) x
row_numbered (ok a p) w = tt
row_numbered (no n) (l, h) = omega arith

content_refused : (mode : ControlMode) (wanted : Wanted) (t : Tables) (s : List ℕ) → RefusedBy (λ n. 0 < n) (content_asked mode wanted t s)
unfolding writes_of
content_refused ControlMode.Bare (marker m) t s = omega arith
content_refused ControlMode.Keyed (marker m) t s = tt
content_refused mode (rows n) t s =
    row_numbered (rows_asked n t s) (map_refused RowFault records (records_asked t s 0 n) (records_refused t s 0 n))

pub given_numbered : (mode : ControlMode) (x : Fields) (codec : ℕ) (wanted : Wanted) (t : Tables) (s : List ℕ) → Numbered (batch_given mode x codec wanted t s)
unfolding batch_given
given_numbered mode x codec wanted t s =
    pick_numbered (eqb codec 0) (batch_given_by x s (content_asked mode wanted t s)) 20
    (given_by_numbered x s (content_asked mode wanted t s) (content_refused mode wanted t s)) (omega arith)

-- ---- what was given

pub written : Written
written q out o n promise e =
    let x = view_fields q.batch in
    let wanted = view_wanted q.kind in
    let p = put (batch_given q.mode x q.codec wanted q.tables q.source) (given_numbered q.mode x q.codec wanted q.tables q.source) 0 n out o
    (ap view_written (sym e) ∙ promise.by.answer) promise.by.output in
    let g = given_for_lem q.mode x q.codec wanted q.tables q.source p.is in
    record {
      bytes = p.bytes;
      length_is = p.length_is;
      output_is = p.output_is ∙ ap (λ (k : ℕ). p.bytes ++ drop k out) (zero-add (length p.bytes) ∙ p.length_is);
      content = g.content;
      asked = record { place = g.place; is = g.is };
      encodes = given_encodes q.mode x wanted q.tables q.source promise.handed.fields promise.handed.source g;
    }

-- the output begins with it
pub written_begins : {q : Request} {out : List ℕ} {o : WriteOutcome} {n : ℕ} (w : WrittenAs q out o n) → take n o.output ≡ w.bytes
written_begins {out = out} {n = n} w = ap (take n) w.output_is ∙ take_at w.bytes (drop n out) n w.length_is

-- ---- refusals

untouched_by : (room : Bool) (bs out : List ℕ) (o : WriteOutcome) → view_written o.result ≡ pick room (writes (length bs)) (refuses 24)
    → o.output ≡ pick room (over 0 bs out) out → ((view_written o.result).number ≡ 0 → ⊥)
    → (o.output ≡ out) × ((view_written o.result).bytes ≡ 0)
untouched_by true bs out o e f h = absurd (h (numbers e))
untouched_by false bs out o e f h = (f, ap (λ (x : Answer). x.bytes) e)

untouched : (g : Given) (out : List ℕ) (o : WriteOutcome) → WriteBy g 0 out o → ((view_written o.result).number ≡ 0 → ⊥)
    → (o.output ≡ out) × ((view_written o.result).bytes ≡ 0)
untouched (given bs) out o e h = untouched_by (leb (0 + length bs) (length out)) bs out o e.answer e.output h
untouched (refused n) out o e h = (e.output, ap (λ (x : Answer). x.bytes) e.answer)

pub write_untouched : WriteUntouched
write_untouched q out o e h = untouched _ out o e.by h

-- ---- writing is measuring

abbrev Measured : List ℕ → Result ℕ WriteFault → Result ℕ WriteFault → Type 0
Measured out w r =
    (w ≡ r) ⊎ ((w ≡ Err WriteFault.ShortOutput) × ((n : ℕ) × (r ≡ Ok n) × (length out < n)))

measures_by : (room : Bool) (bs out : List ℕ) (w r : Result ℕ WriteFault) → leb (0 + length bs) (length out) ≡ room
    → view_written w ≡ pick room (writes (length bs)) (refuses 24) → view_written r ≡ writes (length bs) → Measured out w r
measures_by true bs out w r h e f = inl (single_written _ w r e f)
measures_by false bs out w r h e f =
    inr (
      single_written _ w (Err WriteFault.ShortOutput) e refl,
      (length bs, single_written _ r (Ok (length bs)) f refl, omega (arith, leb-false (0 + length bs) (length out) h)),
    )

measures : (g : Given) (out : List ℕ) (o : WriteOutcome) (r : Result ℕ WriteFault) → WriteBy g 0 out o → view_written r ≡ measured g
    → Measured out o.result r
measures (given bs) out o r e f = measures_by (leb (0 + length bs) (length out)) bs out o.result r refl e.answer f
measures (refused n) out o r e f = inl (single_written _ o.result r e.answer f)

pub write_measures : WriteMeasures
write_measures q out o r e f = measures _ out o r e.by f

-- ---- markers

pub marker_alone : MarkerAlone
unfolding batch_given writes_of
marker_alone ControlMode.Bare x codec m t t' s s' = refl
marker_alone ControlMode.Keyed x codec m t t' s s' = refl

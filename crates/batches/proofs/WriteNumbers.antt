-- Each of the writer's numbers is given exactly where document 01 says: its tests are made in order, and each that
-- fails gives its own number. Assumes nothing.
use Prim.Native.Nat.{ℕ, ◌+◌, ◌≤◌, ◌<◌}
use mathlib.Core.Path.{◌≡◌, refl, sym, ap, ◌∙◌, subst}
use mathlib.Core.Bool.{Bool, true, false}
use mathlib.Core.Logic.{◌⊎◌, inl, inr}
use mathlib.Core.List.{List}
use native.Mathlib.Omega.{arith}
use native.Mathlib.Decide.{dec_le, ℕ_discrete}
use native.Mathlib.Nat.{zero-add}
use borrow.Author.Tests.{le-leb, lt-leb, eq-eqb, ne_eqb}
use lib.Dec.{leb}
use lib.ListN.{length}
use Rattle.numbers.specs.Exactly.{Exactly}
use Rattle.numbers.specs.Pick.{pick}
use Rattle.primitives.specs.Step.{Step, ok, no}
use Rattle.primitives.proofs.Steps.{ok_not_no, map_no}
use Rattle.primitives.proofs.Refusing.{RefusedBy}
use Rattle.records.specs.Format.{Record}
use Rattle.records.specs.Judgement.{RecordSpans}
use Rattle.records.specs.Rows.{Tables}
use Rattle.asking.specs.Asked.{RowPlace, records_asked}
use Rattle.asking.specs.RowFaults.{AskedWrong}
use Rattle.asking.proofs.Refusals.{RowFault, records_refused}
use Rattle.asking.proofs.RowFaults.{row_faults}
use Rattle.writing.specs.Answers.{Answer, writes, refuses, view_written, given, refused, answer_due}
use Rattle.writing.proofs.Outcomes.{numbers}
use Rattle.layout.specs.Table.{uncounted}
use Rattle.layout.specs.Batch.{Marker, Content, records, Batch}
use Rattle.layout.specs.declared.ControlMode.{ControlMode}
use Rattle.markers.specs.Forms.{writes_of}
use Rattle.batches.specs.Answers.{view_fields}
use Rattle.batches.specs.Writer.{batch_length_of, written_batch, Wanted, marker, rows, view_wanted, marker_asked, content_asked, most_length, batch_given}
use Rattle.batches.specs.Request.{Request}
use Rattle.batches.specs.Rewriting.{batch_asked, RowsRefusedBy, AsksBareMarker, AsksLength, WriteNumbers}
use Rattle.batches.proofs.Encodes.{content_length}
use Rattle.batches.proofs.Giving.{written_length}

-- ---- what is refused by a wrong row

module _ (mode : ControlMode) (t : Tables) (s : List ℕ) where
  wrong_row : (w : Wanted) (count : ℕ) {n : ℕ} → w ≡ rows count → AskedWrong t s 0 count n → content_asked mode w t s ≡ no n
  wrong_row w count {n} e x = rw (e, (row_faults t s 0 count n).1 x)

  wrong_marker : (w : Wanted) (m : Marker) → w ≡ marker m → mode ≡ ControlMode.Bare → content_asked mode w t s ≡ no 41
  unfolding writes_of
  wrong_marker w m e f = rw (e, f)

-- a marker is refused in one mode, and by one number
marker_refused : (mode : ControlMode) (m : Marker) {n : ℕ} → marker_asked (writes_of mode m) m ≡ no n → (mode ≡ ControlMode.Bare) × (41 ≡ n)
unfolding writes_of
marker_refused ControlMode.Bare m e = (refl, cc)
marker_refused ControlMode.Keyed m e = ok_not_no e

-- ---- what is answered of a batch of some length

lengths_are : (b : Batch Record) → length (written_batch b) ≡ uncounted + batch_length_of b
lengths_are b = omega (arith, written_length b, content_length b)

-- by whether the length is within its field, and within the output
abbrev by_lengths : Bool → Bool → ℕ → Answer
by_lengths short room n = pick short (pick room (writes n) (refuses 24)) (refuses 23)

due_by : (short : Bool) (bs out : List ℕ) (n : ℕ) → length bs ≡ n
    → answer_due 0 out (pick short (given bs) (refused 23)) ≡ by_lengths short (leb n (length out)) n
due_by true bs out n e = rw (zero-add (length bs), e) refl
due_by false bs out n e = refl

length_by : (short room : Bool) (n : ℕ) → (by_lengths short room n).number ≡ 0 → (by_lengths short room n).bytes ≡ n
length_by true true n e = refl
length_by true false n e = absurd (omega arith)
length_by false room n e = absurd (omega arith)

-- ---- which test was the first to fail, or that none did

data Told (q : Request) (out : List ℕ) : ℕ → Type 0 where
  by_codec : (q.codec ≡ 0 → ⊥) → Told q out 20
  by_marker : AsksBareMarker q → Told q out 41
  by_row : RowsRefusedBy q 21 → Told q out 21
  by_key : RowsRefusedBy q 22 → Told q out 22
  by_length : {n : ℕ} → AsksLength q n → most_length < n → Told q out 23
  by_output : {n : ℕ} → AsksLength q n → n ≤ most_length → length out < uncounted + n → Told q out 24
  by_none : {n : ℕ} → AsksLength q n → n ≤ most_length → uncounted + n ≤ length out → Told q out 0

module _ (q : Request) (out : List ℕ) where
  abbrev asked : Step RowPlace (Content RecordSpans)
  asked = content_asked q.mode (view_wanted q.kind) q.tables q.source

  abbrev due : Answer
  due = answer_due 0 out (batch_given q.mode (view_fields q.batch) q.codec (view_wanted q.kind) q.tables q.source)

  -- one of these is so
  told_rows : q.codec ≡ 0 → (count : ℕ) → view_wanted q.kind ≡ rows count → (n : ℕ) → records_asked q.tables q.source 0 count ≡ no n
      → RowFault n → (k : ℕ) × Told q out k
  told_rows e count is n f (l, h) =
      let wrong : AskedWrong q.tables q.source 0 count n = (row_faults q.tables q.source 0 count n).0 f in
      elim (ℕ_discrete n 21) [
        | yes g ↦ (21, by_row (e, (count, is, subst (AskedWrong q.tables q.source 0 count) g wrong)))
        | Dec.no g ↦
            let g' : n ≡ 22 = omega arith in
            (22, by_key (e, (count, is, subst (AskedWrong q.tables q.source 0 count) g' wrong)))
      ]

  told_no : q.codec ≡ 0 → (w : Wanted) → view_wanted q.kind ≡ w → (n : ℕ) → content_asked q.mode w q.tables q.source ≡ no n
      → (k : ℕ) × Told q out k
  told_no e (marker m) is n f = (41, by_marker (e, (marker_refused q.mode m f).0, (m, is)))
  told_no e (rows count) is n f =
      let i = map_no records (records_asked q.tables q.source 0 count) f in
      told_rows e count is n i (subst (RefusedBy RowFault) i (records_refused q.tables q.source 0 count))

  told_by : q.codec ≡ 0 → (x : Step RowPlace (Content RecordSpans)) → asked ≡ x → (k : ℕ) × Told q out k
  told_by e (ok c p) f =
      let n : ℕ = batch_length_of (batch_asked q c) in
      let a : AsksLength q n = record { codec_none = e; content = c; asked = record { place = p; is = f }; length_is = refl } in
      elim (dec_le n most_length) [
        | yes h ↦
            elim (dec_le (uncounted + n) (length out)) [
              | yes g ↦ (0, by_none a h g)
              | Dec.no g ↦ (24, by_output a h (omega arith))
            ]
        | Dec.no h ↦ (23, by_length a (omega arith))
      ]
  told_by e (no n) f = told_no e (view_wanted q.kind) refl n f

  told : (k : ℕ) × Told q out k
  told =
      elim (ℕ_discrete q.codec 0) [
        | yes e ↦ told_by e asked refl
        | Dec.no h ↦ (20, by_codec h)
      ]

  -- and it gives the answer
  refused_due : {k : ℕ} → RowsRefusedBy q k → due ≡ refuses k
  unfolding batch_given
  refused_due (e, (count, is, x)) =
      rw (eq-eqb q.codec 0 e, wrong_row q.mode q.tables q.source (view_wanted q.kind) count is x) refl

  marker_due : AsksBareMarker q → due ≡ refuses 41
  unfolding batch_given
  marker_due (e, is, (m, f)) =
      rw (eq-eqb q.codec 0 e, wrong_marker q.mode q.tables q.source (view_wanted q.kind) m f is) refl

  length_due : {n : ℕ} → AsksLength q n → due ≡ by_lengths (leb n most_length) (leb (uncounted + n) (length out)) (uncounted + n)
  unfolding batch_given
  length_due {n} a =
      let b : Batch Record = batch_asked q a.content in
      let long : length (written_batch b) ≡ uncounted + n = lengths_are b ∙ ap (λ (k : ℕ). uncounted + k) a.length_is in
      rw (eq-eqb q.codec 0 a.codec_none, a.asked.is)
      (due_by (leb (batch_length_of b) most_length) (written_batch b) out (uncounted + n) long
      ∙ ap (λ (k : ℕ). by_lengths (leb k most_length) (leb (uncounted + n) (length out)) (uncounted + n)) a.length_is)

  told_due_lem : {k : ℕ} → Told q out k → due.number ≡ k
  unfolding batch_given
  told_due_lem (by_codec h) = rw (ne_eqb q.codec 0 h) refl
  told_due_lem (by_marker f) = numbers (marker_due f)
  told_due_lem (by_row f) = numbers (refused_due f)
  told_due_lem (by_key f) = numbers (refused_due f)
  told_due_lem (by_length {n} a h) = numbers (length_due a) ∙ rw (lt-leb n most_length h) refl
  told_due_lem (by_output {n} a h g) = numbers (length_due a) ∙ rw (le-leb n most_length h, lt-leb (uncounted + n) (length out) g) refl
  told_due_lem (by_none {n} a h g) = numbers (length_due a) ∙ rw (le-leb n most_length h, le-leb (uncounted + n) (length out) g) refl

  module _ (a : Answer) (e : a ≡ due) where
    is_told : {k : ℕ} → a.number ≡ k → Told q out k
    is_told f = let (k, t) = told in subst (Told q out) (sym (told_due_lem t) ∙ sym (numbers e) ∙ f) t

    exactly : {k : ℕ} {F : Type 0} → (Told q out k → F) → (F → Told q out k) → Exactly (a.number ≡ k) F
    exactly f g = (λ h. f (is_told h), λ x. numbers e ∙ told_due_lem (g x))

    length_of_lem : (n : ℕ) → AsksLength q n → a.number ≡ 0 → a.bytes ≡ uncounted + n
    length_of_lem n x h =
        let is = e ∙ length_due x in
        ap (λ (a : Answer). a.bytes) is ∙ length_by (leb n most_length) (leb (uncounted + n) (length out)) (uncounted + n) (sym (numbers is) ∙ h)

-- ---- what document 01 says of each

module _ {q : Request} {out : List ℕ} where
  codec_told : Told q out 20 → q.codec ≡ 0 → ⊥
  codec_told (by_codec h) = h

  marker_told : Told q out 41 → AsksBareMarker q
  marker_told (by_marker f) = f

  row_told : Told q out 21 → RowsRefusedBy q 21
  row_told (by_row f) = f

  key_told : Told q out 22 → RowsRefusedBy q 22
  key_told (by_key f) = f

  length_told : Told q out 23 → (n : ℕ) × AsksLength q n × (most_length < n)
  length_told (by_length {n} a h) = (n, a, h)

  output_told : Told q out 24 → (n : ℕ) × AsksLength q n × (n ≤ most_length) × (length out < uncounted + n)
  output_told (by_output {n} a h g) = (n, a, h, g)

  none_told : Told q out 0 → (n : ℕ) × AsksLength q n × (n ≤ most_length) × (uncounted + n ≤ length out)
  none_told (by_none {n} a h g) = (n, a, h, g)

  told_within : {k : ℕ} → Told q out k → (k ≡ 0) ⊎ (((20 ≤ k) × (k ≤ 24)) ⊎ (k ≡ 41))
  told_within (by_codec h) = inr (inl (omega arith, omega arith))
  told_within (by_marker f) = inr (inr refl)
  told_within (by_row f) = inr (inl (omega arith, omega arith))
  told_within (by_key f) = inr (inl (omega arith, omega arith))
  told_within (by_length a h) = inr (inl (omega arith, omega arith))
  told_within (by_output a h g) = inr (inl (omega arith, omega arith))
  told_within (by_none a h g) = inl refl

pub write_numbers : WriteNumbers
write_numbers q out o w =
    let a : Answer = view_written o.result in
    let e = w.by.answer in
    record {
      twenty = exactly q out a e codec_told by_codec;
      forty_one = exactly q out a e marker_told by_marker;
      twenty_one = exactly q out a e row_told by_row;
      twenty_two = exactly q out a e key_told by_key;
      twenty_three = exactly q out a e length_told (λ (n, x, h). by_length x h);
      twenty_four = exactly q out a e output_told (λ (n, x, h, g). by_output x h g);
      accepted = exactly q out a e none_told (λ (n, x, h, g). by_none x h g);
      length_is = length_of_lem q out a e;
      no_other = told_within (is_told q out a e refl);
    }

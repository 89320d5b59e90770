-- What entries ask for, and what is given for them, by the tests that the code makes. The premises have the form in
-- which a proof finds them. Assumes nothing.
use Prim.Native.Nat.{ℕ, ◌+◌, ◌≤◌}
use mathlib.Core.Path.{◌≡◌, refl, sym, ap, ◌∙◌}
use mathlib.Core.Bool.{Bool, true, false}
use mathlib.Core.Option.{Option, none, some}
use mathlib.Core.List.{List}
use native.Mathlib.Omega.{arith}
use lib.Dec.{leb}
use lib.IntN.{ℤ, pos}
use lib.ListN.{length, get_or}
use mir.Syntax.{w64}
use mir.Val.{SFits, to_z, of_z}
use mir.ValLaws.{to_z-of_z}
use Rattle.std.specs.Prelude.{Result, Ok, Err, Some, None}
use Rattle.std.specs.Prelude as std
use Rattle.numbers.specs.Pick.{pick}
use Rattle.records.specs.Rows.{Tables}
use Rattle.asking.specs.declared.WriteFault.{WriteFault}
use Rattle.asking.specs.Answers.{write_number_of}
use Rattle.layout.specs.declared.ControlMode.{ControlMode}
use Rattle.layout.specs.Batch.{Fields}
use Rattle.writing.specs.Answers.{writes, refuses, view_written, Given, given, refused, measured, answer_due}
use Rattle.writing.specs.Promises.{WriteBy}
use Rattle.writing.specs.Promises as Writing
use Rattle.opening.specs.Judgement.{is}
use Rattle.batches.specs.declared.RecordBatch.{RecordBatch}
use Rattle.batches.specs.declared.ControlBatchOrRecords.{ControlBatchOrRecords}
use Rattle.batches.specs.Answers.{view_fields}
use Rattle.batches.specs.Writer.{Wanted, view_wanted, batch_given}
use Rattle.batches.proofs.Encodes.{content_length, shows}
use Rattle.batches.proofs.Given.{given_for_lem}
use Rattle.batches.proofs.Again.{none_not_some}
use Rattle.batches.proofs.Giving.{written_length}
use Rattle.oddrafisk.specs.Entries.{fields_fit, fields_of, kind_wanted, bare_asked, AskedBatch, asked_with, entries_asked}
use Rattle.oddrafisk.specs.Promises.{given_for, kind_given, entries_given}
use Rattle.oddrafisk.specs.Words.{view_option, view_asked, when, AsksBy, wrong_number, WritesFor}
use Rattle.oddrafisk.proofs.Tests.{is_so}
use Rattle.oddrafisk.proofs.Taken.{kind_given_lem}

-- ---- what entries ask for

module _ (e : List ℤ) (r : std.Option RecordBatch) (t : view_option view_fields r ≡ when (fields_fit e) (fields_of e)) where
  told : (a : std.Option RecordBatch) → r ≡ a → view_option view_fields a ≡ when (fields_fit e) (fields_of e)
  told a h = ap (view_option view_fields) (sym h) ∙ t

  pub fields_wrong : r ≡ None → {o : std.Option (RecordBatch × ControlBatchOrRecords)} → o ≡ None → view_option view_asked o ≡ entries_asked e
  unfolding entries_asked
  fields_wrong h n = ap (view_option view_asked) n ∙ go (fields_fit e) (told None h)
    where
      go : (b : Bool) → none ≡ when b (fields_of e) → none ≡ pick b (asked_with (fields_of e) (kind_wanted (get_or e 10 (pos 0)) (get_or e 11 (pos 0)))) none
      go true m = cc
      go false m = refl

  module _ (b : RecordBatch) (h : r ≡ Some b) (f : SFits w64 (get_or e 10 (pos 0))) (g : SFits w64 (get_or e 11 (pos 0))) (k : std.Option ControlBatchOrRecords)
      (v : view_option view_wanted k ≡ kind_wanted (to_z w64 (of_z w64 (get_or e 10 (pos 0)))) (to_z w64 (of_z w64 (get_or e 11 (pos 0))))) where
    asked_by : (a : std.Option ControlBatchOrRecords) → k ≡ a → asked_with (view_fields b) (view_option view_wanted a) ≡ entries_asked e
    unfolding entries_asked
    asked_by a m = go (fields_fit e) (told (Some b) h)
      where
        kind : view_option view_wanted a ≡ kind_wanted (get_or e 10 (pos 0)) (get_or e 11 (pos 0))
        kind =
            ap (view_option view_wanted) (sym m) ∙ v
            ∙ (λ i. kind_wanted (to_z-of_z w64 (get_or e 10 (pos 0)) f i) (to_z-of_z w64 (get_or e 11 (pos 0)) g i))

        go : (t : Bool) → some (view_fields b) ≡ when t (fields_of e)
            → asked_with (view_fields b) (view_option view_wanted a) ≡ pick t (asked_with (fields_of e) (kind_wanted (get_or e 10 (pos 0)) (get_or e 11 (pos 0)))) none
        go true m = let s : view_fields b ≡ fields_of e = cc in λ i. asked_with (s i) (kind i)
        go false m = cc

    pub kind_wrong : k ≡ None → {o : std.Option (RecordBatch × ControlBatchOrRecords)} → o ≡ None → view_option view_asked o ≡ entries_asked e
    kind_wrong m n = ap (view_option view_asked) n ∙ asked_by None m

    pub both_got : (x : ControlBatchOrRecords) → k ≡ Some x → some (view_asked (b, x)) ≡ entries_asked e
    both_got x m = asked_by (Some x) m

-- ---- what is given for them

module _ (mode : ControlMode) (e : List ℤ) (codec : ℤ) (f : SFits w64 codec) (z : of_z w64 codec ≡ 0) where
  codec_is : is 0 codec ≡ true
  codec_is = is_so codec f 0 (omega arith) z

  pub asks_by : (x : RecordBatch × ControlBatchOrRecords) → some (view_asked x) ≡ entries_asked e → AsksBy mode e codec (Ok x)
  asks_by x v =
      record {
        is = sym v;
        gives = λ t s. sym (kind_given_lem mode e t s (sym v)) ∙ rw codec_is refl;
      }

  pub asks_for_none : none ≡ entries_asked e → SFits w64 (get_or e 10 (pos 0)) → (g : WriteFault)
      → write_number_of g ≡ wrong_number mode (to_z w64 (of_z w64 (get_or e 10 (pos 0)))) → AsksBy mode e codec (Err g)
  asks_for_none v k g n =
      record {
        refuses = λ t s.
            ap refused (n ∙ ap (wrong_number mode) (to_z-of_z w64 (get_or e 10 (pos 0)) k))
            ∙ sym (by_number (bare_asked mode (get_or e 10 (pos 0)))) ∙ rw (codec_is, ← v) refl;
        nothing = λ b _ is. none_not_some (v ∙ is);
      }
    where
      by_number : (r : Bool) → pick r (refused 41) (refused 21) ≡ refused (pick r 41 21)
      by_number true = refl
      by_number false = refl

-- ---- lengths

abbrev Short : Given → Type 0
Short (given bs) = length bs ≤ 2147483659
Short (refused n) = Unit {0}

batch_short : (mode : ControlMode) (x : Fields) (wanted : Wanted) (t : Tables) (s : List ℕ) (g : Given) → batch_given mode x 0 wanted t s ≡ g → Short g
batch_short mode x wanted t s (given bs) e =
    let g = given_for_lem mode x 0 wanted t s e in
    let b = shows x s g.content in
    rw g.bytes (omega (arith, g.short, content_length b, written_length b))
batch_short mode x wanted t s (refused n) e = tt

entries_short : (mode : ControlMode) (e : List ℤ) (codec : ℤ) (t : Tables) (s : List ℕ) → Short (entries_given mode e codec t s)
entries_short mode e codec t s = pick_short (is 0 codec) (kind_given mode e t s) (kind (bare_asked mode (get_or e 10 (pos 0))))
  where
    pick_short : (b : Bool) (g : Given) → Short g → Short (pick b g (refused 20))
    pick_short true g h = h
    pick_short false g h = tt

    for : (a : Option AskedBatch) → Short (given_for mode a t s)
    for none = tt
    for (some b) = batch_short mode b.fields b.wanted t s _ refl

    kind : (r : Bool) → Short (pick r (refused 41) (given_for mode (entries_asked e) t s))
    kind true = tt
    kind false = for (entries_asked e)

measured_short : (g : Given) → Short g → (measured g).bytes ≤ 2147483659
measured_short (given bs) h = h
measured_short (refused n) h = omega arith

due_short : (out : List ℕ) (g : Given) → Short g → (answer_due 0 out g).bytes ≤ 2147483659
due_short out (given bs) h = go (leb (0 + length bs) (length out))
  where
    go : (b : Bool) → (pick b (writes (length bs)) (refuses 24)).bytes ≤ 2147483659
    go true = h
    go false = omega arith
due_short out (refused n) h = omega arith

pub measure_fits : (mode : ControlMode) (e : List ℤ) (codec : ℤ) (t : Tables) (s : List ℕ) (r : Result ℕ WriteFault)
    → view_written r ≡ measured (entries_given mode e codec t s) → (view_written r).bytes ≤ 2147483659
measure_fits mode e codec t s r v = rw v (measured_short _ (entries_short mode e codec t s))

pub write_fits : (mode : ControlMode) (e : List ℤ) (codec : ℤ) (t : Tables) (s out : List ℕ) (o : Writing.WriteOutcome) → WritesFor mode e codec t s out o
    → (view_written o.result).bytes ≤ 2147483659
write_fits mode e codec t s out o w = rw w.by.answer (due_short out _ (entries_short mode e codec t s))

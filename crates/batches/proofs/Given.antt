-- What is given is what was asked for: where bytes are given, every test before them was passed, and they are what is
-- written of the batch that the rows ask for, an encoding of it. Assumes nothing.
use Prim.Native.Nat.{ℕ, ◌^◌, ◌≤◌, ◌<◌}
use mathlib.Core.Path.{◌≡◌, refl, sym, subst}
use mathlib.Core.Bool.{Bool, true, false}
use mathlib.Core.Option.{some}
use mathlib.Core.List.{List}
use native.Mathlib.Omega.{arith}
use borrow.Author.Tests.{leb-true}
use lib.Dec.{eqb, leb}
use lib.ListN.{length}
use Rattle.numbers.specs.Bytes.{Bytes}
use Rattle.numbers.specs.Pick.{pick}
use Rattle.primitives.specs.Step.{Step, ok, no}
use Rattle.primitives.proofs.Steps.{ok_not_no, map_ok}
use Rattle.records.specs.Judgement.{RecordSpans}
use Rattle.records.specs.Rows.{Tables}
use Rattle.asking.specs.Asked.{RowPlace, records_asked}
use Rattle.asking.proofs.Writable.{all_writable, records_asked_lem}
use Rattle.writing.specs.Answers.{Given, given, refused}
use Rattle.layout.specs.Batch.{Fields, Marker, Content, control, records}
use Rattle.layout.specs.Format.{BatchBytes}
use Rattle.layout.specs.declared.ControlMode.{ControlMode}
use Rattle.markers.specs.Forms.{written_control, writes_of}
use Rattle.batches.specs.Placed.{shown_content}
use Rattle.batches.specs.Writer.{written_content, batch_length_of, written_batch, Wanted, marker, rows, marker_asked, content_asked, most_length, batch_given_by, batch_given}
use Rattle.batches.specs.Request.{InWidth}
use Rattle.batches.proofs.Encodes.{WritableContent, content_length, shows, shown_encodes}

-- ---- which way a test went

pub given_not_refused : {X : Type 0} {bs : List ℕ} {n : ℕ} → given bs ≡ refused n → X
given_not_refused e = let z : ◌≡◌ {A = ℕ} 0 1 = cc in absurd (omega arith)

pub pick_given : (t : Bool) (g : Given) (n : ℕ) {bs : List ℕ} → pick t g (refused n) ≡ given bs → (t ≡ true) × (g ≡ given bs)
pick_given true g n e = (refl, e)
pick_given false g n e = given_not_refused (sym e)

-- ---- what bytes were given for

pub record GivenFor (x : Fields) (asked : Step RowPlace (Content RecordSpans)) (s bs : List ℕ) : Type 0 where
  pub content : Content RecordSpans
  pub place : RowPlace
  pub is : asked ≡ ok content place
  pub short : batch_length_of (shows x s content) ≤ most_length
  pub bytes : bs ≡ written_batch (shows x s content)

given_by : (x : Fields) (s : List ℕ) (asked : Step RowPlace (Content RecordSpans)) {bs : List ℕ} → batch_given_by x s asked ≡ given bs
    → GivenFor x asked s bs
given_by x s (ok c p) {bs} e =
    let (t, w) = pick_given (leb (batch_length_of (shows x s c)) most_length) (given (written_batch (shows x s c))) 23 e in
    let is : written_batch (shows x s c) ≡ bs = cc in
    record { content = c; place = p; is = refl; short = leb-true _ most_length t; bytes = sym is }
given_by x s (no n) e = given_not_refused (sym e)

pub given_for_lem : (mode : ControlMode) (x : Fields) (codec : ℕ) (wanted : Wanted) (t : Tables) (s : List ℕ) {bs : List ℕ} → batch_given mode x codec wanted t s ≡ given bs
    → GivenFor x (content_asked mode wanted t s) s bs
unfolding batch_given
given_for_lem mode x codec wanted t s e =
    let asked = content_asked mode wanted t s in
    given_by x s asked (pick_given (eqb codec 0) (batch_given_by x s asked) 20 e).1

-- ---- it can be written

-- a marker that is asked for and not refused is one that is written
pub marker_asked_lem : (mode : ControlMode) (m : Marker) {c : Content RecordSpans} {p : RowPlace} → marker_asked (writes_of mode m) m ≡ ok c p
    → (control m ≡ c) × (writes_of mode m ≡ some (written_control m))
unfolding writes_of
marker_asked_lem ControlMode.Bare m e = ok_not_no (sym e)
marker_asked_lem ControlMode.Keyed m e = (cc, refl)

asked_writable : (mode : ControlMode) (wanted : Wanted) (t : Tables) (s : List ℕ) (c : Content RecordSpans) (p : RowPlace)
    → content_asked mode wanted t s ≡ ok c p → length (written_content (shown_content s c)) < 2 ^ 31 → WritableContent mode (shown_content s c)
unfolding written_content
asked_writable mode (marker m) t s c p e h =
    let (w, is) = marker_asked_lem mode m e in
    subst (λ (c : Content RecordSpans). WritableContent mode (shown_content s c)) w is
asked_writable mode (rows n) t s c p e h =
    let (rs, is, w) = map_ok records (records_asked t s 0 n) e in
    let short = subst (λ (c : Content RecordSpans). length (written_content (shown_content s c)) < 2 ^ 31) (sym w) h in
    subst (λ (c : Content RecordSpans). WritableContent mode (shown_content s c)) w (all_writable _ (records_asked_lem t s 0 n rs p is) short)

pub given_encodes : (mode : ControlMode) (x : Fields) (wanted : Wanted) (t : Tables) (s : List ℕ) {bs : List ℕ} → InWidth x → Bytes s
    → (g : GivenFor x (content_asked mode wanted t s) s bs) → BatchBytes mode true bs (shows x s g.content)
given_encodes mode x wanted t s i b g =
    let within = content_length (shows x s g.content) in
    let w = asked_writable mode wanted t s g.content g.place g.is (omega (arith, g.short)) in
    subst (λ (bs : List ℕ). BatchBytes mode true bs (shows x s g.content)) (sym g.bytes) (shown_encodes mode s x g.content b w i g.short)

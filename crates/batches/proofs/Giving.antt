-- What the writer gives of a batch, from what is given of its records: the fixed fields in front of them, as many bytes
-- more, or the same refusal. The premises have the form in which a proof finds them. Assumes nothing.
use Rattle.std.specs.Prelude.{Result, Ok, Err, IsErrAnd}
use Rattle.primitives.proofs.Exits.{exit}
use Prim.Native.Nat.{ℕ, ◌+◌, ◌-◌, ◌^◌, ◌≤◌, ◌<◌}
use mathlib.Core.Path.{◌≡◌, refl, sym, ap, ◌∙◌, subst}
use mathlib.Core.Bool.{Bool, true, false}
use mathlib.Core.List.{List, ◌++◌, append_assoc, append-nil}
use native.Mathlib.Omega.{arith}
use native.Mathlib.Decide.{dec_le}
use borrow.Author.Tests.{leb-false, le-leb, lt-leb, eq-eqb, ne_eqb}
use lib.Dec.{leb}
use lib.IntN.{ℤ, pos}
use lib.ListN.{length, take, drop, length-append, length-map}
use lib.Seq.{take_at, drop_at, length-take-le}
use mir.Syntax.{w32}
use mir.Val.{to_z}
use mir.ValLaws.{to_z_pos}
use Rattle.numbers.specs.Pick.{pick}
use Rattle.numbers.specs.Concat.{concat}
use Rattle.numbers.specs.Promises.{PutPromise}
use Rattle.numbers.proofs.Pens.{put_emits, emit_inside}
use Rattle.primitives.specs.Step.{Step, ok, no, map_step}
use Rattle.primitives.proofs.Refusing.{RefusedBy}
use Rattle.crc32c.specs.Crc.{crc32c}
use Rattle.records.specs.Format.{Record}
use Rattle.records.specs.Judgement.{RecordSpans}
use Rattle.records.specs.Placed.{shown_record, shown_records}
use Rattle.records.specs.Rows.{Tables}
use Rattle.records.specs.Written.{written_records}
use Rattle.asking.specs.declared.WriteFault.{WriteFault}
use Rattle.asking.specs.Asked.{RowPlace, row_place, records_asked}
use Rattle.asking.specs.Answers.{write_number_of}
use Rattle.asking.proofs.Accepted.{asked_many}
use Rattle.asking.proofs.Refusals.{RowFault, records_refused}
use Rattle.writing.specs.Answers.{Answer, writes, refuses, view_written, Given, given, refused, most_bytes, records_given, measured, over, answer_due, output_due}
use Rattle.writing.specs.Promises.{WriteOutcome, WriteBy}
use Rattle.writing.proofs.Outcomes.{numbers, apart, given_same, put, over_length}
use Rattle.layout.specs.Table.{uncounted, unchecked, fixed_checked, fixed_part}
use Rattle.layout.specs.Batch.{Fields, Marker, control, records, Batch}
use Rattle.layout.specs.Format.{control_bit, attributes_for, attributes_of, how_many}
use Rattle.layout.specs.Fixed.{frame_bytes, times_bytes, producer_bytes, checked_part, fixed_before}
use Rattle.layout.proofs.Putting.{fixed_length}
use Rattle.markers.specs.declared.ControlBatchRecord.{ControlBatchRecord}
use Rattle.markers.specs.Markers.{view_marker}
use Rattle.layout.specs.declared.ControlMode.{ControlMode}
use Rattle.markers.proofs.Keyed.{control_size_lem}
use Rattle.markers.specs.Forms.{written_control, control_size, writes_of}
use Rattle.batches.specs.declared.ControlBatchOrRecords.{ControlBatchOrRecords}
use Rattle.batches.specs.Writer.{marked_size, written_content, checked_bytes, batch_length_of, written_batch, most_length, view_wanted, marker_asked, content_asked, batch_given_by, batch_given}
use Rattle.batches.proofs.Encodes.{many_within, content_length, shows}

-- ---- the fixed fields and the body are the batch

module _ (b : Batch Record) where
  abbrev body : List ℕ
  body = written_content b.content

  -- the attributes and the count, as they are put
  abbrev pub attributes_put : ℤ
  attributes_put = pos (attributes_for b.fields (control_bit b.content))

  abbrev pub count_put : ℤ
  count_put = pos (how_many b.content)

  attributes_are : attributes_for b.fields (control_bit b.content) ≡ attributes_of true 0 b
  attributes_are = omega arith

  checked_is_lem : checked_part b.fields attributes_put count_put ++ body ≡ checked_bytes b
  unfolding checked_bytes times_bytes producer_bytes concat
  checked_is_lem = rw (← attributes_are) (simp (append_assoc, append-nil))

  framed : (batch_length crc : ℕ) (checked : List ℕ) → batch_length ≡ batch_length_of b → crc ≡ crc32c (checked_bytes b) → checked ≡ checked_bytes b
      → frame_bytes b.fields (pos batch_length) crc ++ checked ≡ written_batch b
  unfolding written_batch frame_bytes concat
  framed batch_length crc checked e f g = rw (e, f, g) (simp (append_assoc, append-nil))

  -- what batchLength counts
  abbrev length_put : ℤ
  length_put = pos (unchecked + fixed_checked + length body)

  before_is : fixed_before b.fields length_put attributes_put count_put body ++ body ≡ written_batch b
  unfolding fixed_before
  before_is =
      append_assoc (frame_bytes b.fields length_put _) (checked_part b.fields attributes_put count_put) body
      ∙ framed _ _ _ (sym (content_length b)) (ap crc32c checked_is_lem) checked_is_lem

  pub written_length : length (written_batch b) ≡ fixed_part + length body
  written_length =
      ap length (sym before_is)
      ∙ length-append (fixed_before b.fields length_put attributes_put count_put body) body
      ∙ ap (λ (n : ℕ). n + length body) (fixed_length b.fields length_put attributes_put count_put body)

  -- and in an output, in front of the body
  pub finished : (out out' : List ℕ) (end : ℕ) (count : ℤ) (output : List ℕ) → end ≡ fixed_part + length body → end ≤ length out
      → out' ≡ over fixed_part body out → count ≡ count_put
      → output ≡ fixed_before b.fields (pos (end - uncounted)) attributes_put count (take (end - fixed_part) (drop fixed_part out')) ++ drop fixed_part out'
      → WriteBy (given (written_batch b)) 0 out (record { result = Ok end; output = output })
  finished out out' end count output ends room is same e =
      let long : 0 + length (written_batch b) ≡ end = omega (arith, written_length) in
      let rest : List ℕ = drop end out in
      let after : drop fixed_part out' ≡ body ++ rest
      = ap (drop fixed_part) is
      ∙ drop_at (take fixed_part out) _ fixed_part (length-take-le fixed_part out (omega arith))
      ∙ ap (λ (n : ℕ). body ++ drop n out) (sym ends) in
      let size : end - fixed_part ≡ length body = omega arith in
      let counted : end - uncounted ≡ unchecked + fixed_checked + length body = omega arith in
      let shown : take (end - fixed_part) (drop fixed_part out') ≡ body
      = (λ i. take (size i) (after i)) ∙ take_at body rest (length body) refl in
      record {
        answer = rw (le-leb (0 + length (written_batch b)) (length out) (omega arith)) (ap writes (omega arith));
        output =
            e
            ∙ (λ i. fixed_before b.fields (pos (counted i)) attributes_put (same i) (shown i) ++ after i)
            ∙ sym (append_assoc (fixed_before b.fields length_put attributes_put count_put body) body rest)
            ∙ (λ i. before_is i ++ drop (sym long i) out)
            ∙ rw (le-leb (0 + length (written_batch b)) (length out) (omega arith));
      }

  -- there is no room for it
  pub unfinished : (out : List ℕ) → length out < fixed_part + length body
      → WriteBy (given (written_batch b)) 0 out (record { result = Err WriteFault.ShortOutput; output = out })
  unfinished out h =
      let short = lt-leb (0 + length (written_batch b)) (length out) (omega (arith, written_length)) in
      record { answer = rw short; output = rw short }

-- ---- a marker

abbrev pub marks : Fields → Marker → Batch Record
marks x m = record { fields = x; content = control m }

marker_length : (m : Marker) → length (written_content (control m)) ≡ control_size
unfolding written_content
marker_length m = control_size_lem m

module _ (x : Fields) where
  marked_length : (m : Marker) → length (written_batch (marks x m)) ≡ marked_size
  marked_length m = omega (arith, written_length (marks x m), marker_length m)

  marker_given : (s : List ℕ) (m : Marker) (p : RowPlace) → batch_given_by x s (ok (control m) p) ≡ given (written_batch (marks x m))
  marker_given s m p = rw (le-leb (batch_length_of (marks x m)) most_length (omega (arith, content_length (marks x m), marker_length m)))

-- what was put into the output is in its place there
module _ (x : Fields) (m : Marker) (out : List ℕ) where
  pub marker_short : length out < marked_size
      → WriteBy (given (written_batch (marks x m))) 0 out (record { result = Err WriteFault.ShortOutput; output = out })
  marker_short h = unfinished (marks x m) out (omega (arith, marker_length m))

  pub marker_written : (out' : List ℕ) (next : ℕ) (output : List ℕ) → marked_size ≤ length out
      → PutPromise (written_control m) out fixed_part (record { next = next; output = out' })
      → output ≡ fixed_before x (pos (marked_size - uncounted)) (pos (attributes_for x 1)) (pos 1) (take (marked_size - fixed_part) (drop fixed_part out')) ++ drop fixed_part out'
      → WriteBy (given (written_batch (marks x m))) 0 out (record { result = Ok marked_size; output = output })
  unfolding written_content
  marker_written out' next output room put e =
      let eleven = marker_length m in
      let is = emit_inside fixed_part out (written_control m) next out' (put_emits fixed_part out (written_control m) next out' put) (omega arith) in
      finished (marks x m) out out' marked_size (pos 1) output (omega arith) room is refl e

-- ---- what is given of records, and what of their batch

data Beside (x : Fields) (s : List ℕ) (asked : Step RowPlace (List RecordSpans)) : Given → Given → Type 0 where
  both : (rs : List RecordSpans) (p : RowPlace) → asked ≡ ok rs p → length (written_records (shown_records s rs)) ≤ most_bytes
      → Beside x s asked (given (written_records (shown_records s rs))) (given (written_batch (shows x s (records rs))))
  neither : (n : ℕ) → 0 < n → Beside x s asked (refused n) (refused n)

rows_length : (x : Fields) (s : List ℕ) (rs : List RecordSpans)
    → batch_length_of (shows x s (records rs)) ≡ 49 + length (written_records (shown_records s rs))
unfolding written_content
rows_length x s rs = content_length (shows x s (records rs))

beside : (x : Fields) (s : List ℕ) (asked : Step RowPlace (List RecordSpans)) → RefusedBy RowFault asked
    → Beside x s asked (records_given s asked) (batch_given_by x s (map_step records asked))
beside x s (ok rs p) w =
    let bs = written_records (shown_records s rs) in
    let b = shows x s (records rs) in
    let e = rows_length x s rs in
    elim (dec_le (length bs) most_bytes) [
      | yes h ↦ rw (le-leb (length bs) most_bytes h, le-leb (batch_length_of b) most_length (omega arith)) (both rs p refl h)
      | Dec.no h ↦
          rw (lt-leb (length bs) most_bytes (omega arith), lt-leb (batch_length_of b) most_length (omega arith)) (neither 23 (omega arith))
    ]
beside x s (no n) (l, h) = neither n (omega arith)

-- ---- measured

rows_written_length : (x : Fields) (s : List ℕ) (rs : List RecordSpans)
    → length (written_batch (shows x s (records rs))) ≡ fixed_part + length (written_records (shown_records s rs))
unfolding written_content
rows_written_length x s rs = written_length (shows x s (records rs))

module _ {x : Fields} {s : List ℕ} {asked : Step RowPlace (List RecordSpans)} where
  measured_bytes : {g h : Given} → Beside x s asked g h → (size : ℕ) → writes size ≡ measured g
      → (size ≤ most_bytes) × (writes (fixed_part + size) ≡ measured h)
  measured_bytes (both rs p is short) size e =
      let l : size ≡ length (written_records (shown_records s rs)) = ap (λ (a : Answer). a.bytes) e in
      (omega arith, ap writes (omega (arith, rows_written_length x s rs)))
  measured_bytes (neither n some) size e = absurd (omega (arith, numbers e))

  measured_refused : {g h : Given} → Beside x s asked g h → (f : WriteFault) → refuses (write_number_of f) ≡ measured g
      → refuses (write_number_of f) ≡ measured h
  measured_refused (both rs p is short) f e = apart f e
  measured_refused (neither n some) f e = e

-- a codec of 0 leaves the kind to be looked at
module _ (mode : ControlMode) (x : Fields) (codec : ℕ) (kind : ControlBatchOrRecords) (t : Tables) (s : List ℕ) where
  abbrev gives : Given
  gives = batch_given mode x codec (view_wanted kind) t s

  codec_other : (codec ≡ 0 → ⊥) → gives ≡ refused 20
  unfolding batch_given
  codec_other h = rw (ne_eqb codec 0 h)

  codec_none : codec ≡ 0 → (k : ControlBatchOrRecords) → kind ≡ k → gives ≡ batch_given_by x s (content_asked mode (view_wanted k) t s)
  unfolding batch_given
  codec_none e k f = rw (eq-eqb codec 0 e) (ap (λ (k : ControlBatchOrRecords). batch_given_by x s (content_asked mode (view_wanted k) t s)) f)

  pub measure_codec : (codec ≡ 0 → ⊥) → refuses 20 ≡ measured gives
  measure_codec h = ap measured (sym (codec_other h))

  pub write_codec : (out : List ℕ) → (codec ≡ 0 → ⊥) → WriteBy gives 0 out (record { result = Err WriteFault.Codec; output = out })
  write_codec out h =
      subst (λ (g : Given). WriteBy g 0 out (record { result = Err WriteFault.Codec; output = out })) (sym (codec_other h))
      (record { answer = refl; output = refl })

  module _ (e : codec ≡ 0) where
    module _ (m : ControlBatchRecord) (f : kind ≡ ControlBatchOrRecords.ControlBatch m) where
      -- in keyed mode
      module _ (keyed : mode ≡ ControlMode.Keyed) where
        marker_gives : gives ≡ given (written_batch (marks x (view_marker m)))
        unfolding writes_of
        marker_gives =
            codec_none e (ControlBatchOrRecords.ControlBatch m) f
            ∙ ap (λ (k : ControlMode). batch_given_by x s (marker_asked (writes_of k (view_marker m)) (view_marker m))) keyed
            ∙ marker_given x s (view_marker m) (row_place 0 0)

        pub measure_marker : writes marked_size ≡ measured gives
        measure_marker = ap writes (sym (marked_length x (view_marker m))) ∙ ap measured (sym marker_gives)

        pub write_marked : (out : List ℕ) (o : WriteOutcome) → WriteBy (given (written_batch (marks x (view_marker m)))) 0 out o → WriteBy gives 0 out o
        write_marked out o w = subst (λ (g : Given). WriteBy g 0 out o) (sym marker_gives) w

      -- in bare mode
      module _ (bare : mode ≡ ControlMode.Bare) where
        bare_gives : gives ≡ refused 41
        unfolding writes_of
        bare_gives =
            codec_none e (ControlBatchOrRecords.ControlBatch m) f
            ∙ ap (λ (k : ControlMode). batch_given_by x s (marker_asked (writes_of k (view_marker m)) (view_marker m))) bare

        pub measure_bare : refuses 41 ≡ measured gives
        measure_bare = ap measured (sym bare_gives)

        pub write_bare : (out : List ℕ) → WriteBy gives 0 out (record { result = Err WriteFault.BareMarker; output = out })
        write_bare out =
            subst (λ (g : Given). WriteBy g 0 out (record { result = Err WriteFault.BareMarker; output = out })) (sym bare_gives)
            (record { answer = refl; output = refl })

    module _ (n : ℕ) (f : kind ≡ ControlBatchOrRecords.Records n) where
      abbrev asked : Step RowPlace (List RecordSpans)
      asked = records_asked t s 0 n

      rows_give : gives ≡ batch_given_by x s (map_step records asked)
      rows_give = codec_none e (ControlBatchOrRecords.Records n) f

      known : Beside x s asked (records_given s asked) (batch_given_by x s (map_step records asked))
      known = beside x s asked (records_refused t s 0 n)

      pub measure_rows : (size : ℕ) → view_written (Ok size) ≡ measured (records_given s asked) → writes (fixed_part + size) ≡ measured gives
      measure_rows size p = (measured_bytes known size p).1 ∙ ap measured (sym rows_give)

      pub measure_refused : (fault : WriteFault) → view_written (Err fault) ≡ measured (records_given s asked)
          → (r : Result ℕ WriteFault) → IsErrAnd r (λ e. e ≡ fault) → view_written r ≡ measured gives
      measure_refused fault p r y = ap view_written (exit r y) ∙ measured_refused known fault p ∙ ap measured (sym rows_give)

      pub write_asked : (out : List ℕ) (o : WriteOutcome) → WriteBy (batch_given_by x s (map_step records asked)) 0 out o → WriteBy gives 0 out o
      write_asked out o w = subst (λ (g : Given). WriteBy g 0 out o) (sym rows_give) w

pub measured_small : (x : Fields) (t : Tables) (s : List ℕ) (n size : ℕ)
    → view_written (Ok size) ≡ measured (records_given s (records_asked t s 0 n)) → size ≤ most_bytes
measured_small x t s n size p = (measured_bytes (beside x s (records_asked t s 0 n) (records_refused t s 0 n)) size p).0

-- ---- written

module _ (x : Fields) (s : List ℕ) (asked : Step RowPlace (List RecordSpans)) (out out' : List ℕ) where
  -- the records stand in their place, and this is what is given of their batch
  record Wrote (size : ℕ) (g : Given) : Type 0 where
    rs : List RecordSpans
    place : RowPlace
    is : asked ≡ ok rs place
    size_is : size ≡ length (written_records (shown_records s rs))
    short : size ≤ most_bytes
    room : fixed_part + size ≤ length out
    output_is : out' ≡ over fixed_part (written_records (shown_records s rs)) out
    gives : g ≡ given (written_batch (shows x s (records rs)))

  wrote : {g h : Given} → Beside x s asked g h → (size : ℕ) → writes size ≡ answer_due fixed_part out g → out' ≡ output_due fixed_part out g
      → Wrote size h
  wrote (both rs p is short) size e f =
      let bs = written_records (shown_records s rs) in
      let y = put (given bs) tt fixed_part size out (record { result = Ok size; output = out' }) e f in
      let same : y.bytes ≡ bs = given_same (sym y.is) in
      let long : size ≡ length bs = sym y.length_is ∙ ap length same in
      record {
        rs = rs;
        place = p;
        is = is;
        size_is = long;
        short = omega arith;
        room = y.room;
        output_is = y.output_is ∙ ap (λ (l : List ℕ). over fixed_part l out) same;
        gives = refl;
      }
  wrote (neither n some) size e f = absurd (omega (arith, numbers e))

  refused_by_lem : (room : Bool) (b : Batch Record) (f : WriteFault) (n : ℕ) → leb (fixed_part + length (written_content b.content)) (length out) ≡ room
      → refuses (write_number_of f) ≡ pick room (writes n) (refuses 24) → out' ≡ pick room (over fixed_part (written_content b.content) out) out
      → WriteBy (given (written_batch b)) 0 out (record { result = Err f; output = out' })
  refused_by_lem true b f n h e is = apart f e
  refused_by_lem false b f n h e is =
      let w = unfinished b out (leb-false _ _ h) in
      record { answer = e ∙ w.answer; output = is ∙ w.output }

  not_wrote : {g h : Given} → Beside x s asked g h → (f : WriteFault) → refuses (write_number_of f) ≡ answer_due fixed_part out g
      → out' ≡ output_due fixed_part out g → WriteBy h 0 out (record { result = Err f; output = out' })
  unfolding written_content
  not_wrote (both rs p _ short) f e is = refused_by_lem _ (shows x s (records rs)) f _ refl e is
  not_wrote (neither n some) f e is = record { answer = e; output = is }

module _ (x : Fields) (t : Tables) (s : List ℕ) (n : ℕ) (out out' : List ℕ) where
  abbrev asked_rows : Step RowPlace (List RecordSpans)
  asked_rows = records_asked t s 0 n

  pub rows_refused : (f : WriteFault) → WriteBy (records_given s asked_rows) fixed_part out (record { result = Err f; output = out' })
      → (r : Result ℕ WriteFault) → IsErrAnd r (λ e. e ≡ f)
      → WriteBy (batch_given_by x s (map_step records asked_rows)) 0 out (record { result = r; output = out' })
  rows_refused f p r y =
      subst (λ (z : Result ℕ WriteFault). WriteBy (batch_given_by x s (map_step records asked_rows)) 0 out (record { result = z; output = out' }))
      (sym (exit r y))
      (not_wrote x s asked_rows out out' (beside x s asked_rows (records_refused t s 0 n)) f p.answer p.output)

  module _ (size : ℕ) (p : WriteBy (records_given s asked_rows) fixed_part out (record { result = Ok size; output = out' })) where
    rows_wrote : Wrote x s asked_rows out out' size (batch_given_by x s (map_step records asked_rows))
    rows_wrote = wrote x s asked_rows out out' (beside x s asked_rows (records_refused t s 0 n)) size p.answer p.output

    abbrev batch : Batch Record
    batch = shows x s (records rows_wrote.rs)

    -- what the length and the count are within
    pub record Sizes : Type 0 where
      pub short : size ≤ most_bytes
      pub room : fixed_part + size ≤ length out'
      pub many : n < 2 ^ 31

    many_is : how_many batch.content ≡ n
    many_is = length-map rows_wrote.rs (shown_record s) ∙ asked_many t s 0 n rows_wrote.is

    pub rows_sizes : Sizes
    unfolding written_content
    rows_sizes =
        let w = rows_wrote in
        let bs = written_records (shown_records s w.rs) in
        let kept = over_length fixed_part bs out (omega (arith, w.room, w.size_is)) in
        record {
          short = w.short;
          room = omega (arith, w.room, ap length w.output_is, kept);
          many = omega (arith, many_within batch.content, many_is, w.short, w.size_is);
        }

    pub rows_written : (output : List ℕ)
        → output ≡ fixed_before x (pos (fixed_part + size - uncounted)) (pos (attributes_for x 0)) (to_z w32 n) (take (fixed_part + size - fixed_part) (drop fixed_part out')) ++ drop fixed_part out'
        → WriteBy (batch_given_by x s (map_step records asked_rows)) 0 out (record { result = Ok (fixed_part + size); output = output })
    unfolding written_content
    rows_written output e =
        let w = rows_wrote in
        let count = to_z_pos w32 n rows_sizes.many ∙ ap pos (sym many_is) in
        subst (λ (g : Given). WriteBy g 0 out (record { result = Ok (fixed_part + size); output = output })) (sym w.gives)
        (finished batch out out' (fixed_part + size) (to_z w32 n) output (ap (λ (k : ℕ). fixed_part + k) w.size_is) w.room w.output_is count e)

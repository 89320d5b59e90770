-- What the writer accepts is an encoding of what the entries ask for, and so is read back as that; and what was read
-- asks for itself, by its entries and from its own rows. Assumes nothing.
use Prim.Native.Nat.{ℕ, ◌+◌, ◌<◌}
use mathlib.Core.Path.{◌≡◌, refl, sym, ap, ◌∙◌, subst}
use mathlib.Core.Bool.{Bool, true, false}
use mathlib.Core.Logic.{◌⊎◌, inl, inr}
use mathlib.Core.Option.{Option, none, some}
use mathlib.Core.List.{List, [], ◌∷◌, ◌++◌}
use native.Mathlib.Omega.{arith}
use native.Mathlib.Decide.{ℕ_discrete}
use borrow.Author.Tests.{le-leb}
use lib.IntN.{ℤ, pos, negsuc}
use lib.ListN.{length, take, get_or}
use lib.Seq.{take_at}
use Rattle.std.specs.Prelude.{Ok}
use Rattle.numbers.specs.Pick.{pick}
use Rattle.primitives.specs.Step.{ok}
use Rattle.primitives.proofs.Places.{in_front}
use Rattle.asking.specs.Asked.{RowPlace, records_asked}
use Rattle.records.specs.Format.{Record}
use Rattle.records.specs.Judgement.{RecordSpans}
use Rattle.records.specs.Rows.{Tables}
use Rattle.layout.specs.declared.ControlMode.{ControlMode}
use Rattle.layout.specs.Batch.{Fields, abort, commit, Content, control, records, Batch}
use Rattle.layout.specs.Format.{BatchBytes}
use Rattle.writing.specs.Answers as Writing
use Rattle.writing.specs.Answers.{writes, Given, given, refused, measured, answer_due}
use Rattle.writing.proofs.Outcomes.{Numbered, put}
use Rattle.opening.specs.Judgement.{is, Judgement, more, accepted, Accepted, judge}
use Rattle.opening.specs.Judgement as Judging
use Rattle.batches.specs.Placed.{placed_batch}
use Rattle.batches.specs.Answers.{Answer, accepts, accepted_as, lacks_room, Kind, of_records, of_marker, kind_of, records_in, headers_of, rooms_of, has_room, answer_of, stored}
use Rattle.batches.specs.Writer.{Wanted, marker, rows, content_asked, batch_given, wanted_of}
use Rattle.batches.specs.Filled.{Filled}
use Rattle.batches.specs.Demand2.{Enough}
use Rattle.batches.proofs.Again.{none_not_some}
use Rattle.batches.proofs.Complete.{complete}
use Rattle.batches.proofs.Encodes.{shows}
use Rattle.batches.proofs.Filled.{stored_filled}
use Rattle.batches.proofs.Given.{given_not_refused, pick_given, given_for_lem, marker_asked_lem, given_encodes}
use Rattle.batches.proofs.Own.{rewritten, Own, own, own_given, in_width}
use Rattle.batches.proofs.Sound.{sound}
use Rattle.batches.proofs.Written.{pick_numbered, given_numbered}
use Rattle.batches.proofs.Demand2.{refused_some}
use Rattle.batches.proofs.ReadsBack.{counts_same, kind_same, room_enough}
use Rattle.primitives.proofs.Steps.{map_ok}
use Rattle.opening.proofs.Tests.{is_true}
use Rattle.oddrafisk.specs.Entries.{type_entry, flag_entry, kind_entry, entries_of, is0or1, type_of, flag_of, fields_of, rows_of, bare_asked, AskedBatch, entries_asked}
use Rattle.oddrafisk.specs.Promises.{Outcome, ReadOutcome, ReadPromise, given_for, kind_given, entries_given, Sizes}
use Rattle.oddrafisk.specs.Statements.{asked_kind, SameInC, ReadsBackInC, HandsOn, HandedOn}
use Rattle.oddrafisk.proofs.Taken.{pick_some, Taken, taken, kind_given_lem}
use Rattle.oddrafisk.proofs.Alike.{entries_taken}

-- ---- entries that were read again

zero_or_one : (z : ℤ) (a : Bool) → is 0 z ≡ a → pick a true (is 1 z) ≡ true → (z ≡ pos 0) ⊎ (z ≡ pos 1)
zero_or_one z true e f = inl (is_true 0 z e)
zero_or_one z false e f = inr (is_true 1 z f)

type_again : (z : ℤ) → is0or1 z ≡ true → type_entry (type_of z) ≡ z
type_again z e =
    elim (zero_or_one z (is 0 z) refl e) [
      | inl h ↦ rw h refl
      | inr h ↦ rw h refl
    ]

flag_again : (z : ℤ) → is0or1 z ≡ true → flag_entry (flag_of z) ≡ z
flag_again z e =
    elim (zero_or_one z (is 0 z) refl e) [
      | inl h ↦ rw h refl
      | inr h ↦ rw h refl
    ]

-- the kind, by its number

abbrev wanted_kind : Wanted → Kind
wanted_kind (marker m) = of_marker m
wanted_kind (rows n) = of_records

rows_kind : (n : ℤ) {w : Wanted} → rows_of n ≡ some w → wanted_kind w ≡ of_records
rows_kind (pos n) {w} e = let same : rows n ≡ w = cc in ap wanted_kind (sym same)
rows_kind (negsuc k) e = none_not_some e

kind_told : (z n : ℤ) {w : Wanted} (a b d : Bool) → is 1 z ≡ a → is 2 z ≡ b → is 0 z ≡ d
    → pick a (some (marker abort)) (pick b (some (marker commit)) (pick d (rows_of n) none)) ≡ some w → kind_entry (wanted_kind w) ≡ z
kind_told z n {w} true b d e f g i =
    let same : marker abort ≡ w = cc in ap (λ (w : Wanted). kind_entry (wanted_kind w)) (sym same) ∙ sym (is_true 1 z e)
kind_told z n {w} false true d e f g i =
    let same : marker commit ≡ w = cc in ap (λ (w : Wanted). kind_entry (wanted_kind w)) (sym same) ∙ sym (is_true 2 z f)
kind_told z n {w} false false d e f g i =
    let (t, r) = pick_some d (rows_of n) i in
    ap kind_entry (rows_kind n r) ∙ sym (is_true 0 z (g ∙ t))

content_kind : (mode : ControlMode) (w : Wanted) (t : Tables) (s : List ℕ) {c : Content RecordSpans} {p : RowPlace} → content_asked mode w t s ≡ ok c p
    → kind_of c ≡ wanted_kind w
content_kind mode (marker m) t s e = ap kind_of (sym (marker_asked_lem mode m e).0)
content_kind mode (rows n) t s e = let (rs, _, same) = map_ok records (records_asked t s 0 n) e in ap kind_of (sym same)

-- ---- eleven entries

next : (P : ℕ → Type 0) (n : ℕ) → P n → ((i : ℕ) → i < n → P i) → (i : ℕ) → i < n + 1 → P i
next P n p before i h =
    elim (ℕ_discrete i n) [
      | yes e ↦ subst P (sym e) p
      | no e ↦ before i (omega arith)
    ]

module _ (e : List ℤ) (x : Fields) (k : Kind) (n m bytes : ℕ) where
  abbrev again : List ℤ
  again = entries_of (accepts x k n m bytes)

  eleven : {b : AskedBatch} → Taken e b → x ≡ fields_of e → kind_entry k ≡ get_or e 10 (pos 0) → (i : ℕ) → i < 11
      → get_or again i (pos 0) ≡ get_or e i (pos 0)
  eleven w is kind =
      let P : ℕ → Type 0 = λ i. get_or again i (pos 0) ≡ get_or e i (pos 0) in
      next P 10 kind
      (next P 9 (ap (λ (y : Fields). flag_entry y.transactional) is ∙ flag_again _ w.flag_fits)
      (next P 8 (ap (λ (y : Fields). type_entry y.timestamp_type) is ∙ type_again _ w.type_fits)
      (next P 7 (ap (λ (y : Fields). y.base_sequence) is)
      (next P 6 (ap (λ (y : Fields). y.producer_epoch) is)
      (next P 5 (ap (λ (y : Fields). y.producer_id) is)
      (next P 4 (ap (λ (y : Fields). y.max_timestamp) is)
      (next P 3 (ap (λ (y : Fields). y.first_timestamp) is)
      (next P 2 (ap (λ (y : Fields). y.last_offset_delta) is)
      (next P 1 (ap (λ (y : Fields). y.partition_leader_epoch) is)
      (next P 0 (ap (λ (y : Fields). y.base_offset) is) (λ i h. absurd (omega arith))))))))))))

-- ---- an encoding of what was asked for is read as that

module _ (mode : ControlMode) (e : List ℤ) (b : AskedBatch) (t : Tables) (source : List ℕ) (c : Content RecordSpans) (p : RowPlace) (w : entries_asked e ≡ some b)
    (is-asked : content_asked mode b.wanted t source ≡ ok c p) where
  same_in_c : (bs after : List ℕ) (t' : Tables) (o : ReadOutcome) → BatchBytes mode true bs (shows b.fields source c)
      → ReadPromise mode (bs ++ after) t' o → Enough c t' → SameInC e c source (length bs) (bs ++ after) t' o
  same_in_c bs after t' o g promise enough =
      let s = bs ++ after in
      let (judged, shown) = complete mode true s 0 0 (length bs) bs (shows b.fields source c) (in_front bs after) g in
      let read : Accepted = placed_batch 0 0 g in
      let same = ap (λ (x : Batch Record). x.content) shown in
      let room = room_enough s source read.content c t' same enough in
      let answer : answer_of (judge mode s) (rooms_of t') ≡ accepted_as read = rw (judged, room) refl in
      let told = promise.said.answer ∙ ap entries_of answer in
      let stores : o.tables ≡ stored read.content 0 t' = promise.tables ∙ rw (judged, room) refl in
      let (many, headers) = counts_same s source read.content c same in
      let y = taken e w in
      let kind = ap kind_entry (kind_same s source read.content c same ∙ content_kind mode b.wanted t source is-asked)
      ∙ kind_told (get_or e 10 (pos 0)) (get_or e 11 (pos 0)) _ _ _ refl refl refl y.kind in
      record {
        number = promise.said.number ∙ ap (λ (a : Answer). a.number) answer;
        entries = λ i h. ap (λ (l : List ℤ). get_or l i (pos 0)) told ∙ eleven e b.fields (kind_of read.content) _ _ _ y y.fields kind i (omega arith);
        records = ap (λ (l : List ℤ). get_or l 11 (pos 0)) told ∙ ap pos many;
        headers = ap (λ (l : List ℤ). get_or l 12 (pos 0)) told ∙ ap pos headers;
        bytes = ap (λ (l : List ℤ). get_or l 13 (pos 0)) told;
        read = read.content;
        filled = subst (Filled read.content t') (sym stores) (stored_filled read.content t' room);
        shows = same;
      }

-- ---- what was accepted

for_numbered : (mode : ControlMode) (a : Option AskedBatch) (t : Tables) (s : List ℕ) → Numbered (given_for mode a t s)
for_numbered mode none t s = omega arith
for_numbered mode (some b) t s = given_numbered mode b.fields 0 b.wanted t s

entries_numbered : (mode : ControlMode) (e : List ℤ) (codec : ℤ) (t : Tables) (s : List ℕ) → Numbered (entries_given mode e codec t s)
entries_numbered mode e codec t s = pick_numbered (is 0 codec) (kind_given mode e t s) 20 (kind_numbered (bare_asked mode (get_or e 10 (pos 0)))) (omega arith)
  where
    kind_numbered : (r : Bool) → Numbered (pick r (refused 41) (given_for mode (entries_asked e) t s))
    kind_numbered true = omega arith
    kind_numbered false = for_numbered mode (entries_asked e) t s

-- where bytes are given, no marker was asked for in bare mode
pick_not_refused : (r : Bool) (g : Given) {bs : List ℕ} → pick r (refused 41) g ≡ given bs → g ≡ given bs
pick_not_refused true g e = given_not_refused (sym e)
pick_not_refused false g e = e

given_asked : (mode : ControlMode) (a : Option AskedBatch) (t : Tables) (s : List ℕ) {bs : List ℕ} → given_for mode a t s ≡ given bs
    → (b : AskedBatch) × (a ≡ some b) × (batch_given mode b.fields 0 b.wanted t s ≡ given bs)
given_asked mode none t s e = given_not_refused (sym e)
given_asked mode (some b) t s e = (b, refl, e)

pub reads_back_in_c : ReadsBackInC
reads_back_in_c mode e codec t s out w promise zero =
    let due : Writing.Answer = answer_due 0 out (entries_given mode e codec t s) in
    let none : 0 ≡ due.number = sym zero ∙ promise.said.number in
    let n : ℕ = due.bytes in
    let x = put (entries_given mode e codec t s) (entries_numbered mode e codec t s) 0 n out (record { result = Ok n; output = w.output })
    (λ i. record { number = none i; bytes = n }) promise.output in
    let (codec_is, kind) = pick_given (is 0 codec) (kind_given mode e t s) 20 x.is in
    let for = pick_not_refused (bare_asked mode (get_or e 10 (pos 0))) (given_for mode (entries_asked e) t s) kind in
    let (b, asks, gives) = given_asked mode (entries_asked e) t s for in
    let g = given_for_lem mode b.fields 0 b.wanted t s gives in
    let encodes = given_encodes mode b.fields b.wanted t s (promise.handed.fields b codec_is asks) promise.handed.source g in
    let begins : take n w.output ≡ x.bytes
    = ap (take n) x.output_is ∙ take_at x.bytes _ n x.length_is in
    record {
      content = g.content;
      asked = record { batch = b; taken = asks; place = g.place; is = g.is };
      size = n;
      answer_is = promise.said.answer;
      reads = λ after t' o read enough.
          rw begins
          (subst (λ (n : ℕ). SameInC e g.content s n (x.bytes ++ after) t' o) x.length_is
          (same_in_c mode e b t s g.content g.place asks g.is x.bytes after t' o encodes (rw begins at read) enough));
    }

-- ---- what was read asks for itself

asked_kind_lem : (c : Content RecordSpans) → asked_kind (kind_of c) (records_in c) ≡ wanted_of c
asked_kind_lem (control m) = refl
asked_kind_lem (records rs) = refl

module _ (mode : ControlMode) (s : List ℕ) (t : Tables) (o : ReadOutcome) (promise : ReadPromise mode s t o) (a : Accepted) (j : judge mode s ≡ accepted a)
    (room : has_room a.content a.first_header (rooms_of t) ≡ true) where
  mine : Own mode s a
  mine = own mode s a promise.lent j

  told : o.said.answer ≡ entries_of (accepted_as a)
  told =
      let answer : answer_of (judge mode s) (rooms_of t) ≡ accepted_as a = rw (j, room) refl in
      promise.said.answer ∙ ap entries_of answer

  stores : o.tables ≡ stored a.content 0 t
  stores = promise.tables ∙ rw (j, room) (ap (λ (row : ℕ). stored a.content row t) mine.first)

  gives : entries_given mode o.said.answer (pos 0) o.tables s ≡ given (rewritten s a)
  gives =
      let (e, _) = sound mode s 0 0 a promise.lent j in
      let asks = entries_taken a.fields (kind_of a.content) (records_in a.content) (headers_of a.content) a.consumed (in_width e.encodes) in
      (λ i. entries_given mode (told i) (pos 0) (stores i) s)
      ∙ kind_given_lem mode (entries_of (accepted_as a)) (stored a.content 0 t) s asks
      ∙ ap (λ (w : Wanted). batch_given mode a.fields 0 w (stored a.content 0 t) s) (asked_kind_lem a.content)
      ∙ own_given t mine (ap (λ (row : ℕ). has_room a.content row (rooms_of t)) (sym mine.first) ∙ room)

  says_so : (m : Outcome) {g : Writing.Answer} → Sizes g m → g ≡ writes (length (rewritten s a))
      → m ≡ record { number = 0; answer = pos (length (rewritten s a)) ∷ [] }
  says_so m x e =
      λ i. record {
        number = (x.number ∙ ap (λ (g : Writing.Answer). g.number) e) i;
        answer = (x.answer ∙ ap (λ (g : Writing.Answer). pos g.bytes ∷ []) e) i;
      }

pub handed_on : HandedOn
handed_on mode s t o promise zero = by (judge mode s) refl promise.said.number
  where
    with_room : (a : Accepted) → judge mode s ≡ accepted a → has_room a.content a.first_header (rooms_of t) ≡ true → HandsOn mode s t o
    with_room a j room =
        let bs = rewritten s a in
        let is = gives mode s t o promise a j room in
        let less = (mine mode s t o promise a j room).within in
        record {
          consumed = a.consumed;
          size = length bs;
          consumed_is = ap (λ (l : List ℤ). get_or l 13 (pos 0)) (told mode s t o promise a j room);
          within = less;
          measures = λ m x. says_so mode s t o promise a j room m x (ap measured is);
          writes = λ out w x h.
              says_so mode s t o promise a j room w.said x.said
              (ap (answer_due 0 out) is ∙ rw (le-leb (0 + length bs) (length out) (omega arith)) refl);
        }

    tested : (a : Accepted) → judge mode s ≡ accepted a → (r : Bool) → has_room a.content a.first_header (rooms_of t) ≡ r
        → o.said.number ≡ (pick r (accepted_as a) (lacks_room (records_in a.content) (headers_of a.content))).number → HandsOn mode s t o
    tested a j true h e = with_room a j h
    tested a j false h e = absurd (omega (arith, sym zero ∙ e))

    by : (k : Judgement) → judge mode s ≡ k → o.said.number ≡ (answer_of k (rooms_of t)).number → HandsOn mode s t o
    by (more n) j e = absurd (omega (arith, sym zero ∙ e))
    by (Judging.refused n) j e = absurd (refused_some mode s n j (sym e ∙ zero))
    by (accepted a) j e = tested a j _ refl e

-- What is written reads back: it is an encoding, and so is accepted with anything after it; and what is accepted shows
-- what was asked for, so it needs as many rows. Assumes nothing.
use Prim.Native.Nat.{ℕ, ◌+◌}
use mathlib.Core.Path.{◌≡◌, refl, sym, ap, ◌∙◌, subst}
use mathlib.Core.Bool.{Bool, true, false}
use mathlib.Core.List.{List, [], ◌∷◌, ◌++◌}
use native.Mathlib.Omega.{arith}
use lib.ListN.{length, length-map}
use Rattle.numbers.specs.Pick.{pick}
use Rattle.primitives.specs.Step.{ok}
use Rattle.primitives.proofs.Places.{in_front}
use Rattle.records.specs.Format.{Record}
use Rattle.records.specs.Judgement.{RecordSpans}
use Rattle.records.specs.Rows.{headers_in, Tables}
use Rattle.records.specs.Placed.{shown_header, shown_record, shown_records}
use Rattle.layout.specs.Batch.{Content, control, records, Batch}
use Rattle.layout.specs.Format.{BatchBytes}
use Rattle.opening.specs.Judgement.{Judgement, Accepted}
use Rattle.batches.specs.Placed.{placed_batch, shown_content}
use Rattle.batches.specs.Answers.{of_marker, view_read, kind_of, accepted_as, lacks_room, records_in, headers_of, rooms_of, has_room, stored}
use Rattle.batches.specs.Promises.{ReadOutcome, ReadBy, ReadPromise}
use Rattle.batches.specs.Request.{Request}
use Rattle.batches.specs.Rewriting.{Asks, batch_asked}
use Rattle.batches.specs.Demand2.{Enough}
use Rattle.batches.specs.Demand3.{SameBatch, ReadsBack}
use Rattle.batches.proofs.Complete.{complete}
use Rattle.batches.proofs.Rooms.{is_room}
use Rattle.batches.proofs.Written.{written, written_begins}

-- ---- what shows the same needs as many rows

headers_within : List Record → ℕ
headers_within [] = 0
headers_within (r ∷ rest) = length r.headers + headers_within rest

headers_shown : (s : List ℕ) (rs : List RecordSpans) → headers_in rs ≡ headers_within (shown_records s rs)
unfolding headers_in headers_within
headers_shown s [] = refl
headers_shown s (r ∷ rest) = omega (arith, length-map r.headers (shown_header s), headers_shown s rest)

records_not_control : {X : Type 0} {R : Type 0} {rs : List R} {m : _} → records rs ≡ control m → X
records_not_control e = let z : ◌≡◌ {A = ℕ} 0 1 = cc in absurd (omega arith)

-- two contents that show the same have equal counts, and are of one kind
pub counts_same : (s s' : List ℕ) (a c : Content RecordSpans) → shown_content s a ≡ shown_content s' c
    → (records_in a ≡ records_in c) × (headers_of a ≡ headers_of c)
counts_same s s' (control m) (control m') e = (refl, refl)
counts_same s s' (control m) (records rs) e = records_not_control (sym e)
counts_same s s' (records rs) (control m) e = records_not_control e
counts_same s s' (records rs) (records rs') e =
    let w : shown_records s rs ≡ shown_records s' rs' = cc in (
      sym (length-map rs (shown_record s)) ∙ ap length w ∙ length-map rs' (shown_record s'),
      headers_shown s rs ∙ ap headers_within w ∙ sym (headers_shown s' rs'),
    )

pub kind_same : (s s' : List ℕ) (a c : Content RecordSpans) → shown_content s a ≡ shown_content s' c → kind_of a ≡ kind_of c
kind_same s s' (control m) (control m') e = let w : m ≡ m' = cc in ap of_marker w
kind_same s s' (control m) (records rs) e = records_not_control (sym e)
kind_same s s' (records rs) (control m) e = records_not_control e
kind_same s s' (records rs) (records rs') e = refl

pub room_for : (c : Content RecordSpans) (t : Tables) → Enough c t → has_room c 0 (rooms_of t) ≡ true
room_for (control m) t h = refl
room_for (records rs) t h = is_room rs 0 (rooms_of t) h.records (omega (arith, h.headers))

pub room_enough : (s s' : List ℕ) (a c : Content RecordSpans) (t : Tables) → shown_content s a ≡ shown_content s' c → Enough c t
    → has_room a 0 (rooms_of t) ≡ true
room_enough s s' a c t e h =
    let (many, headers) = counts_same s s' a c e in
    room_for a t (record { records = omega (arith, many, h.records); headers = omega (arith, headers, h.headers) })

-- ---- reading back

pub with_room : (a : Accepted) (room : Bool) (t : Tables) (o : ReadOutcome) → room ≡ true
    → view_read o.result ≡ pick room (accepted_as a) (lacks_room (records_in a.content) (headers_of a.content))
    → o.tables ≡ pick room (stored a.content a.first_header t) t
    → (view_read o.result ≡ accepted_as a) × (o.tables ≡ stored a.content a.first_header t)
with_room a true t o w e f = (e, f)
with_room a false t o w e f = (cc, cc)

-- o' is the outcome on the encoding and anything after it
module _ (q : Request) (c : Content RecordSpans) (bs after : List ℕ) (t : Tables) (o' : ReadOutcome) where
  encoding_reads : BatchBytes q.mode true bs (batch_asked q c) → ReadPromise q.mode (bs ++ after) t o' → Enough c t
      → SameBatch q c (length bs) (bs ++ after) t o'
  encoding_reads g promise enough =
      let s = bs ++ after in
      let (accepts, same) = complete q.mode true s 0 0 (length bs) bs (batch_asked q c) (in_front bs after) g in
      let read = placed_batch 0 0 g in
      let content = ap (λ (b : Batch Record). b.content) same in
      let by = subst (λ (j : Judgement). ReadBy j t o') accepts promise.by in
      let (answered, stores) =
      with_room read (has_room read.content 0 (rooms_of t)) t o' (room_enough s q.source read.content c t content enough)
      by.answer by.tables in
      record { read = read; answered = answered; stores = stores; fields = refl; content = content; consumed = refl }

-- rows ask for one thing
pub asked_once : (q : Request) {c c' : Content RecordSpans} → Asks q c → Asks q c' → c ≡ c'
asked_once q {c} {c'} x y = let w : ok c x.place ≡ ok c' y.place = sym x.is ∙ y.is in cc

pub reads_back : ReadsBack
reads_back q c out o n after t o' promise e asks read enough =
    let w = written q out o n promise e in
    let begins = written_begins w in
    let same = asked_once q w.asked asks in
    let g = subst (λ (c : Content RecordSpans). BatchBytes q.mode true w.bytes (batch_asked q c)) same w.encodes in
    let reads = encoding_reads q c w.bytes after t o' g (rw begins at read) enough in
    rw begins (subst (λ (n : ℕ). SameBatch q c n (w.bytes ++ after) t o') w.length_is reads)

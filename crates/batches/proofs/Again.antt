-- A batch that was read is asked for by what was answered of it and by the tables as they are then: so the writer gives
-- what it writes of the batch that the bytes show, which is no longer than they are. Assumes nothing.
use Rattle.std.specs.Prelude.{Ok}
use Prim.Native.Nat.{ℕ, ◌≤◌}
use mathlib.Core.Path.{◌≡◌, refl, sym, ap, ◌∙◌}
use mathlib.Core.Bool.{true}
use mathlib.Core.Option.{none, some}
use mathlib.Core.List.{List}
use native.Mathlib.Omega.{arith}
use lib.ListN.{length}
use Rattle.numbers.specs.Bytes.{Bytes}
use Rattle.records.specs.Judgement.{RecordSpans}
use Rattle.records.specs.Rows.{Tables}
use Rattle.writing.specs.Answers.{given, measured}
use Rattle.writing.proofs.Single.{single_written}
use Rattle.layout.specs.Batch.{Content, control, records}
use Rattle.opening.specs.Judgement.{accepted, Accepted, Judgement, judge}
use Rattle.markers.specs.Markers.{view_marker}
use Rattle.layout.specs.declared.ControlMode.{ControlMode}
use Rattle.batches.specs.declared.RecordBatch.{RecordBatch}
use Rattle.batches.specs.declared.ControlBatchOrRecords.{ControlBatchOrRecords}
use Rattle.batches.specs.Answers.{Answer, view_fields, view_kind, view_count, view_read, kind_of, records_in, rooms_of, has_room, stored, accepts, accepted_as}
use Rattle.batches.specs.Promises.{ReadOutcome, ReadPromise}
use Rattle.batches.specs.Writer.{marker, rows, view_wanted, wanted_of, batch_given}
use Rattle.batches.specs.Rewriting.{Rewritable}
use Rattle.batches.proofs.Own.{rewritten, own, own_given}
use Rattle.batches.proofs.Rooms.{Goes, wanting, refusing, roomy, cramped, goes}

-- ---- what was answered is what was accepted

-- what is named is not what is not: an acceptance names fields, and no other answer does
pub none_not_some : {X A : Type 0} {a : A} → none ≡ some a → X
none_not_some e = let z : ◌≡◌ {A = ℕ} 0 1 = cc in absurd (omega arith)

same_wanted : (k : ControlBatchOrRecords) (c : Content RecordSpans) → view_kind k ≡ kind_of c → view_count k ≡ records_in c → view_wanted k ≡ wanted_of c
same_wanted (ControlBatchOrRecords.ControlBatch m) (control n) e f = let w : view_marker m ≡ n = cc in ap marker w
same_wanted (ControlBatchOrRecords.ControlBatch m) (records rs) e f = cc
same_wanted (ControlBatchOrRecords.Records n) (control m) e f = cc
same_wanted (ControlBatchOrRecords.Records n) (records rs) e f = ap rows f

module _ (mode : ControlMode) (s : List ℕ) (t : Tables) (o : ReadOutcome) (b : RecordBatch) (kind : ControlBatchOrRecords) (headers consumed : ℕ) where
  pub record Again : Type 0 where
    pub batch : Accepted
    pub judged : judge mode s ≡ accepted batch
    pub gives : batch_given mode (view_fields b) 0 (view_wanted kind) o.tables s ≡ given (rewritten s batch)
    pub within : length (rewritten s batch) ≤ consumed

  module _ (bytes : Bytes s) (e : o.result ≡ Ok (record { batch = b; kind = kind; headers = headers; consumed = consumed })) where
    abbrev answered : Answer
    answered = accepts (view_fields b) (view_kind kind) (view_count kind) headers consumed

    room_again : (a : Accepted) → judge mode s ≡ accepted a → has_room a.content a.first_header (rooms_of t) ≡ true
        → answered ≡ accepted_as a → o.tables ≡ stored a.content a.first_header t → Again
    room_again a j room is tables =
        let x = own mode s a bytes j in
        let f : view_fields b ≡ a.fields = let w = ap (λ (y : Answer). y.fields) is in cc in
        let k : view_kind kind ≡ kind_of a.content = let w = ap (λ (y : Answer). y.kind) is in cc in
        let w = same_wanted kind a.content k (ap (λ (y : Answer). y.records) is) in
        let n : consumed ≡ a.consumed = ap (λ (y : Answer). y.bytes) is in
        let t' : o.tables ≡ stored a.content 0 t = tables ∙ ap (λ (row : ℕ). stored a.content row t) x.first in
        record {
          batch = a;
          judged = j;
          gives =
              (λ i. batch_given mode (f i) 0 (w i) (t' i) s)
              ∙ own_given t x (ap (λ (row : ℕ). has_room a.content row (rooms_of t)) (sym x.first) ∙ room);
          within = rw n x.within;
        }

    goes_again : (j : Judgement) → judge mode s ≡ j → Goes t o j → Again
    goes_again _ j (wanting a _) = none_not_some (ap (λ (y : Answer). y.fields) (sym a ∙ ap view_read e))
    goes_again _ j (refusing a _) = none_not_some (ap (λ (y : Answer). y.fields) (sym a ∙ ap view_read e))
    goes_again _ j (roomy {b = c} room a tables) = room_again c j room (sym (ap view_read e) ∙ a) tables
    goes_again _ j (cramped _ a _) = none_not_some (ap (λ (y : Answer). y.fields) (sym a ∙ ap view_read e))

    pub again : ReadPromise mode s t o → Again
    again p = goes_again (judge mode s) refl (goes (judge mode s) t o p.by)

pub rewritable : Rewritable
rewritable mode s t o b kind headers consumed r p e m =
    let x = again mode s t o b kind headers consumed p.lent e p in
    (length (rewritten s x.batch), single_written _ r (Ok _) (m ∙ ap measured x.gives) refl, x.within)

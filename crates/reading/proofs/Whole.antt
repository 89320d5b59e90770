-- What the check and the reading of records return: the walk's answer, held to the end of the bytes, and then the
-- tables' room. The premises have the form in which a proof finds them. Assumes nothing.
use Rattle.std.proofs.Common.{◌≡◌, ℕ, ◌+◌, ◌/◌, ◌≤◌, ◌<◌, Bool, true, false, List, leb, length, Ok, Err, sym, ap, ◌∙◌}
use Rattle.numbers.specs.Pick.{pick}
use Rattle.primitives.specs.Step.{ok, no, map_step}
use Rattle.primitives.proofs.Steps.{ok_not_no, map_ok, map_no, times_count}
use Rattle.records.specs.Judgement.{RecordSpans, record_at, run_at, records_at}
use Rattle.records.specs.Rows.{Tables, roomy}
use Rattle.records.proofs.Ends.{records_run}
use Rattle.reading.specs.declared.RecordsFound.{RecordsFound}
use Rattle.reading.specs.declared.RecordsError.TheVariants.{NoRoom}
use Rattle.reading.specs.Answers.{accepted, no_room, Counts, counts_of, view_check}
use Rattle.reading.specs.Promises.{ReadRecordsPromise}
use Rattle.reading.specs.Walk.{Walked, walked_records}
use Rattle.reading.proofs.Ends.{left_is, past_is, all_is, refused_is}
use Rattle.reading.proofs.Tables.{records_filled}

-- ---- the check

module _ (s : List ℕ) (count at first : ℕ) (t : Tables) where
  pub check_refused : {n : ℕ} → no n ≡ map_step (walked_records t 0 first) (run_at s count at) → no n ≡ map_step counts_of (records_at s count at)
  check_refused e = rw (refused_is s count at (map_no (walked_records t 0 first) (run_at s count at) (sym e)))

  module _ {w : Walked} {next : ℕ} (e : ok w next ≡ map_step (walked_records t 0 first) (run_at s count at)) where
    run_is : (rs : List RecordSpans) × (run_at s count at ≡ ok rs next) × (walked_records t 0 first rs ≡ w)
    run_is = map_ok (walked_records t 0 first) (run_at s count at) (sym e)

    pub check_left : next < length s → no 13 ≡ map_step counts_of (records_at s count at)
    check_left h = rw (left_is s count at run_is.1 h)

    pub check_past : length s < next → no 8 ≡ map_step counts_of (records_at s count at)
    check_past h = rw (past_is s count at run_is.1 h)

    run_count : length run_is.0 ≡ count
    unfolding run_at
    run_count = times_count (record_at s) count at run_is.1

    pub check_got : length s ≤ next → next ≤ length s
        → ok (record { records = count; headers = w.headers }) next ≡ map_step counts_of (records_at s count at)
    check_got g h =
        let headers = sym (ap (λ (x : Walked). x.headers) run_is.2) in
        rw (all_is s count at run_is.1 g h) (λ i. ok (record { records = sym run_count i; headers = headers i }) next)

-- ---- the room, and the tables

roomy_is : (first : ℕ) (rs : List RecordSpans) (t : Tables) {n m : ℕ} → counts_of rs ≡ record { records = n; headers = m }
    → roomy first rs t ≡ pick (leb n (length t.records / 8)) (leb (first + m) (length t.headers / 4)) false
unfolding roomy
roomy_is first rs t e =
    λ i. pick (leb (e i).records (length t.records / 8)) (leb (first + (e i).headers) (length t.headers / 4)) false

module _ (s : List ℕ) (at count first : ℕ) (t : Tables) where
  module _ (x : RecordsFound) (e : view_check (Ok x) ≡ map_step counts_of (records_at s count at)) (b : Bool)
      (g : b ≡ pick (leb x.records (length t.records / 8)) (leb (first + x.headers) (length t.headers / 4)) false) where
    judged : (rs : List RecordSpans) × (records_at s count at ≡ ok rs x.end) × (counts_of rs ≡ record { records = x.records; headers = x.headers })
    judged = map_ok counts_of (records_at s count at) (sym e)

    room_is : roomy first judged.0 t ≡ b
    room_is = roomy_is first judged.0 t judged.2 ∙ sym g

    pub read_no_room : b ≡ false → ReadRecordsPromise s at count first t (record { result = Err (NoRoom x.records x.headers); tables = t })
    read_no_room h =
        let full = room_is ∙ h in
        record { answer = rw (judged.1, full) (ap no_room (sym judged.2)); tables = rw (judged.1, full) }

    -- once the check has passed, so does the walk, over whatever tables
    passes : (u : Tables) → map_step (walked_records u 0 first) (run_at s count at) ≡ ok (walked_records u 0 first judged.0) x.end
    passes u = ap (map_step (walked_records u 0 first)) (records_run s count at judged.1).0

    pub never_refused : (u : Tables) {n : ℕ} {X : Type 0} → no n ≡ map_step (walked_records u 0 first) (run_at s count at) → X
    never_refused u w = ok_not_no (sym (passes u) ∙ sym w)

    pub read_got : b ≡ true → {m next : ℕ} {t' : Tables}
        → ok (record { headers = m; tables = t' }) next ≡ map_step (walked_records t 0 first) (run_at s count at)
        → ReadRecordsPromise s at count first t (record { result = Ok x; tables = t' })
    read_got h {m} {next} {t'} w =
        let room = room_is ∙ h in
        let same : ok (record { headers = m; tables = t' }) next ≡ ok (walked_records t 0 first judged.0) x.end = w ∙ passes t in
        let filled : t' ≡ (walked_records t 0 first judged.0).tables = cc in
        record {
          answer = rw (judged.1, room) (ap (λ (n : Counts). accepted n x.end) (sym judged.2));
          tables = rw (judged.1, room) (filled ∙ records_filled first judged.0 t room);
        }

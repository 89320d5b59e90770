-- Each later number is given exactly where document 01 says: the places that refuse by it are the fixed part, the
-- marker and the records, and the first fault of each is its refusal. Assumes nothing.
use Prim.Native.Nat.{ℕ, ◌+◌, ◌≤◌, ◌<◌}
use mathlib.Core.Path.{◌≡◌, refl, sym, ap, ◌∙◌, subst, transport, transport⁻¹}
use mathlib.Core.Bool.{Bool, true, false}
use mathlib.Core.Logic.{◌⊎◌, inl, inr}
use mathlib.Core.List.{List}
use native.Mathlib.Omega.{arith}
use native.Mathlib.Decide.{dec_le}
use native.Mathlib.Decide.{dec_lt}
use native.Mathlib.Nat.{zero-add}
use lib.ListN.{length, take}
use Rattle.numbers.specs.Bytes.{Bytes}
use Rattle.primitives.specs.Step.{ok, no}
use Rattle.primitives.specs.Stands.{Encoding}
use Rattle.primitives.specs.Faults.{Wrong}
use Rattle.primitives.proofs.Steps.{map_no}
use Rattle.primitives.proofs.Windows.{window_bytes}
use Rattle.records.specs.Format.{Record, RecordBytes}
use Rattle.records.specs.Judgement.{records_at}
use Rattle.records.specs.Faults.{RecordsWrong}
use Rattle.records.proofs.RecordFaults.{first_faults}
use Rattle.records.proofs.FaultNumbers.{record_fault_numbers, first_fault_numbers}
use Rattle.layout.specs.declared.ControlMode.{ControlMode}
use Rattle.layout.specs.Batch.{control, records}
use Rattle.opening.specs.Judgement.{refused, attributes_in, Control, content_at, way_of, judge}
use Rattle.markers.proofs.Bare.{bare_length}
use Rattle.records.proofs.Sizes.{record_least}
use Rattle.opening.specs.Faults.{former_wrong_of, BareStands, WithdrawnWrong, FixedWrong, KeyedMarkerWrong, wrong_of}
use Rattle.opening.specs.Statements.{FaultsOf}
use Rattle.opening.proofs.Tests.{low, unknown, there, Openings, openings, opening_is, opened}
use Rattle.opening.proofs.FixedFaults.{opened_faults}
use Rattle.markers.proofs.Forms.{forms_lawful}
use Rattle.batches.specs.Statements.{Whole, Checked, codec, CountIs}
use Rattle.batches.specs.FirstFaults.{BatchFaultsWith, BatchFaults, FirstFault, JudgedFaults, UnknownKey, KeyedUnknown}
use Rattle.batches.specs.Faults.{BatchWrong}
use Rattle.batches.proofs.Refused.{Right, WholeRefusal, differs, unopened, unread, Refusal, unsized, sized, refusal, refused_is}
use Rattle.batches.proofs.Numbers.{window, attributes_same, count_same, right_same, window_length, frame, front_refused, numbers}

-- ---- what a batch has after its fixed part

content_control : (way : Control) (t : Bool) (s : List ℕ) (m p : ℕ) {k : ℕ} → t ≡ true → content_at way t s m p ≡ no k → way s p ≡ no k
content_control way true s m p e f = map_no control (way s p) f
content_control way false s m p e f = let z : ◌≡◌ {A = ℕ} 0 1 = cc in absurd (omega arith)

content_records : (way : Control) (t : Bool) (s : List ℕ) (m p : ℕ) {k : ℕ} → t ≡ false → content_at way t s m p ≡ no k → records_at s m p ≡ no k
content_records way true s m p e f = let z : ◌≡◌ {A = ℕ} 0 1 = cc in absurd (omega arith)
content_records way false s m p e f = map_no records (records_at s m p) f

control_content : (way : Control) (t : Bool) (s : List ℕ) (m p : ℕ) {k : ℕ} → t ≡ true → way s p ≡ no k → content_at way t s m p ≡ no k
control_content way t s m p e f = rw (e, f)

records_content : (way : Control) (t : Bool) (s : List ℕ) (m p : ℕ) {k : ℕ} → t ≡ false → records_at s m p ≡ no k → content_at way t s m p ≡ no k
records_content way t s m p e f = rw (e, f)

-- ---- the batch

same_window : (s : List ℕ) (n : ℕ) → window s n ≡ take (12 + n) s
same_window s n = ap (λ (e : ℕ). take e s) (zero-add (12 + n))

module _ (way : Control) (W : Wrong) (faults : FaultsOf way W) (s : List ℕ) (b : Bytes s) where
  fixed_wrong : {n k : ℕ} → Checked s n → FixedWrong (window s n) 0 k → BatchWrong W s k
  fixed_wrong c (FixedWrong.past (inl h)) = BatchWrong.fixed c (inl (omega (arith, window_length c)))
  fixed_wrong {n} c (FixedWrong.past (inr (h, f))) =
      elim (dec_lt n 11) [
        | yes l ↦ BatchWrong.fixed c (inl l)
        | Dec.no l ↦ BatchWrong.fixed c (inr (omega (arith, window_length c), rw (attributes_same s n (omega arith)) at f))
      ]

  content_wrong : {n m p k : ℕ} → Checked s n → Openings (window s n) 0 (ok m p)
      → content_at way (attributes_in (window s n) 0).control (window s n) m p ≡ no k → BatchWrong W s k
  content_wrong {n} {k = k} c (opened {n = m} h d w (inl (t, one))) g =
      let l : 49 ≤ n = omega (arith, window_length c) in
      let e = attributes_same s n (omega arith) in
      let x = (faults (window s n) 61 k (window_bytes (0 + (12 + n)) s b) h).0 (content_control way _ (window s n) m 61 t g) in
      BatchWrong.marker c l (rw e at d) (rw e at t) (subst (CountIs s) one (rw (count_same s n l) at w))
      (subst (λ (v : List ℕ). W v 61 k) (same_window s n) x)
  content_wrong {n} {k = k} c (opened {n = m} h d w (inr t)) g =
      let l : 49 ≤ n = omega (arith, window_length c) in
      let e = attributes_same s n (omega arith) in
      let x = (first_faults (window s n) m 61 k (window_bytes (0 + (12 + n)) s b) h).0 (content_records way _ (window s n) m 61 t g) in
      BatchWrong.records c l (rw e at d) (rw e at t) (rw (count_same s n l) at w)
      (subst (λ (v : List ℕ). RecordsWrong m v 61 k) (same_window s n) x)

  whole_wrong : {n k : ℕ} → Whole s n → WholeRefusal way (window s n) 0 k → 8 ≤ k → BatchWrong W s k
  whole_wrong a (differs c) l = absurd (omega arith)
  whole_wrong {n} {k} a (unopened c f) l =
      fixed_wrong (record { whole = a; crc_is = transport (right_same s n a.framed.length_enough) c })
      ((opened_faults (window s n) 0 k l).0 (opening_is (window s n) 0 (no k) f))
  whole_wrong {n} a (unread c f g) l =
      content_wrong (record { whole = a; crc_is = transport (right_same s n a.framed.length_enough) c })
      (subst (Openings (window s n) 0) f (openings (window s n) 0)) g

  batch_wrong : {k : ℕ} → Refusal way s 0 k → 8 ≤ k → BatchWrong W s k
  batch_wrong (unsized (low h e)) l = absurd (omega arith)
  batch_wrong (unsized (unknown h e f m)) l = absurd (omega arith)
  batch_wrong (sized (there {n} h e f m g) w) l =
      whole_wrong
      (record {
        framed = record { there = h; length_is = e; length_enough = f; magic_is = m };
        all_there = omega arith;
      })
      w l

  right_there : {n : ℕ} → Checked s n → Right (window s n) 0
  right_there {n} c = transport⁻¹ (right_same s n c.whole.framed.length_enough) c.crc_is

  fixed_there : {n : ℕ} → Checked s n → (n < 11) ⊎ ((n < 49) × (codec s ≤ 4)) → FixedWrong (window s n) 0 8
  fixed_there c (inl h) = FixedWrong.past (inl (omega (arith, window_length c)))
  fixed_there {n} c (inr (h, f)) =
      elim (dec_lt n 11) [
        | yes l ↦ FixedWrong.past (inl (omega (arith, window_length c)))
        | Dec.no l ↦ FixedWrong.past (inr (omega (arith, window_length c), rw (attributes_same s n (omega arith)) f))
      ]

  batch_refused : {k : ℕ} → BatchWrong W s k → Refusal way s 0 k
  batch_refused (BatchWrong.fixed {n} c w) =
      let e = (opened_faults (window s n) 0 8 (omega arith)).1 (fixed_there c w) in
      sized (frame c.whole) (unopened (right_there c) (subst (Openings (window s n) 0) e (openings (window s n) 0)))
  batch_refused (BatchWrong.marker {n} {k} c l d t w x) =
      let e = attributes_same s n (omega arith) in
      let h : 61 ≤ length (window s n) = omega (arith, window_length c) in
      let y = subst (λ (v : List ℕ). W v 61 k) (sym (same_window s n)) x in
      let i = (faults (window s n) 61 k (window_bytes (0 + (12 + n)) s b) h).1 y in
      sized (frame c.whole)
      (unread (right_there c) (opening_is (window s n) 0 (ok 1 61) (opened h (rw e d) (rw (count_same s n l) w) (inl (rw e t, refl))))
      (control_content way (attributes_in (window s n) 0).control (window s n) 1 61 (rw e t) i))
  batch_refused (BatchWrong.records {n} {m} {k} c l d t w x) =
      let e = attributes_same s n (omega arith) in
      let h : 61 ≤ length (window s n) = omega (arith, window_length c) in
      let y = subst (λ (v : List ℕ). RecordsWrong m v 61 k) (sym (same_window s n)) x in
      let i = (first_faults (window s n) m 61 k (window_bytes (0 + (12 + n)) s b) h).1 y in
      sized (frame c.whole)
      (unread (right_there c) (opening_is (window s n) 0 (ok m 61) (opened h (rw e d) (rw (count_same s n l) w) (inr (rw e t))))
      (records_content way (attributes_in (window s n) 0).control (window s n) m 61 (rw e t) i))

pub batch_faults_with : BatchFaultsWith
batch_faults_with way W faults s first k b l = (
  λ e. batch_wrong way W faults s b (refusal way s 0 first e) l,
  λ x. refused_is way s 0 first (batch_refused way W faults s b x),
)

-- ---- by the mode

pub batch_faults : BatchFaults
batch_faults mode s k b l = batch_faults_with (way_of mode) (wrong_of mode) (forms_lawful mode).faults s 0 k b l

pub judged_faults : JudgedFaults
judged_faults mode s n b = (told, is_told)
  where
    told : judge mode s ≡ refused n → FirstFault mode s n
    told e =
        elim (dec_le 8 n) [
          | yes l ↦ FirstFault.after ((batch_faults mode s n b l).0 e)
          | Dec.no l ↦ FirstFault.front ((numbers mode s n (omega arith)).0 e)
        ]

    is_told : {n : ℕ} → FirstFault mode s n → judge mode s ≡ refused n
    is_told (FirstFault.front x) = front_refused mode x
    is_told (FirstFault.after x) = refused_is (way_of mode) s 0 0 (batch_refused (way_of mode) (wrong_of mode) (forms_lawful mode).faults s b x)

-- ---- 12 in keyed mode

-- a list whose first bytes are a whole batch has that many
cut_length : {s : List ℕ} {n : ℕ} → Checked s n → length (take (12 + n) s) ≡ 12 + n
cut_length {s} {n} c = ap length (sym (same_window s n)) ∙ window_length c

-- a record is longer than a marker that stands alone
record_alone : {s : List ℕ} {p : ℕ} {r : Record} → Encoding (RecordBytes false) s p (length s) r → BareStands s p → ⊥
record_alone {r = r} x (m, y) = omega (arith, record_least false x.bytes r x.encodes, bare_length y.encodes, x.stands.end, y.stands.end)

pub keyed_unknown : KeyedUnknown
unfolding wrong_of former_wrong_of
keyed_unknown s b = (λ e. told ((batch_faults ControlMode.Keyed s 12 b (omega arith)).0 e), is_told)
  where
    told_marker : {n : ℕ} → Checked s n → 49 ≤ n → codec s ≡ 0 → (attributes_in s 0).control ≡ true → CountIs s 1
        → KeyedMarkerWrong (take (12 + n) s) 61 12 → UnknownKey s
    told_marker c l d t w (KeyedMarkerWrong.one x) = absurd ((record_fault_numbers _ _ _ x).2 refl)
    told_marker {n} c l d t w (KeyedMarkerWrong.key {r} x no-marker) =
        record {
          batch_length = n;
          checked = c;
          fields_there = l;
          uncompressed = d;
          control = t;
          counted = w;
          shows = r;
          stands = subst (λ (q : ℕ). Encoding (RecordBytes false) (take (12 + n) s) 61 q r) (cut_length c) x;
          unknown = no-marker;
        }

    told : BatchWrong (WithdrawnWrong KeyedMarkerWrong) s 12 → UnknownKey s
    told (BatchWrong.marker c l d t w (WithdrawnWrong.as_before _ x)) = told_marker c l d t w x
    told (BatchWrong.records c l d t w x) = absurd ((first_fault_numbers _ _ _ _ x).2 refl)

    is_told : UnknownKey s → judge ControlMode.Keyed s ≡ refused 12
    is_told x =
        let n = x.batch_length in
        let stands = subst (λ (q : ℕ). Encoding (RecordBytes false) (take (12 + n) s) 61 q x.shows) (sym (cut_length x.checked)) x.stands in
        (batch_faults ControlMode.Keyed s 12 b (omega arith)).1
        (BatchWrong.marker x.checked x.fields_there x.uncompressed x.control x.counted
        (WithdrawnWrong.as_before (record_alone stands) (KeyedMarkerWrong.key stands x.unknown)))

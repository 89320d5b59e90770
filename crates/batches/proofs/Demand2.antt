-- What is accepted is a batch of the format, and a batch of the format is accepted: so says the judgement, and the reader
-- and the check answer by it. Assumes nothing.
use Prim.Native.Nat.{ℕ, ◌+◌, ◌≤◌}
use mathlib.Core.Path.{◌≡◌, refl, sym, ap, ◌∙◌, subst, transport}
use mathlib.Core.Bool.{Bool, false}
use mathlib.Core.Option.{some}
use mathlib.Core.List.{List, ◌++◌}
use native.Mathlib.Nat.{zero-add}
use native.Mathlib.Omega.{arith}
use lib.ListN.{length}
use Rattle.numbers.specs.Bytes.{Bytes}
use Rattle.primitives.specs.Stands.{Stands, Encoding}
use Rattle.primitives.proofs.Places.{in_front}
use Rattle.records.specs.Format.{Record}
use Rattle.records.specs.Judgement.{RecordSpans}
use Rattle.layout.specs.declared.ControlMode.{ControlMode}
use Rattle.layout.specs.Batch.{Content, control, records, Batch}
use Rattle.layout.specs.Format.{grammar_of, BatchBytes, ContentBytes}
use Rattle.opening.specs.Judgement.{Judgement, more, refused, accepted, Accepted, way_of, judge}
use Rattle.batches.specs.Placed.{placed_content, placed_batch, shown_content, shown_batch}
use Rattle.batches.specs.Answers.{Standing, Answer, accepts, refuses, view_check, view_read, kind_of, records_in, headers_of, accepted_as, answer_with_room, rooms_of, has_room, answer_of, stored}
use Rattle.batches.specs.Request.{InWidth}
use Rattle.batches.specs.Promises.{ReadBy}
use Rattle.batches.specs.FirstFaults.{FirstFault}
use Rattle.batches.specs.Filled.{Filled}
use Rattle.batches.specs.Demand2.{Names, spans_of, ReadAs, ReadSound, ReadComplete, ReadFaults, ReadInWidth, CheckAs, CheckSound, CheckComplete, CheckFaults, DemandTwo}
use Rattle.batches.specs.Demand3.{StandsByFormat, NoRoomByFormat}
use Rattle.batches.proofs.Sound.{sound}
use Rattle.batches.proofs.Complete.{complete}
use Rattle.batches.proofs.Numbers.{refusals, ways_within}
use Rattle.batches.proofs.Faults.{judged_faults}
use Rattle.batches.proofs.Own.{in_width}
use Rattle.batches.proofs.Again.{none_not_some}
use Rattle.batches.proofs.Rooms.{Goes, wanting, refusing, roomy, cramped, goes, numbered}
use Rattle.batches.proofs.Filled.{stored_filled}
use Rattle.batches.proofs.Reasons.{no_room}
use Rattle.batches.proofs.ReadsBack.{room_for, with_room}
use Rattle.batches.proofs.Standing.{standing_apart}

-- ---- the kind

shown_kind : (s : List ℕ) (c : Content RecordSpans) → kind_of (shown_content s c) ≡ kind_of c
shown_kind s (control m) = refl
shown_kind s (records rs) = refl

placed_kind : (mode : ControlMode) (strict : Bool) (bs : List ℕ) (c : Content Record) (p : ℕ) (g : ContentBytes (grammar_of mode) strict bs c)
    → kind_of (placed_content (grammar_of mode) strict bs c p g) ≡ kind_of c
placed_kind mode strict bs (control m) p g = refl
placed_kind mode strict bs (records rs) p g = refl

-- ---- what is accepted

-- no refusal has the number 0
pub refused_some : (mode : ControlMode) (s : List ℕ) (n : ℕ) → judge mode s ≡ refused n → n ≡ 0 → ⊥
refused_some mode s n e z = omega (arith, (standing_apart (refusals (way_of mode) (ways_within mode) s 0 0 n e)).0, z)

-- a batch of the format, and an answer that accepts it
record Told (mode : ControlMode) (s : List ℕ) (b : Accepted) (a : Answer) : Type 0 where
  stands : Encoding (BatchBytes mode false) s 0 a.bytes (shown_batch s b)
  same : b.content ≡ spans_of stands.encodes
  first : b.first_header ≡ 0
  names : Names s (shown_batch s b) (spans_of stands.encodes) a.bytes a

told : (mode : ControlMode) (s : List ℕ) (b : Accepted) (a : Answer) → Bytes s → judge mode s ≡ accepted b → a ≡ accepted_as b → Told mode s b a
told mode s b a bytes e is =
    let (x, placed) = sound mode s 0 0 b bytes e in
    let all : a.bytes ≡ b.consumed = ap (λ (y : Answer). y.bytes) is in
    let same : b.content ≡ spans_of x.encodes = ap (λ (y : Accepted). y.content) placed in
    record {
      stands =
          record {
            bytes = x.bytes;
            stands = subst (λ (q : ℕ). Stands s 0 q x.bytes) (zero-add b.consumed ∙ sym all) x.stands;
            encodes = x.encodes;
          };
      same = same;
      first = ap (λ (y : Accepted). y.first_header) placed;
      names =
          record {
            answered =
                is
                ∙ (λ i. accepts b.fields (sym (shown_kind s b.content) i) (records_in (same i)) (headers_of (same i)) (sym all i));
            shows = ap (shown_content s) (sym same);
          };
    }

pub read_sound : ReadSound
read_sound mode s t o p zero = by (judge mode s) refl (goes (judge mode s) t o p.by)
  where
    by : (j : Judgement) → judge mode s ≡ j → Goes t o j → ReadAs mode s t o
    by _ e (wanting a w) = absurd (omega (arith, numbered a, zero))
    by _ e (refusing {n} a w) = absurd (refused_some mode s n e (sym (numbered a) ∙ zero))
    by _ e (roomy {b} h a w) =
        let x = told mode s b (view_read o.result) p.lent e a in
        let room = ap (λ (row : ℕ). has_room b.content row (rooms_of t)) (sym x.first) ∙ h in
        let tables = w ∙ ap (λ (row : ℕ). stored b.content row t) x.first in
        record {
          batch = shown_batch s b;
          stands = x.stands;
          names = x.names;
          filled = transport (λ i. Filled (x.same i) t (sym tables i)) (stored_filled b.content t room);
        }
    by _ e (cramped h a w) = absurd (omega (arith, numbered a, zero))

pub check_sound : CheckSound
check_sound mode s r p zero = by (judge mode s) refl p.answer
  where
    by : (j : Judgement) → judge mode s ≡ j → view_check r ≡ answer_with_room j → CheckAs mode s r
    by (more n) e a = absurd (omega (arith, numbered a, zero))
    by (refused n) e a = absurd (refused_some mode s n e (sym (numbered a) ∙ zero))
    by (accepted b) e a =
        let x = told mode s b (view_check r) p.lent e a in
        record { batch = shown_batch s b; stands = x.stands; names = x.names }

-- ---- what is refused

-- by the judgement, and so by the format
fault_told : (mode : ControlMode) {s : List ℕ} {n : ℕ} → Bytes s → judge mode s ≡ refused n → FirstFault mode s n
fault_told mode {s} {n} bytes e = (judged_faults mode s n bytes).0 e

told_fault : (mode : ControlMode) {s : List ℕ} {n : ℕ} → Bytes s → FirstFault mode s n → (judge mode s ≡ refused n) × Standing n
told_fault mode {s} {n} bytes x =
    let e = (judged_faults mode s n bytes).1 x in (e, refusals (way_of mode) (ways_within mode) s 0 0 n e)

-- an answer by a refusal's number alone comes of that refusal
refused_alone : {n m : ℕ} → refuses m ≡ refuses n → m ≡ n
refused_alone e = ap (λ (a : Answer). a.number) e

module _ (mode : ControlMode) (s : List ℕ) (bytes : Bytes s) (n : ℕ) where
  by_check : (a : Answer) → a ≡ answer_with_room (judge mode s) → Standing n → a ≡ refuses n → FirstFault mode s n
  by_check a e standing f = by (judge mode s) refl (sym f ∙ e)
    where
      l : 2 ≤ n
      l = (standing_apart standing).0

      by : (j : Judgement) → judge mode s ≡ j → refuses n ≡ answer_with_room j → FirstFault mode s n
      by (more m) j w = absurd (omega (arith, numbered w, l))
      by (refused m) j w = subst (FirstFault mode s) (refused_alone (sym w)) (fault_told mode bytes j)
      by (accepted b) j w = absurd (omega (arith, numbered w, l))

pub check_faults : CheckFaults
check_faults mode s r n p = (
  λ (standing, f). by_check mode s p.lent n (view_check r) p.answer standing f,
  λ x. let (e, standing) = told_fault mode p.lent x in (standing, p.answer ∙ ap answer_with_room e),
)

pub read_faults : ReadFaults
read_faults mode s t o n p = (
  λ (standing, f). let (l, h) = standing_apart standing in by (judge mode s) refl (goes (judge mode s) t o p.by) f l h,
  λ x. let (e, standing) = told_fault mode p.lent x in (standing, p.by.answer ∙ ap (λ (j : Judgement). answer_of j (rooms_of t)) e),
)
  where
    by : (j : Judgement) → judge mode s ≡ j → Goes t o j → view_read o.result ≡ refuses n → 2 ≤ n → (n ≡ 14 → ⊥) → FirstFault mode s n
    by _ e (wanting a w) f l h = absurd (omega (arith, numbered (sym f ∙ a)))
    by _ e (refusing a w) f l h = subst (FirstFault mode s) (refused_alone (sym a ∙ f)) (fault_told mode p.lent e)
    by _ e (roomy r a w) f l h = absurd (omega (arith, numbered (sym f ∙ a)))
    by _ e (cramped r a w) f l h = absurd (h (numbered (sym f ∙ a)))

pub stands_by_format : StandsByFormat
stands_by_format mode s t o p one fourteen = by (judge mode s) refl (goes (judge mode s) t o p.by)
  where
    by : (j : Judgement) → judge mode s ≡ j → Goes t o j → DemandTwo mode s t o
    by _ e (wanting a w) = absurd (one (numbered a))
    by _ e (refusing {n} a w) = DemandTwo.a_fault n a (fault_told mode p.lent e) w
    by _ e (roomy h a w) = DemandTwo.a_batch (numbered a) (read_sound mode s t o p (numbered a))
    by _ e (cramped h a w) = absurd (fourteen (numbered a))

-- ---- what is a batch

module _ (mode : ControlMode) (strict : Bool) (bs after : List ℕ) (b : Batch Record) (g : BatchBytes mode strict bs b) where
  abbrev judged : Accepted
  judged = placed_batch 0 0 g

  is_judged : judge mode (bs ++ after) ≡ accepted judged
  is_judged = (complete mode strict (bs ++ after) 0 0 (length bs) bs b (in_front bs after) g).0

  names_it : (a : Answer) → a ≡ accepted_as judged → Names (bs ++ after) b (spans_of g) (length bs) a
  names_it a e =
      record {
        answered =
            e
            ∙ (λ i. accepts b.fields (placed_kind mode strict g.body b.content 61 g.holds i) (records_in (spans_of g)) (headers_of (spans_of g)) (length bs));
        shows = ap (λ (x : Batch Record). x.content) (complete mode strict (bs ++ after) 0 0 (length bs) bs b (in_front bs after) g).1;
      }

pub read_complete : ReadComplete
read_complete mode strict bs after b g t o p enough =
    let a : Accepted = judged mode strict bs after b g in
    let by = subst (λ (j : Judgement). ReadBy j t o) (is_judged mode strict bs after b g) p.by in
    let room = room_for a.content t enough in
    let (answered, stores) = with_room a (has_room a.content 0 (rooms_of t)) t o room by.answer by.tables in
    (names_it mode strict bs after b g (view_read o.result) answered, subst (Filled a.content t) (sym stores) (stored_filled a.content t room))

pub check_complete : CheckComplete
check_complete mode strict bs after b g r p =
    names_it mode strict bs after b g (view_check r) (p.answer ∙ ap answer_with_room (is_judged mode strict bs after b g))

pub no_room_by_format : NoRoomByFormat
no_room_by_format mode s t o n m p = (
  λ w.
      let (a, j, many, headers, short) = (no_room mode s t o n m p).0 w in
      let (e, placed) = sound mode s 0 0 a p.lent j in
      let same = ap (λ (x : Accepted). x.content) (sym placed) in
      (shown_batch s a, 0 + a.consumed, e, ap records_in same ∙ many, ap headers_of same ∙ headers, short),
  λ (b, q, e, many, headers, short).
      let j = (complete mode false s 0 0 q e.bytes b e.stands e.encodes).0 in
      (no_room mode s t o n m p).1 (placed_batch 0 0 e.encodes, j, many, headers, short),
)

-- ---- widths

pub read_in_width : ReadInWidth
read_in_width mode s t o x p is = by (judge mode s) refl (goes (judge mode s) t o p.by)
  where
    named : {a : Answer} → view_read o.result ≡ a → a.fields ≡ some x
    named e = sym (ap (λ (y : Answer). y.fields) e) ∙ is

    by : (j : Judgement) → judge mode s ≡ j → Goes t o j → InWidth x
    by _ e (wanting a w) = none_not_some (named a)
    by _ e (refusing a w) = none_not_some (named a)
    by _ e (roomy {b} h a w) =
        let (y, _) = sound mode s 0 0 b p.lent e in
        let z = named a in
        let same : b.fields ≡ x = cc in
        subst InWidth same (in_width y.encodes)
    by _ e (cramped h a w) = none_not_some (named a)

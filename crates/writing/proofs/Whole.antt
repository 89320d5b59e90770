-- Measuring and writing as a whole: what the walks give is what the promises say. Assumes nothing.
use Prim.Native.Nat.{ℕ, ◌+◌, ◌/◌, ◌≤◌, ◌<◌}
use mathlib.Core.Path.{◌≡◌, refl, sym, ap, ◌∙◌, subst}
use mathlib.Core.Bool.{Bool, true, false}
use mathlib.Core.List.{List}
use native.Mathlib.Omega.{arith}
use borrow.Author.Tests.{le-leb, lt-leb, leb-true}
use lib.Dec.{leb}
use lib.ListN.{length}
use Rattle.std.proofs.Common.{Result, Ok, Err, IsErrAnd}
use Rattle.numbers.specs.Pick.{pick}
use Rattle.numbers.specs.Pen.{Pen, pen, emit}
use Rattle.numbers.proofs.Pens.{emit_inside}
use Rattle.primitives.specs.Step.{Step, ok, no, map_step, times}
use Rattle.primitives.proofs.Steps.{ok_not_no, map_ok, map_no}
use Rattle.primitives.proofs.Refusing.{refused_by_lem as by_number}
use Rattle.primitives.proofs.Picks.{picked}
use Rattle.primitives.proofs.Exits.{exit}
use Rattle.records.specs.Judgement.{RecordSpans}
use Rattle.records.specs.Rows.{Tables}
use Rattle.records.specs.Placed.{shown_records}
use Rattle.records.specs.Written.{written_records}
use Rattle.sizes.specs.Sizes.{records_size, capped}
use Rattle.asking.specs.declared.WriteFault.{WriteFault}
use Rattle.asking.specs.Answers.{write_number_of}
use Rattle.asking.specs.Asked.{RowPlace, row_place, record_asked, records_asked}
use Rattle.asking.proofs.Refusals.{RowFault, records_refused}
use Rattle.writing.specs.Answers.{Answer, writes, refuses, most_bytes, Given, given, refused, records_given, measured, over}
use Rattle.writing.specs.Promises.{WriteBy}
use Rattle.writing.specs.Sized.{forget}
use Rattle.writing.specs.Put.{capped_records}
use Rattle.writing.proofs.Lengths.{together}
use Rattle.writing.proofs.Outcomes.{apart}

forget_ok : {P A : Type 0} (x : Step P A) {a : A} {q : ℕ} → ok a q ≡ forget x → (p : P) × (x ≡ ok a p)
forget_ok (ok b p) {a} e = let w : b ≡ a = cc in (p, ap (λ c. ok c p) w)
forget_ok (no n) e = ok_not_no e

forget_no : {P A : Type 0} (x : Step P A) {n : ℕ} → no n ≡ forget x → x ≡ no n
forget_no (ok b p) e = ok_not_no (sym e)
forget_no (no m) {n} e = let w : m ≡ n = cc in ap no w

rows_enough : (t : Tables) (s : List ℕ) (first count : ℕ) {rs : List RecordSpans} {p : RowPlace} → records_asked t s first count ≡ ok rs p
    → count ≤ length t.records / 8
unfolding records_asked
rows_enough t s first count e = leb-true count (length t.records / 8) (picked (leb count (length t.records / 8)) _ 21 e).0

module _ (t : Tables) (s : List ℕ) (first count : ℕ) where
  pub too_few : length t.records / 8 < count → refuses 21 ≡ measured (records_given s (records_asked t s first count))
  unfolding records_asked
  too_few h = rw (lt-leb count (length t.records / 8) h) refl

  module _ (enough : count ≤ length t.records / 8) where
    asked_is : records_asked t s first count ≡ times (record_asked t s) count (row_place 0 first)
    unfolding records_asked
    asked_is = rw (le-leb count (length t.records / 8) enough) refl

    module _ (n : ℕ) (e : ok n 0 ≡ forget (map_step (λ rs. capped (records_size rs)) (times (record_asked t s) count (row_place 0 first)))) where
      sized : (rs : List RecordSpans) × (p : RowPlace)
          × (records_asked t s first count ≡ ok rs p) × (capped (length (written_records (shown_records s rs))) ≡ n)
      sized =
          let (p, found) = forget_ok (map_step (λ rs. capped (records_size rs)) (times (record_asked t s) count (row_place 0 first))) e in
          let (rs, is, size) = map_ok (λ rs. capped (records_size rs)) (times (record_asked t s) count (row_place 0 first)) found in
          (rs, p, asked_is ∙ is, ap capped (together t s count (row_place 0 first) is).size ∙ size)

      pub too_long : most_bytes < n → refuses 23 ≡ measured (records_given s (records_asked t s first count))
      too_long h =
          let (rs, p, is, size) = sized in
          let long : leb (length (written_records (shown_records s rs))) most_bytes ≡ false
          = lt-leb (length (written_records (shown_records s rs))) most_bytes (omega (arith, size, h)) in
          ap measured (sym (ap (records_given s) is ∙ ap (λ (b : Bool). pick b (given (written_records (shown_records s rs))) (refused 23)) long))

      pub fits : n ≤ most_bytes → writes n ≡ measured (records_given s (records_asked t s first count))
      fits h =
          let (rs, p, is, size) = sized in
          let same : n ≡ length (written_records (shown_records s rs)) = omega (arith, size, h) in
          let short : leb (length (written_records (shown_records s rs))) most_bytes ≡ true
          = le-leb (length (written_records (shown_records s rs))) most_bytes (omega (arith, same, h)) in
          ap writes same
          ∙ ap measured (sym (ap (records_given s) is ∙ ap (λ (b : Bool). pick b (given (written_records (shown_records s rs))) (refused 23)) short))

    pub wrong : (n : ℕ) → no n ≡ forget (map_step (λ rs. capped (records_size rs)) (times (record_asked t s) count (row_place 0 first)))
        → refuses n ≡ measured (records_given s (records_asked t s first count))
    wrong n e =
        let none = forget_no (map_step (λ rs. capped (records_size rs)) (times (record_asked t s) count (row_place 0 first))) e in
        let refusal = map_no (λ rs. capped (records_size rs)) (times (record_asked t s) count (row_place 0 first)) none in
        ap measured (sym (ap (records_given s) (asked_is ∙ refusal)))

-- ---- into an output

-- bytes for which there is room, and bytes for which there is none
written_by : (bs : List ℕ) (at : ℕ) (out output : List ℕ) → at + length bs ≤ length out → output ≡ over at bs out
    → WriteBy (given bs) at out (record { result = Ok (length bs); output = output })
written_by bs at out output h e =
    let room : leb (at + length bs) (length out) ≡ true = le-leb (at + length bs) (length out) h in
    record {
      answer = ap (λ (b : Bool). pick b (writes (length bs)) (refuses 24)) (sym room);
      output = e ∙ ap (λ (b : Bool). pick b (over at bs out) out) (sym room);
    }

short_by : (bs : List ℕ) (at : ℕ) (out : List ℕ) → length out < at + length bs
    → WriteBy (given bs) at out (record { result = Err WriteFault.ShortOutput; output = out })
short_by bs at out h =
    let short : leb (at + length bs) (length out) ≡ false = lt-leb (at + length bs) (length out) h in
    record {
      answer = ap (λ (b : Bool). pick b (writes (length bs)) (refuses 24)) (sym short);
      output = ap (λ (b : Bool). pick b (over at bs out) out) (sym short);
    }

-- what is refused is refused with the same number, whatever the output
pub refused_as : (g : Given) (at : ℕ) (out : List ℕ) (f : WriteFault) → refuses (write_number_of f) ≡ measured g
    → WriteBy g at out (record { result = Err f; output = out })
refused_as (given bs) at out f e = apart f e
refused_as (refused m) at out f e = record { answer = e; output = refl }

pub refused_by_lem : (g : Given) (at : ℕ) (out : List ℕ) (r : Result ℕ WriteFault) (f : WriteFault) → IsErrAnd r (λ e. e ≡ f)
    → refuses (write_number_of f) ≡ measured g → WriteBy g at out (record { result = r; output = out })
refused_by_lem g at out r f x e =
    subst (λ y. WriteBy g at out (record { result = y; output = out })) (sym (exit r x)) (refused_as g at out f e)

module _ (t : Tables) (s : List ℕ) (first count : ℕ) where
  pub record Accepts (n : ℕ) : Type 0 where
    pub records : List RecordSpans
    pub place : RowPlace
    pub asked : records_asked t s first count ≡ ok records place
    pub gives : records_given s (records_asked t s first count) ≡ given (written_records (shown_records s records))
    pub size : length (written_records (shown_records s records)) ≡ n
    pub small : n ≤ most_bytes
    pub enough : count ≤ length t.records / 8

  pub accepts : (n : ℕ) → writes n ≡ measured (records_given s (records_asked t s first count)) → Accepts n
  accepts n says = go (records_asked t s first count) refl
    where
      go : (x : Step RowPlace (List RecordSpans)) → records_asked t s first count ≡ x → Accepts n
      go (no m) is =
          let zero_is : ◌≡◌ {A = ℕ} 0 m = ap (λ (a : Answer). a.number) (says ∙ ap (λ y. measured (records_given s y)) is) in
          absurd (omega (arith, zero_is, (by_number RowFault (records_refused t s first count) is).0))
      go (ok rs p) is = by_size (leb (length (written_records (shown_records s rs))) most_bytes) refl
        where
          by_size : (b : Bool) → leb (length (written_records (shown_records s rs))) most_bytes ≡ b → Accepts n
          by_size false l =
              let twenty : ◌≡◌ {A = ℕ} 0 23
              = ap (λ (a : Answer). a.number)
              (says ∙ ap (λ y. measured (records_given s y)) is ∙ ap (λ (b : Bool). measured (pick b (given (written_records (shown_records s rs))) (refused 23))) l) in
              absurd (omega (arith, twenty))
          by_size true l =
              let gives : records_given s (records_asked t s first count) ≡ given (written_records (shown_records s rs))
              = ap (records_given s) is ∙ ap (λ (b : Bool). pick b (given (written_records (shown_records s rs))) (refused 23)) l in
              let size : length (written_records (shown_records s rs)) ≡ n
              = sym (ap (λ (a : Answer). a.bytes) (says ∙ ap measured gives)) in
              record {
                records = rs;
                place = p;
                asked = is;
                gives = gives;
                size = size;
                small = omega (arith, leb-true (length (written_records (shown_records s rs))) most_bytes l, size);
                enough = rows_enough t s first count is;
              }

  module _ (n : ℕ) (a : Accepts n) (at : ℕ) (out : List ℕ) where
    pub no_room : length out < at + n
        → WriteBy (records_given s (records_asked t s first count)) at out (record { result = Err WriteFault.ShortOutput; output = out })
    no_room h =
        subst (λ g. WriteBy g at out (record { result = Err WriteFault.ShortOutput; output = out })) (sym a.gives)
        (short_by (written_records (shown_records s a.records)) at out (omega (arith, a.size, h)))

    rows_are : times (record_asked t s) count (row_place 0 first) ≡ ok a.records a.place
    rows_are = sym (asked_is t s first count a.enough) ∙ a.asked

    pub put_all : at + n ≤ length out → (k : ℕ) (output : List ℕ)
        → ok (pen k output) 0 ≡ forget (map_step (λ rs. emit (capped_records s rs) (pen at out)) (times (record_asked t s) count (row_place 0 first)))
        → WriteBy (records_given s (records_asked t s first count)) at out (record { result = Ok n; output = output })
    put_all h k output e =
        let all = together t s count (row_place 0 first) rows_are in
        let bs_are : capped_records s a.records ≡ written_records (shown_records s a.records)
        = all.put (omega (arith, all.size, a.size, a.small)) in
        let put : ◌≡◌ {A = Step ℕ Pen} (ok (pen k output) 0) (ok (emit (written_records (shown_records s a.records)) (pen at out)) 0)
        = e ∙ ap (λ x. forget (map_step (λ rs. emit (capped_records s rs) (pen at out)) x)) rows_are
        ∙ ap (λ (l : List ℕ). ok (emit l (pen at out)) 0) bs_are in
        let written : output ≡ over at (written_records (shown_records s a.records)) out
        = emitted k output (written_records (shown_records s a.records)) put (omega (arith, a.size, h)) in
        subst (λ g. WriteBy g at out (record { result = Ok n; output = output })) (sym a.gives)
        (subst (λ k. WriteBy (given (written_records (shown_records s a.records))) at out (record { result = Ok k; output = output })) a.size
        (written_by (written_records (shown_records s a.records)) at out output (omega (arith, a.size, h)) written))
      where
        emitted : (k : ℕ) (output bs : List ℕ) → ◌≡◌ {A = Step ℕ Pen} (ok (pen k output) 0) (ok (emit bs (pen at out)) 0) → at + length bs ≤ length out → output ≡ over at bs out
        emitted k output bs p l = let w : pen k output ≡ emit bs (pen at out) = cc in emit_inside at out bs k output w l

    -- rows that were accepted are not refused after that
    pub never : {X : Type 0} (m : ℕ)
        → no m ≡ forget (map_step (λ rs. emit (capped_records s rs) (pen at out)) (times (record_asked t s) count (row_place 0 first))) → X
    never m e = ok_not_no (sym (e ∙ ap (λ x. forget (map_step (λ rs. emit (capped_records s rs) (pen at out)) x)) rows_are))

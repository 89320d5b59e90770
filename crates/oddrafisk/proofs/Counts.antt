-- No count is above the bytes of the longest batch: batchLength has 31 bits, and the bytes of a batch bound its records
-- and their headers. Assumes nothing.
use Prim.Native.Nat.{ℕ, suc, ◌+◌, ◌*◌, ◌-◌, ◌<◌, ◌≤◌, ◌^◌}
use mathlib.Core.Path.{◌≡◌, refl, subst}
use mathlib.Core.Bool.{Bool, true, false}
use mathlib.Core.Logic.{inl, inr}
use mathlib.Core.Option.{none}
use mathlib.Core.List.{List}
use native.Mathlib.Omega.{arith}
use borrow.Author.Tests.{ltb-true, eqb-true}
use lib.Dec.{leb, ltb, eqb}
use lib.IntN.{pos, negsuc}
use lib.ListN.{length, take, length-take}
use Rattle.numbers.specs.Pick.{pick}
use Rattle.primitives.specs.Step.{Step, ok, no}
use Rattle.primitives.specs.Reading.{signed_by}
use Rattle.primitives.proofs.Steps.{and_then_ok, map_ok, pick_ok}
use Rattle.records.specs.Judgement.{RecordSpans, run_at, records_at}
use Rattle.records.specs.Rows.{headers_in}
use Rattle.records.proofs.RecordMoves.{counts_bounded}
use Rattle.layout.specs.declared.ControlMode.{ControlMode}
use Rattle.layout.specs.Table.{table}
use Rattle.layout.specs.Batch.{Content, control, records}
use Rattle.opening.specs.Judgement.{Control, Judged, more, refused, accepted, Accepted, Judgement, unsigned_in, number_in, attributes_in, content_at, way_of, total_at, whole_at, judgement_of, judge_whole, judge_with, judge}
use Rattle.opening.proofs.Tests.{Totals, few, low, short, unknown, lacking, there, totals}
use Rattle.batches.specs.Answers.{wants, records_in, headers_of, accepted_as, lacks_room, answer_with_room, has_room, answer_of}
use Rattle.batches.proofs.Passed.{passed}
use Rattle.converting.specs.Conversion.{Conversion, rekeyed, copied}
use Rattle.converting.specs.Answers as Converting
use Rattle.converting.proofs.Cases as Cases
use Rattle.converting.proofs.Copying.{rekeyed_length}
use Rattle.converting.proofs.Giving.{bare}
use Rattle.oddrafisk.specs.Statements.{Counted, CheckCounted, ReadCounted, ConvertCounted}

signed_below : (half v n : ℕ) → signed_by half v ≡ pos n → n < half
unfolding signed_by
signed_below half v n e = go (ltb v half) refl e
  where
    go : (b : Bool) → ltb v half ≡ b → pick b (pos v) (negsuc (2 * half - suc v)) ≡ pos n → n < half
    go true h e = let w : v ≡ n = cc in omega (arith, ltb-true v half h)
    go false h e = let z : ◌≡◌ {A = ℕ} 0 1 = cc in absurd (omega arith)

length_below : (s : List ℕ) (n : ℕ) → number_in table.batch_length s 0 ≡ pos n → n ≤ 2147483647
length_below s n e = omega (arith, signed_below (2 ^ 31) (unsigned_in table.batch_length s 0) n e)

-- ---- what is accepted

records_within : (s : List ℕ) (count p : ℕ) {rs : List RecordSpans} {q : ℕ} → records_at s count p ≡ ok rs q
    → (length rs ≤ length s) × (headers_in rs ≤ length s)
unfolding records_at
records_within s count p {rs} {q} e =
    let (rs', q', was, e') = and_then_ok (run_at s count p) _ e in
    go (ltb q' (length s)) rs' q' was e'
  where
    go : (b : Bool) (rs' : List RecordSpans) (q' : ℕ) → run_at s count p ≡ ok rs' q'
        → pick b (no 13) (pick (eqb q' (length s)) (ok rs' q') (no 8)) ≡ ok rs q → (length rs ≤ length s) × (headers_in rs ≤ length s)
    go true rs' q' was e = let z : ◌≡◌ {A = ℕ} 0 1 = cc in absurd (omega arith)
    go false rs' q' was e =
        let (t, same, _) = pick_ok (eqb q' (length s)) rs' q' 8 e in
        let (n, bound) = counts_bounded s count p rs' q' was in
        let end = eqb-true q' (length s) t in
        rw (← same) (omega (arith, n, bound, end), omega (arith, bound, end))

content_within : (way : Control) (c : Content RecordSpans) (is_control : Bool) (s : List ℕ) (count p q : ℕ)
    → content_at way is_control s count p ≡ ok c q → (records_in c ≤ length s) × (headers_of c ≤ length s)
content_within way (control m) is_control s count p q e = (omega arith, omega arith)
content_within way (records rs) true s count p q e =
    let (_, _, w) = map_ok control (way s p) e in
    let z : ◌≡◌ {A = ℕ} 0 1 = cc in absurd (omega arith)
content_within way (records rs) false s count p q e =
    let (rs', was, w) = map_ok records (records_at s count p) e in
    let same : rs' ≡ rs = cc in
    rw (← same) (records_within s count p was)

accepted_counted : (mode : ControlMode) (s : List ℕ) (b : Accepted) → judge mode s ≡ accepted b
    → (records_in b.content ≤ 2147483659) × (headers_of b.content ≤ 2147483659) × (b.consumed ≤ 2147483659)
accepted_counted mode s b e =
    let p = passed (way_of mode) s 0 0 b e in
    let n = length_below s p.size p.batch_length in
    let w : List ℕ = take (0 + (12 + p.size)) s in
    let (x, y) = content_within (way_of mode) p.content (attributes_in w 0).control w p.read.count (0 + 61) p.read.end p.read.reads in
    let cut = length-take (0 + (12 + p.size)) s in
    rw p.is (omega (arith, n, x, cut), omega (arith, n, y, cut), omega (arith, n))

-- ---- more bytes

more_counted : (mode : ControlMode) (s : List ℕ) (n : ℕ) → judge mode s ≡ more n → n ≤ 2147483659
unfolding judge_with
more_counted mode s n e = subst Small e (small (total_at s 0) (totals s 0))
  where
    Small : Judgement → Type 0
    Small (more n) = n ≤ 2147483659
    Small (refused n) = Unit
    Small (accepted b) = Unit

    whole : (x : Step ℕ Accepted) → Small (judgement_of x)
    whole (ok b p) = tt
    whole (no n) = tt

    small : (x : Judged ℕ) → Totals s 0 x → Small (judge_whole (way_of mode) s 0 0 x)
    small _ (few h) = omega arith
    small _ (low h e) = tt
    small _ (short h e f g) = omega arith
    small _ (unknown h e f m) = tt
    small _ (lacking {n} h e f m g) = omega (arith, length_below s n e)
    small _ (there {n} h e f m g) = whole (whole_at (way_of mode) (take (0 + (12 + n)) s) 0 0 (12 + n))

-- ---- the statements

zeros : (number : ℕ) → Counted (record { number = number; fields = none; kind = none; records = 0; headers = 0; bytes = 0 })
zeros number = record { records = omega arith; headers = omega arith; bytes = omega arith }

module _ (mode : ControlMode) (s : List ℕ) where
  wanted : (n : ℕ) → judge mode s ≡ more n → Counted (wants n)
  wanted n e = record { records = omega arith; headers = omega arith; bytes = more_counted mode s n e }

  fits : (b : Accepted) → judge mode s ≡ accepted b → Counted (accepted_as b)
  fits b e = let (x, y, z) = accepted_counted mode s b e in record { records = x; headers = y; bytes = z }

pub check_counted : CheckCounted
check_counted mode s = go (judge mode s) refl
  where
    go : (j : Judgement) → judge mode s ≡ j → Counted (answer_with_room j)
    go (more n) e = wanted mode s n e
    go (refused n) e = zeros n
    go (accepted b) e = fits mode s b e

pub read_counted : ReadCounted
read_counted mode s r = go (judge mode s) refl
  where
    go : (j : Judgement) → judge mode s ≡ j → Counted (answer_of j r)
    go (more n) e = wanted mode s n e
    go (refused n) e = zeros n
    go (accepted b) e = either (has_room b.content b.first_header r)
      where
        either : (t : Bool) → Counted (pick t (accepted_as b) (lacks_room (records_in b.content) (headers_of b.content)))
        either true = fits mode s b e
        either false = let (x, y, _) = accepted_counted mode s b e in record { records = x; headers = y; bytes = omega arith }

-- ---- the conversion

abbrev pub Told : Converting.Answer → Type 0
Told a = (a.taken ≤ 2147483659) × (a.given ≤ 2147483659)

given_told : (c : Conversion) (room : ℕ) → c.taken ≤ 2147483659 → length c.given ≤ 2147483659 → Told (Converting.answer_of (accepted c) room)
given_told c room h k = go (leb (length c.given) room)
  where
    go : (r : Bool) → Told (pick r (Converting.gives c.taken (length c.given)) (Converting.refuses 24))
    go true = (h, k)
    go false = (omega arith, omega arith)

copied_told : (s : List ℕ) (room : ℕ) (j : Judgement) → judge ControlMode.Keyed s ≡ j → Told (Converting.answer_of (copied s j) room)
copied_told s room (more n) e = (more_counted ControlMode.Keyed s n e, omega arith)
copied_told s room (refused n) e = (omega arith, omega arith)
copied_told s room (accepted b) e =
    let (_, _, n) = accepted_counted ControlMode.Keyed s b e in
    given_told (record { taken = b.consumed; given = take b.consumed s }) room n (omega (arith, n, length-take b.consumed s))

pub convert_counted : ConvertCounted
convert_counted s room bytes =
    elim (Cases.either s) [
      | inl (_, _, e) ↦
          let x = bare s bytes e in
          let long = rekeyed_length s x.marker (omega (arith, x.within)) in
          rw x.conversion (given_told (record { taken = 65; given = rekeyed s x.marker }) room (omega arith) (omega (arith, long)))
      | inr (e, _) ↦ rw e (copied_told s room (judge ControlMode.Keyed s) refl)
    ]

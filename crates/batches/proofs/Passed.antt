-- What is accepted has passed every test: which they are, and what was read, from the judgement alone. Assumes nothing.
use Prim.Native.Nat.{ℕ, ◌+◌, ◌≤◌}
use mathlib.Core.Path.{◌≡◌, sym, ap, subst}
use mathlib.Core.Bool.{true, false}
use mathlib.Core.Logic.{◌⊎◌}
use mathlib.Core.List.{List}
use borrow.Author.Tests.{eqb-true}
use lib.Dec.{eqb}
use lib.IntN.{pos}
use lib.ListN.{length, take, drop}
use Rattle.primitives.specs.Step.{Step, ok, no}
use Rattle.primitives.proofs.Steps.{and_then_ok, map_ok}
use Rattle.primitives.proofs.Picks.{picked}
use Rattle.crc32c.specs.Crc.{crc32c}
use Rattle.records.specs.Judgement.{RecordSpans}
use Rattle.layout.specs.Table.{table}
use Rattle.layout.specs.Batch.{Content}
use Rattle.opening.specs.Judgement.{Judged, more, refused, accepted, Accepted, unsigned_in, number_in, attributes_in, fields_in, Control, content_at, total_at, opened_at, whole_at, judgement_of, judge_whole, judge_with}
use Rattle.opening.proofs.Verdicts.{more_not_accepted, refused_not_accepted}
use Rattle.opening.proofs.Tests.{Totals, there, totals, Says, Openings, opened, openings}

-- ---- the batch's bytes w, which end where the list ends

module _ (way : Control) (w : List ℕ) (at : ℕ) where
  -- the tests, and the marker or the records c that were read
  pub record Read (c : Content RecordSpans) : Type 0 where
    pub crc : unsigned_in table.crc w at ≡ crc32c (drop (at + 21) w)
    pub fixed : at + 61 ≤ length w
    pub codec : (attributes_in w at).codec ≡ 0
    pub count : ℕ
    pub says : Says w at count
    pub one : (((attributes_in w at).control ≡ true) × (count ≡ 1)) ⊎ ((attributes_in w at).control ≡ false)
    pub end : ℕ
    pub reads : content_at way (attributes_in w at).control w count (at + 61) ≡ ok c end

  open_read : (n p q : ℕ) {c : Content RecordSpans} → Openings w at (ok n p) → unsigned_in table.crc w at ≡ crc32c (drop (at + 21) w)
      → content_at way (attributes_in w at).control w n p ≡ ok c q → Read c
  open_read n _ q (opened h c t o) e i = record { crc = e; fixed = h; codec = c; count = n; says = t; one = o; end = q; reads = i }

  module _ (first total : ℕ) where
    -- what is accepted with them
    abbrev pub whole : Content RecordSpans → Accepted
    whole c = record { fields = fields_in w at; content = c; first_header = first; consumed = total }

    whole_read : {b : Accepted} {q : ℕ} → whole_at way w at first total ≡ ok b q → (c : Content RecordSpans) × Read c × (b ≡ whole c)
    unfolding whole_at
    whole_read {q = q} e =
        let (t, i) = picked (eqb (unsigned_in table.crc w at) (crc32c (drop (at + 21) w))) _ 4 e in
        let (n, p, j, k) = and_then_ok (opened_at w at) _ i in
        let (c, l, v) = map_ok whole (content_at way (attributes_in w at).control w n p) k in
        (c, open_read n p q (subst (Openings w at) j (openings w at)) (eqb-true _ _ t) l, sym v)

-- ---- the judgement

judged : (x : Step ℕ Accepted) {b : Accepted} → judgement_of x ≡ accepted b → (q : ℕ) × (x ≡ ok b q)
judged (ok a q) {b} e = let w : a ≡ b = cc in (q, ap (λ (a : Accepted). ok a q) w)
judged (no n) e = refused_not_accepted e

module _ (way : Control) (s : List ℕ) (at first : ℕ) (b : Accepted) where
  -- the same of the list, whose window the batch's bytes are
  pub record Passed : Type 0 where
    pub size : ℕ
    pub batch_length : number_in table.batch_length s at ≡ pos size
    pub magic : number_in table.magic s at ≡ pos 2
    pub all_there : at + (12 + size) ≤ length s
    pub content : Content RecordSpans
    pub read : Read way (take (at + (12 + size)) s) at content
    pub is : b ≡ whole way (take (at + (12 + size)) s) at first (12 + size) content

  all_passed : (total q : ℕ) → Totals s at (accepted total) → whole_at way (take (at + total) s) at first total ≡ ok b q → Passed
  all_passed _ q (there {n} h e f m g) i =
      let (c, r, w) = whole_read way (take (at + (12 + n)) s) at first (12 + n) i in
      record { size = n; batch_length = e; magic = m; all_there = g; content = c; read = r; is = w }

  total_passed : (x : Judged ℕ) → Totals s at x → judge_whole way s at first x ≡ accepted b → Passed
  total_passed (more n) t j = more_not_accepted j
  total_passed (refused n) t j = refused_not_accepted j
  total_passed (accepted total) t j = let (q, i) = judged (whole_at way (take (at + total) s) at first total) j in all_passed total q t i

  pub passed : judge_with way s at first ≡ accepted b → Passed
  unfolding judge_with
  passed j = total_passed (total_at s at) (totals s at) j

-- "More bytes" comes only where a length says so, and "no room" only where a batch is accepted and a table is short:
-- the number of an answer tells which judgement it is by, since a refusal is by none but `Standing`. Assumes nothing.
use Rattle.std.specs.Prelude.{Err}
use Prim.Native.Nat.{ℕ, ◌+◌, ◌/◌, ◌<◌}
use mathlib.Core.Path.{◌≡◌, refl, sym, ap, ◌∙◌, subst}
use mathlib.Core.Bool.{false, true≢false}
use mathlib.Core.Logic.{◌⊎◌, inl, inr}
use mathlib.Core.List.{List}
use native.Mathlib.Omega.{arith}
use lib.ListN.{length, take}
use Rattle.numbers.specs.Exactly.{Exactly}
use Rattle.primitives.specs.Step.{Step, ok, no}
use Rattle.records.specs.Judgement.{RecordSpans}
use Rattle.records.specs.Rows.{Tables}
use Rattle.layout.specs.Batch.{Content, control, records}
use Rattle.opening.specs.Judgement.{way_of, Judgement, Judged, more, refused, accepted, Accepted, Control, judgement_of, whole_at, judge_whole, judge_with, total_at, judge}
use Rattle.opening.proofs.Tests.{Totals, few, low, short, unknown, lacking, there, totals, total_is}
use Rattle.batches.specs.declared.ReadError.{ReadError}
use Rattle.batches.specs.Answers.{Standing, Answer, view_read, wants, lacks_room, records_in, headers_of, rooms_of, has_room, answer_of}
use Rattle.batches.specs.Promises.{ReadOutcome, ReadBy}
use Rattle.batches.specs.Statements.{moved_judgement}
use Rattle.batches.specs.Demand3.{Lacks, length_lacks, magic_lacks, batch_lacks, MoreBytes, MoreBytesWith, NoRoom, NoRoomWith}
use Rattle.batches.proofs.Numbers.{refusals, ways_within}
use Rattle.batches.proofs.Shifted.{first_header_shifted}
use Rattle.batches.proofs.Single.{view_read_injective}
use Rattle.batches.proofs.Rooms.{room_short, short_room, Goes, wanting, refusing, roomy, cramped, goes, numbered}
use Rattle.batches.proofs.Standing.{standing_apart}

-- accepted with n records and m headers, for which there is no room
abbrev Short : Judgement → Tables → ℕ → ℕ → Type 0
Short j t n m =
    (b : Accepted) × (j ≡ accepted b) × (records_in b.content ≡ n) × (headers_of b.content ≡ m)
    × (has_room b.content b.first_header (rooms_of t) ≡ false)

-- ---- what an answer is by

module _ (j : Judgement) (standing : (n : ℕ) → j ≡ refused n → Standing n) (t : Tables) (o : ReadOutcome) (e : ReadBy j t o) where
  wants_by : (n : ℕ) → view_read o.result ≡ wants n → j ≡ more n
  wants_by n w = by j refl (goes j t o e)
    where
      by : (x : Judgement) → j ≡ x → Goes t o x → x ≡ more n
      by _ q (wanting a _) = ap (λ (x : Answer). more x.bytes) (sym a ∙ w)
      by _ q (refusing a _) = let (h, k) = standing_apart (standing _ q) in absurd (omega (arith, numbered (sym a ∙ w), h))
      by _ q (roomy h a _) = absurd (omega (arith, numbered (sym a ∙ w)))
      by _ q (cramped h a _) = absurd (omega (arith, numbered (sym a ∙ w)))

  lacks_room_by : (n m : ℕ) → view_read o.result ≡ lacks_room n m → Short j t n m
  lacks_room_by n m w = by j refl (goes j t o e)
    where
      by : (x : Judgement) → j ≡ x → Goes t o x → Short x t n m
      by _ q (wanting a _) = absurd (omega (arith, numbered (sym a ∙ w)))
      by _ q (refusing a _) = let (h, k) = standing_apart (standing _ q) in absurd (k (numbered (sym a ∙ w)))
      by _ q (roomy h a _) = absurd (omega (arith, numbered (sym a ∙ w)))
      by _ q (cramped {b} h a _) =
          (b, refl, ap (λ (x : Answer). x.records) (sym a ∙ w), ap (λ (x : Answer). x.headers) (sym a ∙ w), h)

by_wants : (j : Judgement) (t : Tables) (n : ℕ) → j ≡ more n → answer_of j (rooms_of t) ≡ wants n
by_wants j t n q = rw q

by_lacks_room : (j : Judgement) (t : Tables) (n m : ℕ) → Short j t n m → answer_of j (rooms_of t) ≡ lacks_room n m
by_lacks_room j t n m (b, q, x, y, h) = rw (q, h, x, y)

-- ---- more bytes

-- where a judgement asks for more bytes, they lack
abbrev Lacking : List ℕ → ℕ → Judgement → Type 0
Lacking s at (more n) = Lacks s at n
Lacking s at (refused n) = Unit
Lacking s at (accepted b) = Unit

whole_lacking : (s : List ℕ) (at : ℕ) (x : Step ℕ Accepted) → Lacking s at (judgement_of x)
whole_lacking s at (ok b p) = tt
whole_lacking s at (no n) = tt

lacks_total : (s : List ℕ) (at n : ℕ) → Lacks s at n → Totals s at (more n)
lacks_total s at _ (length_lacks h) = few h
lacks_total s at _ (magic_lacks h e f g) = short h e f g
lacks_total s at _ (batch_lacks h e f m g) = lacking h e f m g

module _ (way : Control) (s : List ℕ) (at first : ℕ) where
  total_lacking : (x : Judged ℕ) → Totals s at x → Lacking s at (judge_whole way s at first x)
  total_lacking _ (few h) = length_lacks h
  total_lacking _ (low h e) = tt
  total_lacking _ (short h e f g) = magic_lacks h e f g
  total_lacking _ (unknown h e f m) = tt
  total_lacking _ (lacking h e f m g) = batch_lacks h e f m g
  total_lacking _ (there {n} h e f m g) = whole_lacking s at (whole_at way (take (at + (12 + n)) s) at first (12 + n))

  judged_lacks : (n : ℕ) → judge_with way s at first ≡ more n → Lacks s at n
  unfolding judge_with
  judged_lacks n e = subst (Lacking s at) e (total_lacking (total_at s at) (totals s at))

  lacks_judged : (n : ℕ) → Lacks s at n → judge_with way s at first ≡ more n
  unfolding judge_with
  lacks_judged n l = ap (judge_whole way s at first) (total_is s at (more n) (lacks_total s at n l))

-- ---- no room

-- header rows stand from the row that was given
first_is : (way : Control) (s : List ℕ) (at first : ℕ) (b : Accepted) → judge_with way s at first ≡ accepted b
    → b.first_header ≡ first
first_is way s at first b e =
    let moved : Accepted → Accepted = λ b. record { fields = b.fields; content = b.content; first_header = first; consumed = b.consumed } in
    let w : accepted b ≡ accepted (moved b) = sym e ∙ first_header_shifted way s at first first ∙ ap (moved_judgement moved) e in
    cc

-- from the first row on
table_short : (c : Content RecordSpans) (t : Tables)
    → Exactly (has_room c 0 (rooms_of t) ≡ false) ((length t.records / 8 < records_in c) ⊎ (length t.headers / 4 < headers_of c))
table_short (control m) t = (λ e. absurd (true≢false e), λ w. elim w [ inl h ↦ absurd (omega arith) | inr h ↦ absurd (omega arith) ])
table_short (records rs) t = (
  λ e. elim (room_short rs 0 (rooms_of t) e) [ inl h ↦ inl h | inr h ↦ inr (omega arith) ],
  λ w. short_room rs 0 (rooms_of t) (elim w [ inl h ↦ inl h | inr h ↦ inr (omega arith) ]),
)

rows_short : (b : Accepted) (t : Tables) (n m : ℕ) → b.first_header ≡ 0 → records_in b.content ≡ n → headers_of b.content ≡ m
    → Exactly (has_room b.content b.first_header (rooms_of t) ≡ false) ((length t.records / 8 < n) ⊎ (length t.headers / 4 < m))
rows_short b t n m f x y = rw (f, ← x, ← y) (table_short b.content t)

-- ---- the statements

pub more_bytes_with : MoreBytesWith
more_bytes_with way within at first s t o n e = (
  λ w. judged_lacks way s at first n (wants_by _ (refusals way within s at first) t o e n (ap view_read w)),
  λ l. view_read_injective o.result (Err (ReadError.MoreBytes n)) (e.answer ∙ by_wants _ t n (lacks_judged way s at first n l)),
)

pub more_bytes : MoreBytes
more_bytes mode s t o n e = more_bytes_with (way_of mode) (ways_within mode) 0 0 s t o n e.by

pub no_room_with : NoRoomWith
no_room_with way within at first s t o n m e = (
  λ w. lacks_room_by _ (refusals way within s at first) t o e n m (ap view_read w),
  λ x. view_read_injective o.result (Err (ReadError.NoRoom n m)) (e.answer ∙ by_lacks_room _ t n m x),
)

pub no_room : NoRoom
no_room mode s t o n m e =
    let first : (b : Accepted) → judge mode s ≡ accepted b → b.first_header ≡ 0 = first_is (way_of mode) s 0 0 in
    let by = no_room_with (way_of mode) (ways_within mode) 0 0 s t o n m e.by in (
      λ w. let (b, q, x, y, h) = by.0 w in (b, q, x, y, (rows_short b t n m (first b q) x y).0 h),
      λ (b, q, x, y, h). by.1 (b, q, x, y, (rows_short b t n m (first b q) x y).1 h),
    )

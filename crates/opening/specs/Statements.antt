-- The laws of what is known before the marker or the records, each in words and then as a statement. What proves each
-- stands in proofs/ under the statement's name in small letters: `judged_by_opening : JudgedByOpening`.
use Rattle.std.specs.Prelude.{ℕ, ◌+◌, ◌≤◌, ◌≡◌, List, ◌++◌, length}
use Rattle.numbers.specs.Bytes.{Bytes}
use Rattle.numbers.specs.Exactly.{Exactly}
use Rattle.primitives.specs.Step.{no}
use Rattle.primitives.specs.Faults.{Wrong}
use Rattle.primitives.specs.Shifted.{moved_step}
use Rattle.layout.specs.Table.{fixed_part}
use Rattle.opening.specs.Judgement.{accepted, opened_at, Control, judge_with, bare_marker_at}
use Rattle.opening.specs.Faults.{FixedWrong, BareMarkerWrong}
use Rattle.opening.specs.Opened.{KnownAt, open_at, judged_from}

-- a way of reading control batches to which the place is nothing but where it reads
abbrev pub Placeless : Control → Type 0
Placeless way = (front s : List ℕ) (p : ℕ) → way (front ++ s) (length front + p) ≡ moved_step (λ m. m) (length front) (way s p)

-- The judgement is what is known before the marker or the records, and then what these say.
abbrev pub JudgedByOpening : Type 0
JudgedByOpening = (way : Control) (s : List ℕ) (at first : ℕ) → judge_with way s at first ≡ judged_from way s at first (open_at s at)

-- What is known has all bytes of its batch there, and the fixed fields lie within them.
pub record Inside (s : List ℕ) (at : ℕ) (o : KnownAt) : Type 0 where
  pub next : o.next ≡ at + fixed_part
  pub fixed : fixed_part ≤ o.total
  pub end : at + o.total ≤ length s

abbrev pub OpenedInside : Type 0
OpenedInside = (s : List ℕ) (at : ℕ) (o : KnownAt) → open_at s at ≡ accepted o → Inside s at o

-- ---- first faults

-- What is met before the marker or the records is refused by a number from 8 on exactly where that is the fixed part's
-- first fault.
abbrev pub OpenedFaults : Type 0
OpenedFaults = (s : List ℕ) (at n : ℕ) → 8 ≤ n → Exactly (opened_at s at ≡ no n) (FixedWrong s at n)

-- a way of reading control batches that refuses by the first fault, and wherever there is one
abbrev pub FaultsOf : Control → Wrong → Type 0
FaultsOf way W = (s : List ℕ) (p n : ℕ) → Bytes s → p ≤ length s → Exactly (way s p ≡ no n) (W s p n)

-- The bare marker is read so.
abbrev pub BareMarkerFaults : Type 0
BareMarkerFaults = FaultsOf bare_marker_at BareMarkerWrong

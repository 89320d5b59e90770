-- Records are refused by no number but those from 8 to 13: what is read by steps of which this holds is refused by the
-- number of one of them, and each test names such a number. Assumes nothing.
use Prim.Native.Nat.{ℕ, zero, suc, ◌+◌, ◌≤◌}
use mathlib.Core.Path.{◌≡◌}
use mathlib.Core.Bool.{Bool, true, false}
use mathlib.Core.Option.{Option, none, some}
use mathlib.Core.List.{List}
use native.Mathlib.Omega.{arith}
use lib.Dec.{leb, ltb, eqb}
use lib.IntN.{ℤ, pos, negsuc}
use lib.ListN.{length, take}
use Rattle.numbers.specs.Pick.{pick}
use Rattle.primitives.specs.Step.{Step, ok, no, and_then, map_step, times}
use Rattle.primitives.specs.Reading.{unsigned_at, integer_at, varint_at, length_of, length_at, span_of, span_at, bytes_of}
use Rattle.primitives.proofs.Refusing.{RefusedBy, refused_by_lem, and_then_refused, map_refused, pick_refused, times_refused}
use Rattle.primitives.proofs.NumberFaults.{varint_refused}
use Rattle.utf8.specs.Judgement.{is_utf8}
use Rattle.records.specs.Judgement.{present, count_at, bytes_at, key_at, header_at, deltas_at, head_at, fields_at, record_at, run_at, records_at}

abbrev numbers : ℕ → Type 0
numbers n = (8 ≤ n) × (n ≤ 13)

-- a refusal is by such a number
abbrev pub Refuses : {P A : Type 0} → Step P A → Type 0
Refuses x = RefusedBy numbers x

pub refusal_within : {P A : Type 0} {x : Step P A} {n : ℕ} → Refuses x → x ≡ no n → (8 ≤ n) × (n ≤ 13)
refusal_within w e = refused_by_lem numbers w e

-- ---- steps of steps

module _ {P A B : Type 0} where
  pub and_then_refuses : (x : Step P A) (f : A → P → Step P B) → Refuses x → ((a : A) (p : P) → Refuses (f a p)) → Refuses (and_then x f)
  and_then_refuses = and_then_refused numbers

  map_refuses : (f : A → B) (x : Step P A) → Refuses x → Refuses (map_step f x)
  map_refuses = map_refused numbers

module _ {P A : Type 0} where
  pub pick_refuses : (t : Bool) (x y : Step P A) → Refuses x → Refuses y → Refuses (pick t x y)
  pick_refuses = pick_refused numbers

  times_refuses : (f : P → Step P A) → ((p : P) → Refuses (f p)) → (k : ℕ) (p : P) → Refuses (times f k p)
  times_refuses = times_refused numbers

-- ---- fields

pub integer_refuses : (n : ℕ) (s : List ℕ) (p : ℕ) → Refuses (integer_at n s p)
unfolding integer_at unsigned_at
integer_refuses n s p = map_refuses _ (unsigned_at n s p) (pick_refuses (leb (p + n) (length s)) (ok _ _) (no 8) tt (omega arith, omega arith))

varint_refuses : (w : ℕ) (s : List ℕ) (p : ℕ) → Refuses (varint_at w s p)
varint_refuses = varint_refused numbers (omega arith, omega arith) (omega arith, omega arith)

length_of_refuses : (nullable : Bool) (z : ℤ) (p : ℕ) → Refuses (length_of nullable z p)
length_of_refuses nullable (pos n) p = tt
length_of_refuses nullable (negsuc zero) p = pick_refuses nullable (ok none p) (no 10) tt (omega arith, omega arith)
length_of_refuses nullable (negsuc (suc k)) p = (omega arith, omega arith)

length_refuses : (nullable : Bool) (s : List ℕ) (p : ℕ) → Refuses (length_at nullable s p)
unfolding length_at
length_refuses nullable s p = and_then_refuses (varint_at 32 s p) _ (varint_refuses 32 s p) (length_of_refuses nullable)

span_of_refuses : (s : List ℕ) (n : Option ℕ) (p : ℕ) → Refuses (span_of s n p)
span_of_refuses s none p = tt
span_of_refuses s (some n) p = pick_refuses (leb (p + n) (length s)) (ok _ _) (no 8) tt (omega arith, omega arith)

span_refuses : (nullable : Bool) (s : List ℕ) (p : ℕ) → Refuses (span_at nullable s p)
unfolding span_at
span_refuses nullable s p = and_then_refuses (length_at nullable s p) _ (length_refuses nullable s p) (span_of_refuses s)

-- ---- a header

present_refuses : {A : Type 0} (x : Option A) (p : ℕ) → Refuses (present x p)
present_refuses none p = (omega arith, omega arith)
present_refuses (some a) p = tt

count_refuses : (s : List ℕ) (p : ℕ) → Refuses (count_at s p)
unfolding count_at
count_refuses s p = and_then_refuses (length_at false s p) _ (length_refuses false s p) present_refuses

bytes_refuses : (s : List ℕ) (p : ℕ) → Refuses (bytes_at s p)
unfolding bytes_at
bytes_refuses s p = and_then_refuses (span_at false s p) _ (span_refuses false s p) present_refuses

key_refuses : (s : List ℕ) (p : ℕ) → Refuses (key_at s p)
unfolding key_at
key_refuses s p =
    and_then_refuses (bytes_at s p) _ (bytes_refuses s p)
    (λ x m. pick_refuses (is_utf8 (bytes_of s x)) (ok x m) (no 11) tt (omega arith, omega arith))

header_refuses : (s : List ℕ) (p : ℕ) → Refuses (header_at s p)
unfolding header_at
header_refuses s p =
    and_then_refuses (key_at s p) _ (key_refuses s p) (λ k m. map_refuses _ (bytes_at s m) (bytes_refuses s m))

-- ---- a record

deltas_refuses : (s : List ℕ) (p : ℕ) → Refuses (deltas_at s p)
unfolding deltas_at
deltas_refuses s p =
    and_then_refuses (integer_at 1 s p) _ (integer_refuses 1 s p) (λ _ m.
    and_then_refuses (varint_at 64 s m) _ (varint_refuses 64 s m) (λ t q.
    map_refuses _ (varint_at 32 s q) (varint_refuses 32 s q)))

head_refuses : (s : List ℕ) (p : ℕ) → Refuses (head_at s p)
unfolding head_at
head_refuses s p =
    and_then_refuses (deltas_at s p) _ (deltas_refuses s p) (λ d m.
    and_then_refuses (span_at true s m) _ (span_refuses true s m) (λ k q.
    and_then_refuses (span_at true s q) _ (span_refuses true s q) (λ v r.
    map_refuses _ (count_at s r) (count_refuses s r))))

fields_refuses : (s : List ℕ) (p : ℕ) → Refuses (fields_at s p)
unfolding fields_at
fields_refuses s p =
    and_then_refuses (head_at s p) _ (head_refuses s p)
    (λ h m. map_refuses _ (times (header_at s) h.count m) (times_refuses (header_at s) (header_refuses s) h.count m))

pub record_refuses : (s : List ℕ) (p : ℕ) → Refuses (record_at s p)
unfolding record_at
record_refuses s p =
    and_then_refuses (count_at s p) _ (count_refuses s p) (λ n m.
    and_then_refuses (fields_at (take (m + n) s) m) _ (fields_refuses (take (m + n) s) m)
    (λ r q. pick_refuses (eqb q (m + n)) (ok r q) (no 13) tt (omega arith, omega arith)))

-- ---- records, one after the other

run_refuses : (s : List ℕ) (count p : ℕ) → Refuses (run_at s count p)
unfolding run_at
run_refuses s count p = times_refuses (record_at s) (record_refuses s) count p

pub records_refuses : (s : List ℕ) (count p : ℕ) → Refuses (records_at s count p)
unfolding records_at
records_refuses s count p =
    and_then_refuses (run_at s count p) _ (run_refuses s count p) (λ rs q.
    pick_refuses (ltb q (length s)) (no 13) _ (omega arith, omega arith)
    (pick_refuses (eqb q (length s)) (ok rs q) (no 8) tt (omega arith, omega arith)))

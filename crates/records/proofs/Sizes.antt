-- The sizes of records that stand one after the other add up to the size of all their bytes; and each number, so all
-- that follows its length too, has at least a byte. Assumes nothing.
use Prim.Native.Nat.{ℕ, ◌+◌, ◌*◌, ◌≤◌}
use mathlib.Core.Path.{◌≡◌, refl, ap, ◌∙◌}
use mathlib.Core.Bool.{Bool, true}
use mathlib.Core.Option.{Option, none, some}
use mathlib.Core.List.{List}
use native.Mathlib.Omega.{arith}
use lib.IntN.{ℤ}
use lib.ListN.{length, length-append}
use Rattle.numbers.specs.Format.{zigzag, Varies, Sized, Nullable}
use Rattle.numbers.proofs.Shortest.{groups_length}
use Rattle.numbers.proofs.Integers.{integer_length}
use Rattle.records.specs.Format.{Record, Run, FieldsBytes, RecordBytes, RecordsBytes}
use Rattle.records.specs.Statements.{sizes, total, SizesAddUp, HeaderLeast, RecordLeast}
use Rattle.records.proofs.Sound.{records_sound}

-- ---- sizes add up

pub total_sizes : {strict : Bool} {bs : List ℕ} {rs : List Record} (g : RecordsBytes strict bs rs) → length bs ≡ total (sizes g)
unfolding sizes total
total_sizes Run.ended = refl
total_sizes (Run.more {x} {y} g rest) = length-append x y ∙ ap (λ (n : ℕ). length x + n) (total_sizes rest)

pub sizes_add_up : SizesAddUp
sizes_add_up s count p rs q b e =
    let t = (records_sound s count p rs q b e).0 in
    (t, t.stands.end ∙ ap (λ (n : ℕ). p + n) (total_sizes t.encodes))

-- ---- the least sizes

varies_least : {w : ℕ} {strict : Bool} {bs : List ℕ} {n : ℤ} → Varies w strict bs n → 1 ≤ length bs
varies_least {n = n} g = rw (g.is, groups_length g.more (zigzag n)) (omega arith)

sized_least : {strict : Bool} {bs v : List ℕ} → Sized strict bs v → 1 + length v ≤ length bs
sized_least {v = v} g = rw (g.is, length-append g.size v) (omega (arith, varies_least g.sizes))

-- how many bytes follow a length
abbrev following : Option (List ℕ) → ℕ
following none = 0
following (some v) = length v

nullable_least : (strict : Bool) (bs : List ℕ) (v : Option (List ℕ)) → Nullable true strict bs v
    → 1 + following v ≤ length bs
nullable_least strict bs none g = varies_least g.1
nullable_least strict bs (some v) g = sized_least g

pub run_least : {A : Type 0} {G : List ℕ → A → Type 0} (n : ℕ) → ((x : List ℕ) (a : A) → G x a → n ≤ length x)
    → {bs : List ℕ} {run : List A} → Run G bs run → n * length run ≤ length bs
run_least n each Run.ended = omega arith
run_least n each (Run.more {x} {y} {a} g rest) = rw (length-append x y) (omega (arith, each x a g, run_least n each rest))

pub header_least : HeaderLeast
header_least strict bs h g =
    rw (g.is, length-append g.key g.value) (omega (arith, sized_least g.keyed, sized_least g.valued))

fields_least : {strict : Bool} {bs : List ℕ} {r : Record} → FieldsBytes strict bs r
    → 6 + following r.key + 2 * length r.headers ≤ length bs
fields_least {strict} {r = r} g =
    rw g.is (simp length-append (omega (
      arith,
      integer_length g.attributed,
      varies_least g.timestamped,
      varies_least g.offset,
      nullable_least strict g.key r.key g.keyed,
      nullable_least strict g.value r.value g.valued,
      varies_least g.counted,
      run_least 2 (header_least strict) g.headed,
    )))

with_key : {strict : Bool} {bs : List ℕ} {r : Record} → RecordBytes strict bs r
    → 7 + following r.key + 2 * length r.headers ≤ length bs
with_key g =
    rw (g.sized.is, length-append g.sized.size g.fields)
    (omega (arith, varies_least g.sized.sizes, fields_least g.holds))

pub record_least : RecordLeast
record_least strict bs r g = omega (arith, with_key g)

-- a record with a key is longer by it
pub keyed_record_least : {strict : Bool} {bs : List ℕ} {r : Record} {v : List ℕ} → RecordBytes strict bs r
    → r.key ≡ some v → 7 + length v ≤ length bs
keyed_record_least g e = omega (arith, with_key g, ap following e)

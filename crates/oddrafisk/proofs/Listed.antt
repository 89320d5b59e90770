-- The entries of an answer, as the machine holds them. Assumes nothing.
use Prim.Native.Nat.{ℕ, ◌≤◌}
use mathlib.Core.Path.{◌≡◌, refl, ap, ◌∙◌}
use mathlib.Core.Bool.{Bool, true, false}
use mathlib.Core.List.{[], ◌∷◌}
use native.Mathlib.Omega.{arith}
use lib.IntN.{ℤ, pos}
use mir.Syntax.{w64}
use mir.Val.{to_z, of_z}
use mir.ValLaws.{to_z_pos}
use Rattle.std.specs.Int.{from_bool}
use Rattle.layout.specs.Batch.{TimestampType, create_time, log_append_time, abort, commit}
use Rattle.batches.specs.Answers.{Kind, of_records, of_marker}
use Rattle.oddrafisk.specs.Entries.{type_entry, flag_entry, kind_entry}

-- ---- numbers that stand for something

type_same : (t : TimestampType) → to_z w64 (of_z w64 (type_entry t)) ≡ type_entry t
type_same create_time = refl
type_same log_append_time = refl

flag_same : (b : Bool) → to_z w64 (of_z w64 (pos (from_bool b))) ≡ flag_entry b
flag_same false = refl
flag_same true = refl

kind_same : (k : Kind) → to_z w64 (of_z w64 (kind_entry k)) ≡ kind_entry k
kind_same of_records = refl
kind_same (of_marker abort) = refl
kind_same (of_marker commit) = refl

abbrev machine : ℤ → ℤ
machine z = to_z w64 (of_z w64 z)

pub type_back : (t : TimestampType) (r : ℤ) → r ≡ type_entry t → to_z w64 (of_z w64 r) ≡ type_entry t
type_back t r e = ap machine e ∙ type_same t

pub flag_back : (b : Bool) (r : ℤ) → r ≡ pos (from_bool b) → to_z w64 (of_z w64 r) ≡ flag_entry b
flag_back b r e = ap machine e ∙ flag_same b

pub kind_back : (k : Kind) (r : ℤ) → r ≡ kind_entry k → to_z w64 (of_z w64 r) ≡ kind_entry k
kind_back k r e = ap machine e ∙ kind_same k

-- ---- counts

pub count_back : (n m : ℕ) → n ≡ m → m ≤ 2147483659 → to_z w64 n ≡ pos m
count_back n m e h = rw e (to_z_pos w64 m (omega (arith, h)))

-- ---- sixteen of them

pub listed : {a0 a1 a2 a3 a4 a5 a6 a7 a8 a9 a10 a11 a12 a13 b0 b1 b2 b3 b4 b5 b6 b7 b8 b9 b10 b11 b12 b13 : ℤ} → a0 ≡ b0 → a1 ≡ b1 → a2 ≡ b2
    → a3 ≡ b3 → a4 ≡ b4 → a5 ≡ b5 → a6 ≡ b6 → a7 ≡ b7 → a8 ≡ b8 → a9 ≡ b9 → a10 ≡ b10 → a11 ≡ b11 → a12 ≡ b12 → a13 ≡ b13
    → (a0 ∷ a1 ∷ a2 ∷ a3 ∷ a4 ∷ a5 ∷ a6 ∷ a7 ∷ a8 ∷ a9 ∷ a10 ∷ a11 ∷ a12 ∷ a13 ∷ pos 0 ∷ pos 0 ∷ [])
    ≡ (b0 ∷ b1 ∷ b2 ∷ b3 ∷ b4 ∷ b5 ∷ b6 ∷ b7 ∷ b8 ∷ b9 ∷ b10 ∷ b11 ∷ b12 ∷ b13 ∷ pos 0 ∷ pos 0 ∷ [])
listed e0 e1 e2 e3 e4 e5 e6 e7 e8 e9 e10 e11 e12 e13 =
    λ i. e0 i ∷ e1 i ∷ e2 i ∷ e3 i ∷ e4 i ∷ e5 i ∷ e6 i ∷ e7 i ∷ e8 i ∷ e9 i ∷ e10 i ∷ e11 i ∷ e12 i ∷ e13 i ∷ pos 0 ∷ pos 0 ∷ []

-- The attributes of a batch are taken apart into what they were put together from: each flag is a digit.
-- Assumes nothing.
use Prim.Native.Nat.{ℕ, ◌+◌, ◌*◌, ◌/◌, ◌%◌, ◌≤◌}
use mathlib.Core.Path.{◌≡◌, refl}
use mathlib.Core.Bool.{Bool, true, false}
use native.Mathlib.Omega.{arith}
use lib.Dec.{eqb}
use Rattle.numbers.specs.Pick.{pick}
use Rattle.records.specs.Format.{Record}
use Rattle.layout.specs.Batch.{TimestampType, create_time, log_append_time, Content, control, records, Batch}
use Rattle.layout.specs.Format.{timestamp_bit, bit, control_bit, higher_bits, attributes_of}
use Rattle.layout.proofs.Flags.{timestamp_small, bit_small, control_small}
use Rattle.opening.specs.Judgement.{Attributes, apart}

-- the content is that of a control batch
abbrev pub controls : {R : Type 0} → Content R → Bool
controls (control m) = true
controls (records rs) = false

-- what the attributes of a batch say
abbrev pub said_by : Batch Record → Attributes
said_by b =
    record {
      codec = 0;
      timestamp_type = b.fields.timestamp_type;
      transactional = b.fields.transactional;
      control = controls b.content;
    }

-- ---- a flag and its bit

timestamp_again : (t : TimestampType) → pick (eqb (timestamp_bit t) 1) log_append_time create_time ≡ t
timestamp_again create_time = refl
timestamp_again log_append_time = refl

bit_again : (x : Bool) → eqb (bit x) 1 ≡ x
bit_again false = refl
bit_again true = refl

control_again : {R : Type 0} (c : Content R) → eqb (control_bit c) 1 ≡ controls c
control_again (control m) = refl
control_again (records rs) = refl

-- ---- all of them

abbrev together : ℕ → ℕ → ℕ → ℕ → ℕ
together t x c h = 8 * t + 16 * x + 32 * c + 64 * h

digits : (t x c h : ℕ) → t ≤ 1 → x ≤ 1 → c ≤ 1
    → (together t x c h % 8 ≡ 0) × (together t x c h / 8 % 2 ≡ t) × (together t x c h / 16 % 2 ≡ x)
    × (together t x c h / 32 % 2 ≡ c)
digits t x c h l m n = (omega arith, omega arith, omega arith, omega arith)

pub attributes_apart : (strict : Bool) (higher : ℕ) (b : Batch Record) → apart (attributes_of strict higher b) ≡ said_by b
attributes_apart strict higher b =
    let t = b.fields.timestamp_type in
    let x = b.fields.transactional in
    let d = digits (timestamp_bit t) (bit x) (control_bit b.content) (higher_bits strict higher)
    (timestamp_small t) (bit_small x) (control_small b.content) in
    rw (d.0, d.1, d.2, d.3, timestamp_again t, bit_again x, control_again b.content)

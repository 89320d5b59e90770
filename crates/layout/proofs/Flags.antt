-- A flag's bit is 0 or 1. Assumes nothing.
use Prim.Native.Nat.{◌≤◌}
use mathlib.Core.Bool.{Bool, true, false}
use native.Mathlib.Omega.{arith}
use Rattle.layout.specs.Batch.{TimestampType, create_time, log_append_time, Content, control, records}
use Rattle.layout.specs.Format.{timestamp_bit, bit, control_bit}

pub timestamp_small : (t : TimestampType) → timestamp_bit t ≤ 1
timestamp_small create_time = omega arith
timestamp_small log_append_time = omega arith

pub bit_small : (x : Bool) → bit x ≤ 1
bit_small false = omega arith
bit_small true = omega arith

pub control_small : {R : Type 0} (c : Content R) → control_bit c ≤ 1
control_small (control m) = omega arith
control_small (records rs) = omega arith

-- Whatever has an encoding can be written: its numbers fit and its keys are UTF-8 in any encoding, and what is written
-- is no longer than the fields whose length a Varint holds. Assumes nothing.
use Prim.Native.Nat.{ℕ}
use mathlib.Core.List.{List}
use native.Mathlib.Omega.{arith}
use Rattle.records.specs.Format.{Run}
use Rattle.records.specs.Statements.{Each, RecordWritable, RunWritable}
use Rattle.records.proofs.Shortest.{fields_shortest}

each_of : {A : Type 0} {G : List ℕ → A → Type 0} {P : A → Type 0} → ((x : List ℕ) (a : A) → G x a → P a)
    → {bs : List ℕ} {run : List A} → Run G bs run → Each P run
unfolding Each
each_of one Run.ended = tt
each_of one (Run.more {x} {a = a} g others) = (one x a g, each_of one others)

pub record_writable : RecordWritable
record_writable strict bs r g =
    record {
      timestamp = g.holds.timestamped.fits;
      offset = g.holds.offset.fits;
      keys = each_of (λ x h k. k.utf8) g.holds.headed;
      size = omega (arith, g.sized.sizes.fits, fields_shortest g.holds);
    }

pub run_writable : RunWritable
run_writable strict bs rs g = each_of (record_writable strict) g

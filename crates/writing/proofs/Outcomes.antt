-- What an outcome of writing was given: bytes for which the output has room, where it says how many, and otherwise a
-- refusal with a number of its own, which is not 0. Assumes nothing.
use Prim.Native.Nat.{ℕ, ◌+◌, ◌≤◌, ◌<◌}
use mathlib.Core.Path.{◌≡◌, refl, sym, ap, ◌∙◌}
use mathlib.Core.Bool.{Bool, true, false}
use mathlib.Core.List.{List}
use native.Mathlib.Omega.{arith}
use borrow.Author.Tests.{leb-true}
use lib.Dec.{leb}
use lib.ListN.{length, length-append, length-take, length-drop}
use Rattle.std.proofs.Common.{Ok}
use Rattle.numbers.specs.Pick.{pick}
use Rattle.asking.specs.declared.WriteFault.{WriteFault}
use Rattle.asking.specs.Answers.{write_number_of}
use Rattle.writing.specs.Answers.{Answer, writes, refuses, view_written, Given, given, refused, over, answer_due, output_due}
use Rattle.writing.specs.Promises.{WriteOutcome, WriteBy}

abbrev pub Numbered : Given → Type 0
Numbered (given bs) = Unit {0}
Numbered (refused n) = 0 < n

pub numbers : {a b : Answer} → a ≡ b → a.number ≡ b.number
numbers e = ap (λ (x : Answer). x.number) e

pub given_same : {x y : List ℕ} → given x ≡ given y → x ≡ y
given_same e = cc

-- n bytes in an output, from a place on
pub record Put (g : Given) (at n : ℕ) (out : List ℕ) (o : WriteOutcome) : Type 0 where
  pub bytes : List ℕ
  pub is : g ≡ given bytes
  pub length_is : length bytes ≡ n
  pub room : at + n ≤ length out
  pub output_is : o.output ≡ over at bytes out

put_by : (room : Bool) (bs : List ℕ) (at n : ℕ) (out : List ℕ) (o : WriteOutcome) → leb (at + length bs) (length out) ≡ room
    → writes n ≡ pick room (writes (length bs)) (refuses 24) → o.output ≡ pick room (over at bs out) out → Put (given bs) at n out o
put_by true bs at n out o h e f =
    let l : length bs ≡ n = ap (λ (x : Answer). x.bytes) (sym e) in
    record { bytes = bs; is = refl; length_is = l; room = omega (arith, leb-true (at + length bs) (length out) h); output_is = f }
put_by false bs at n out o h e f = absurd (omega (arith, numbers e))

pub put : (g : Given) → Numbered g → (at n : ℕ) (out : List ℕ) (o : WriteOutcome) → writes n ≡ answer_due at out g → o.output ≡ output_due at out g
    → Put g at n out o
put (given bs) w at n out o e f = put_by (leb (at + length bs) (length out)) bs at n out o refl e f
put (refused m) w at n out o e f = absurd (omega (arith, numbers e))

-- ---- a refusal

fault_numbered : (f : WriteFault) → 0 < write_number_of f
fault_numbered WriteFault.Codec = omega arith
fault_numbered WriteFault.Row = omega arith
fault_numbered WriteFault.KeyNotUtf8 = omega arith
fault_numbered WriteFault.TooLong = omega arith
fault_numbered WriteFault.ShortOutput = omega arith
fault_numbered WriteFault.BareMarker = omega arith

-- no length and no refusal say the same
pub apart : {X : Type 0} (f : WriteFault) {n : ℕ} → refuses (write_number_of f) ≡ writes n → X
apart f e = absurd (omega (arith, fault_numbered f, numbers e))

-- ---- bytes within the output

pub over_length : (at : ℕ) (bs out : List ℕ) → at + length bs ≤ length out → length (over at bs out) ≡ length out
over_length at bs out h = simp (length-append, length-take, length-drop) (omega arith)

lengths : {a b : Answer} → a ≡ b → a.bytes ≡ b.bytes
lengths e = ap (λ (x : Answer). x.bytes) e

-- a refusal names no bytes, so its answer is within any output
within_by : (room : Bool) (bs out : List ℕ) (n : ℕ) → leb (0 + length bs) (length out) ≡ room
    → writes n ≡ pick room (writes (length bs)) (refuses 24) → n ≤ length out
within_by true bs out n h e = omega (arith, leb-true (0 + length bs) (length out) h, lengths e)
within_by false bs out n h e = omega (arith, lengths e)

due : (g : Given) (out : List ℕ) (n : ℕ) → writes n ≡ answer_due 0 out g → n ≤ length out
due (given bs) out n e = within_by (leb (0 + length bs) (length out)) bs out n refl e
due (refused m) out n e = omega (arith, lengths e)

pub within : (g : Given) (out : List ℕ) (o : WriteOutcome) (n : ℕ) → WriteBy g 0 out o → o.result ≡ Ok n → n ≤ length out
within g out o n w e = due g out n (ap view_written (sym e) ∙ w.answer)

-- Something in front of the bytes moves the starts and the places of records, and nothing else: they are read by steps
-- of which this holds, and the window of a record has the same in front. Assumes nothing.
use Prim.Native.Nat.{ℕ, ◌+◌}
use mathlib.Core.Path.{◌≡◌, refl}
use mathlib.Core.Option.{Option, none, some}
use mathlib.Core.List.{map}
use native.Mathlib.Nat.{add_assoc}
use lib.ListN.{length-append}
use lib.Seq.{take-append-add, drop-append-add}
use Rattle.primitives.specs.Reading.{Span}
use Rattle.primitives.specs.Shifted.{moved_span, moved_nullable, same, moved_step, Shifted}
use Rattle.primitives.proofs.Shifted.{ltb_add, eqb_add, moved, times_shifted, integer_shifted, varint_shifted, length_shifted, span_shifted}
use Rattle.records.specs.Judgement.{present, count_at, bytes_at, key_at, header_at, deltas_at, Head, head_at, fields_at, record_at, run_at, records_at}
use Rattle.records.specs.Statements.{moved_header, moved_record, RecordsShifted}

count_present : (n : Option ℕ) (k p : ℕ) → present n (k + p) ≡ moved_step (same k) k (present n p)
count_present none k p = refl
count_present (some n) k p = refl

span_present : (x : Option Span) (k p : ℕ) → present (moved_nullable k x) (k + p) ≡ moved_step (moved_span k) k (present x p)
span_present none k p = refl
span_present (some x) k p = refl

count_shifted : Shifted same count_at
unfolding count_at
count_shifted front s p = simp (length_shifted, count_present, moved)

bytes_shifted : Shifted moved_span bytes_at
unfolding bytes_at
bytes_shifted front s p = simp (span_shifted, span_present, moved)

key_shifted : Shifted moved_span key_at
unfolding key_at
key_shifted front s p = simp (bytes_shifted, drop-append-add, moved)

header_shifted : Shifted moved_header header_at
unfolding header_at
header_shifted front s p = simp (key_shifted, bytes_shifted, moved)

deltas_shifted : Shifted same deltas_at
unfolding deltas_at
deltas_shifted front s p = simp (integer_shifted, varint_shifted, moved)

abbrev moved_head : ℕ → Head → Head
moved_head k h =
    record { deltas = h.deltas; key = moved_nullable k h.key; value = moved_nullable k h.value; count = h.count }

head_shifted : Shifted moved_head head_at
unfolding head_at
head_shifted front s p = simp (deltas_shifted, span_shifted, count_shifted, moved)

fields_shifted : Shifted moved_record fields_at
unfolding fields_at
fields_shifted front s p = simp (head_shifted, times_shifted moved_header header_at header_shifted, moved)

pub record_shifted : Shifted moved_record record_at
unfolding record_at
record_shifted front s p = simp (count_shifted, add_assoc, take-append-add, fields_shifted, eqb_add, moved)

run_shifted : (count : ℕ) → Shifted (λ k. map (moved_record k)) (λ s p. run_at s count p)
unfolding run_at
run_shifted = times_shifted moved_record record_at record_shifted

pub records_shifted : RecordsShifted
unfolding records_at
records_shifted front s count p = simp (run_shifted, length-append, ltb_add, eqb_add, moved)

-- What a refusal leaves. Assumes nothing.
use Prim.Native.Nat.{◌+◌}
use mathlib.Core.Path.{◌≡◌, ap}
use mathlib.Core.Bool.{Bool, true, false}
use lib.Dec.{leb}
use lib.ListN.{length}
use Rattle.numbers.specs.Pick.{pick}
use Rattle.writing.specs.Answers.{Answer, writes, refuses, view_written, given, refused, over}
use Rattle.writing.specs.Statements.{RefusedUntouched}

pub refused_untouched : RefusedUntouched
refused_untouched (refused m) at out o h e = (h.output, ap (λ (a : Answer). a.bytes) h.answer)
refused_untouched (given bs) at out o h e = by_room (leb (at + length bs) (length out)) h.answer h.output
  where
    by_room : (b : Bool) → view_written o.result ≡ pick b (writes (length bs)) (refuses 24) → o.output ≡ pick b (over at bs out) out
        → (o.output ≡ out) × ((view_written o.result).bytes ≡ 0)
    by_room true a b = absurd (e (ap (λ (x : Answer). x.number) a))
    by_room false a b = (b, ap (λ (x : Answer). x.bytes) a)

-- Two batches that give the same bytes are equal, since an encoding has one meaning; and what is given is canonical,
-- since it is of the strict grammar. Assumes nothing.
use Rattle.std.specs.Prelude.{Ok}
use Prim.Native.Nat.{ℕ}
use mathlib.Core.Path.{◌≡◌, sym, ◌∙◌, subst}
use mathlib.Core.Bool.{true}
use mathlib.Core.List.{List, [], append-nil}
use lib.ListN.{take}
use Rattle.records.specs.Judgement.{RecordSpans}
use Rattle.writing.specs.Promises.{WriteOutcome}
use Rattle.layout.specs.Batch.{Content}
use Rattle.layout.specs.Format.{BatchBytes}
use Rattle.layout.specs.declared.ControlMode.{ControlMode}
use Rattle.batches.specs.Promises.{CanonicalPromise}
use Rattle.batches.specs.Request.{Request}
use Rattle.batches.specs.Rewriting.{Writes, Asks, batch_asked, WrittenApart, WrittenCanonical}
use Rattle.batches.proofs.AllBytes.{content_bytes, batch_bytes}
use Rattle.batches.proofs.Canonical.{canonical_is_strict}
use Rattle.batches.proofs.ReadsBack.{asked_once}
use Rattle.batches.proofs.Unambiguous.{unambiguous}
use Rattle.batches.proofs.Written.{written, written_begins}

-- the output begins with an encoding of the batch that was asked for
written_asked : (q : Request) (out : List ℕ) (o : WriteOutcome) (n : ℕ) (c : Content RecordSpans) → Writes q out o
    → o.result ≡ Ok n → Asks q c → BatchBytes q.mode true (take n o.output) (batch_asked q c)
written_asked q out o n c promise e asks =
    let w = written q out o n promise e in
    rw (written_begins w)
    (subst (λ (c : Content RecordSpans). BatchBytes q.mode true w.bytes (batch_asked q c)) (asked_once q w.asked asks) w.encodes)

pub written_apart : WrittenApart
written_apart q q' out out' o o' n n' c c' mode promise promise' e e' asks asks' same =
    let g = written_asked q out o n c promise e asks in
    let h =
    subst (λ (mode : ControlMode). BatchBytes mode true (take n' o'.output) (batch_asked q' c')) (sym mode)
    (written_asked q' out' o' n' c' promise' e' asks') in
    let bs = take n o.output in
    (unambiguous q.mode true true bs [] (batch_asked q c) (batch_asked q' c') g
    (subst (λ (x : List ℕ). BatchBytes q.mode true x (batch_asked q' c')) (sym same ∙ sym (append-nil bs)) h)).1

pub written_canonical : WrittenCanonical
written_canonical q out o n r promise e canonical =
    let w = written q out o n promise e in
    let body = content_bytes q.mode q.source w.encodes.body w.content promise.handed.source w.encodes.holds in
    let strict = (canonical_is_strict q.mode w.bytes (batch_bytes w.encodes body)).1 (batch_asked q w.content, w.encodes) in
    (subst (λ (s : List ℕ). CanonicalPromise q.mode s r) (written_begins w) canonical).says.1 strict

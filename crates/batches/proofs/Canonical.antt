-- The canonical bytes are those of the strict grammar: what the writer gives of a batch that was read is an encoding of
-- it by that grammar, which has no other. Assumes nothing.
use Rattle.std.specs.Prelude.{Ok}
use Prim.Native.Nat.{ℕ, ◌+◌}
use mathlib.Core.Path.{◌≡◌, refl, sym, ap, ◌∙◌, subst}
use mathlib.Core.Bool.{true}
use mathlib.Core.List.{List}
use native.Mathlib.Omega.{arith}
use native.Mathlib.Nat.{zero-add}
use borrow.Author.Tests.{le-leb}
use lib.ListN.{length}
use Rattle.numbers.specs.Bytes.{Bytes}
use Rattle.numbers.specs.Exactly.{Exactly}
use Rattle.primitives.proofs.Places.{whole}
use Rattle.records.specs.Format.{Record}
use Rattle.writing.specs.Answers.{given, answer_due, output_due}
use Rattle.writing.proofs.Single.{single_written}
use Rattle.writing.proofs.Outcomes.{given_same}
use Rattle.layout.specs.Batch.{Batch}
use Rattle.layout.specs.Format.{BatchBytes}
use Rattle.opening.proofs.Verdicts.{same_accepted}
use Rattle.layout.specs.declared.ControlMode.{ControlMode}
use Rattle.batches.specs.Placed.{placed_batch, shown_batch}
use Rattle.batches.specs.Writer.{written_batch}
use Rattle.batches.specs.Promises.{Canonical}
use Rattle.batches.specs.Rewriting.{CanonicalStrict, CanonicalAgain}
use Rattle.batches.proofs.Complete.{complete}
use Rattle.batches.proofs.Only.{batch_written}
use Rattle.batches.proofs.Own.{rewritten, Own, own, own_tables_given}
use Rattle.batches.proofs.Again.{again}

-- what is written of the batch that canonical bytes show is these bytes
module _ (mode : ControlMode) (s : List ℕ) (bytes : Bytes s) (c : Canonical mode s) where
  canonical_own : Own mode s c.batch
  canonical_own = own mode s c.batch bytes c.judged

  canonical_written : rewritten s c.batch ≡ s
  canonical_written = given_same (sym (own_tables_given canonical_own) ∙ c.rewritten)

  canonical_encodes : BatchBytes mode true s (shown_batch s c.batch)
  canonical_encodes = subst (λ (bs : List ℕ). BatchBytes mode true bs (shown_batch s c.batch)) canonical_written canonical_own.encodes

strict_canonical : (mode : ControlMode) (s : List ℕ) (b : Batch Record) → Bytes s → BatchBytes mode true s b → Canonical mode s
strict_canonical mode s b bytes g =
    let (judged, shows) = complete mode true s 0 0 (length s) s b (whole s) g in
    let o = own mode s (placed_batch 0 0 g) bytes judged in
    record {
      batch = placed_batch 0 0 g;
      judged = judged;
      whole = refl;
      rewritten = own_tables_given o ∙ ap given (ap (written_batch) shows ∙ sym (batch_written mode g));
    }

pub canonical_is_strict : (mode : ControlMode) (s : List ℕ) → Bytes s → Exactly (Canonical mode s) ((b : Batch Record) × BatchBytes mode true s b)
canonical_is_strict mode s bytes =
    (λ c. (shown_batch s c.batch, canonical_encodes mode s bytes c), λ (b, g). strict_canonical mode s b bytes g)

pub canonical_strict : CanonicalStrict
canonical_strict mode s r p =
    let (x, y) = canonical_is_strict mode s p.lent in
    (λ e. x (p.says.0 e), λ g. p.says.1 (y g))

-- ---- read and written again

pub canonical_again : CanonicalAgain
canonical_again mode s t o b kind headers consumed out w canonical p e h q =
    let bytes = canonical.lent in
    let c = canonical.says.0 refl in
    let x = again mode s t o b kind headers consumed bytes e p in
    let same : x.batch ≡ c.batch = same_accepted (sym x.judged ∙ c.judged) in
    let gives = x.gives ∙ ap given (ap (rewritten s) same ∙ canonical_written mode s bytes c) in
    let room = le-leb (0 + length s) (length out) (omega arith) in (
      single_written _ w.result (Ok (length s)) (q.by.answer ∙ ap (answer_due 0 out) gives ∙ rw room) refl,
      q.by.output ∙ ap (output_due 0 out) gives ∙ rw (room, zero-add),
    )

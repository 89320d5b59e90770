-- A batch is its fixed part, whose fields have the sizes of the table, and its body, which is all its records or the
-- marker. Assumes nothing.
use Prim.Native.Nat.{ℕ, ◌+◌}
use mathlib.Core.Path.{◌≡◌, ap, ◌∙◌}
use mathlib.Core.Bool.{Bool, false}
use mathlib.Core.List.{List, ◌++◌}
use native.Mathlib.Omega.{arith}
use lib.ListN.{length, length-append}
use Rattle.numbers.specs.Concat.{concat}
use Rattle.numbers.proofs.Integers.{unsigned_length, integer_length}
use Rattle.records.specs.Format.{Record}
use Rattle.records.proofs.Sizes.{total_sizes}
use Rattle.layout.specs.Table.{fixed_part, uncounted_fields, unchecked_fields}
use Rattle.layout.specs.Batch.{Content, control, records, Batch}
use Rattle.layout.specs.Format.{grammar_of, ContentBytes, Grammar, BatchBytesWith}
use Rattle.opening.specs.Judgement.{Accepted, way_of}
use Rattle.layout.specs.declared.ControlMode.{ControlMode}
use Rattle.batches.specs.Placed.{shown_content}
use Rattle.batches.specs.Statements.{SizesOf, Sizes}
use Rattle.batches.proofs.Passed.{passed}
use Rattle.batches.proofs.Sound.{sound}

pub body_rest : {grammar : Grammar} {strict : Bool} {bs : List ℕ} {b : Batch Record} (g : BatchBytesWith grammar strict bs b) → length bs ≡ fixed_part + length g.body
unfolding concat
body_rest g =
    ap length (
    g.is
    ∙ ap (λ (x : List ℕ). concat (uncounted_fields g.part) ++ x)
    (g.counted_is ∙ ap (λ (x : List ℕ). concat (unchecked_fields g.part) ++ x) g.checked_is)
    )
    ∙ simp length-append (omega (
      arith,
      integer_length g.base_offset,
      integer_length g.batch_length,
      integer_length g.partition_leader_epoch,
      integer_length g.magic,
      unsigned_length g.crc,
      unsigned_length g.attributes,
      integer_length g.last_offset_delta,
      integer_length g.first_timestamp,
      integer_length g.max_timestamp,
      integer_length g.producer_id,
      integer_length g.producer_epoch,
      integer_length g.base_sequence,
      integer_length g.numbered,
    ))

body_sizes : (mode : ControlMode) (strict : Bool) (bs : List ℕ) (c : Content Record) (g : ContentBytes (grammar_of mode) strict bs c) (n : ℕ) → n ≡ 49 + length bs
    → SizesOf mode strict bs c g n
body_sizes mode strict bs (control m) g n e = e
body_sizes mode strict bs (records rs) g n e = e ∙ ap (λ (k : ℕ). 49 + k) (total_sizes g)

pub sizes : Sizes
sizes mode s at first b bytes j =
    let p = passed (way_of mode) s at first b j in
    let (e, w) = sound mode s at first b bytes j in
    let consumed : b.consumed ≡ 12 + p.size = ap (λ (x : Accepted). x.consumed) p.is in
    let g = e.encodes in (
      e,
      p.size,
      p.batch_length,
      consumed,
      body_sizes mode false g.body (shown_content s b.content) g.holds p.size (omega (arith, consumed, e.stands.end, body_rest g)),
    )

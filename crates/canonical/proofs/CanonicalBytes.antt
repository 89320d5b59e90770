-- Where records stand strictly, the bytes are those that are written for them. Assumes nothing.
use mathlib.Core.Path.{refl, ap, ◌∙◌}
use mathlib.Core.List.{◌++◌, append-nil}
use lib.Seq.{drop-length}
use Rattle.records.proofs.Written.{run_written}
use Rattle.canonical.specs.Statements.{CanonicalWritten}

pub canonical_written : CanonicalWritten
canonical_written s at count e =
    let (rs, standing, count_is) = e.0 refl in (
      rs,
      count_is,
      standing.stands.split ∙ ap (λ l. standing.bytes ++ l) (drop-length s) ∙ append-nil standing.bytes
          ∙ run_written standing.bytes rs standing.encodes,
    )

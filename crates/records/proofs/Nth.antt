-- Records, and the headers of a record, are read one after the other. Assumes nothing.
use mathlib.Core.Path.{ap, ◌∙◌}
use lib.ListN.{take}
use Rattle.primitives.proofs.Steps.{times_nth}
use Rattle.records.specs.Judgement.{header_at, record_at, run_at}
use Rattle.records.specs.Rows.{record_rows}
use Rattle.records.specs.Statements.{RecordsNth, HeadersNth}
use Rattle.records.proofs.RunOn.{first_rows_run_on}

pub records_nth : RecordsNth
unfolding run_at
records_nth s count p rs q n first e h =
    let (at, r, next, after, before, reads, split) = times_nth (record_at s) count p n e h in
    (at, r, next, after, before, reads, split, ap (record_rows first) split ∙ first_rows_run_on first (take n rs) r after)

pub headers_nth : HeadersNth
headers_nth s count p hs q n e h = times_nth (header_at s) count p n e h

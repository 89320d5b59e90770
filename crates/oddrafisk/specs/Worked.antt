-- The sixteen entries of the worked batches (crates/examples), by the definitions of this crate. What proves each
-- stands in proofs/ under the statement's name in small letters: `worked_entries : WorkedEntries`.
use Rattle.std.specs.Prelude.{ℕ, ◌≡◌, List, map, ℤ, pos, length, get_or}
use Rattle.std.proofs.Math.Option.{Option, some}
use Rattle.examples.specs.Examples.{Holds, an_abort, a_commit, the_records, Example, record_examples, examples}
use Rattle.records.specs.Format.{Record}
use Rattle.records.specs.Worked.{example_records, example_headers}
use Rattle.layout.specs.Batch.{abort, commit}
use Rattle.layout.specs.Worked.{example_fields, example_content}
use Rattle.batches.specs.Answers.{kind_of, Answer, accepts}
use Rattle.batches.specs.Writer.{Wanted, marker, rows}
use Rattle.oddrafisk.specs.Entries.{kind_entry, entries_of, kind_wanted, AskedBatch, entries_asked}
use Rattle.oddrafisk.specs.Promises.{time_for}

-- ---- the example's words in ours

abbrev pub example_answer : Example → Answer
example_answer e =
    accepts (example_fields e) (kind_of (example_content e.holds)) (length (example_records e.holds)) (example_headers e) (length e.bytes)

abbrev pub example_wanted : Holds → Wanted
example_wanted an_abort = marker abort
example_wanted a_commit = marker commit
example_wanted (the_records rs) = rows (length rs)

abbrev example_asked : Example → Option AskedBatch
example_asked e = some (record { fields = example_fields e; wanted = example_wanted e.holds })

-- ---- entries

-- Each worked batch of records is answered by the entries that are given with it, and they ask for it.
abbrev pub WorkedEntries : Type 0
WorkedEntries =
    (map (λ (e : Example). entries_of (example_answer e)) record_examples ≡ map (λ (e : Example). e.entries) record_examples)
    × (map (λ (e : Example). entries_asked e.entries) record_examples ≡ map example_asked record_examples)

-- ---- kinds

abbrev kind_in : Example → ℤ
kind_in e = get_or e.entries 10 (pos 0)

-- Each kind has its number, and its number asks for it.
abbrev pub WorkedKinds : Type 0
WorkedKinds =
    (map (λ (e : Example). kind_entry (kind_of (example_content e.holds))) examples ≡ map kind_in examples)
    × (map (λ (e : Example). kind_wanted (kind_in e) (get_or e.entries 11 (pos 0))) examples
    ≡ map (λ (e : Example). some (example_wanted e.holds)) examples)

-- ---- times

abbrev times_for : Example → List (Option ℤ)
times_for e =
    let entry : ℕ → ℤ = λ k. get_or e.entries k (pos 0) in
    map (λ (r : Record). time_for (entry 8) (entry 3) (entry 4) r.timestamp_delta) (example_records e.holds)

-- By the entries of each worked batch its records have the times that are given with it.
abbrev pub WorkedTimes : Type 0
WorkedTimes = map times_for examples ≡ map (λ (e : Example). e.times) examples

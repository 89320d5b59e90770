-- The worked batches (crates/examples) from end to end: what is read in their bytes, filled in, told, and written
-- again; and those of keyed mode (Keyed.antt). Each layer has the same of its own definitions in its own Worked.antt.
-- What proves each stands in proofs/ under the statement's name in small letters, with `_lem` after it where a
-- definition has that name: `read_right : ReadRight`, `read_keyed_lem : ReadKeyed`.
use Rattle.std.specs.Prelude.{ℕ, zero, suc, ◌+◌, ◌-◌, ◌≡◌, false, List, [], ◌∷◌, ◌++◌, map, ℤ, pos, length, replicate}
use Rattle.std.proofs.Math.Option.{Option}
use Rattle.examples.specs.Examples.{Example, headed_examples, record_examples, marker_examples, Refusal, refusals, RowRefusal, row_refusals}
use Rattle.records.specs.Judgement.{RecordSpans}
use Rattle.records.specs.Rows.{Tables, tables}
use Rattle.records.specs.Statements.{Each}
use Rattle.records.specs.Worked.{example_records, example_headers}
use Rattle.layout.specs.declared.ControlMode.{ControlMode}
use Rattle.layout.specs.Batch.{Fields, Content, control, records}
use Rattle.layout.specs.Format.{Grammar, bare_grammar, grammar_of, BatchBytesWith}
use Rattle.layout.specs.Time.{record_time}
use Rattle.layout.specs.Worked.{example_fields, example_batch}
use Rattle.writing.specs.Answers.{Given, given, refused}
use Rattle.opening.specs.Judgement.{more, refused as judgedWrong, accepted, Judgement, judge_with, bare_marker_at, judge}
use Rattle.batches.specs.Answers.{Answer, wants, refuses, lacks_room, rooms_of, answer_of, tables_of}
use Rattle.batches.specs.Writer.{rows, batch_given}
use Rattle.converting.specs.Conversion.{conversion_of}
use Rattle.listing.specs.Worked.{line_of, WorkedLines, WorkedLongest}
use Rattle.oddrafisk.specs.Entries.{entries_of}
use Rattle.oddrafisk.specs.Promises.{entries_given}
use Rattle.oddrafisk.specs.Worked.{example_answer, example_wanted}
use Rattle.worked.specs.Keyed.{keyed_examples, Stored, conversions}

-- ---- reading

-- tables of just the rows that are filled and a remainder, with other numbers in them
abbrev lent_for : Example → Tables
lent_for e = tables (replicate (length e.record_rows + 3) (pos 7)) (replicate (length e.header_rows + 2) (pos 9))

abbrev filled_for : Example → Tables
filled_for e = tables (e.record_rows ++ replicate 3 (pos 7)) (e.header_rows ++ replicate 2 (pos 9))

-- the times of what was read
abbrev content_times : Fields → Content RecordSpans → List (Option ℤ)
content_times x (control m) = []
content_times x (records rs) = map (λ (r : RecordSpans). record_time x r.timestamp_delta) rs

abbrev times_in : Judgement → List (Option ℤ)
times_in (more n) = []
times_in (judgedWrong n) = []
times_in (accepted b) = content_times b.fields b.content

-- the answer, the tables at exit, the entries for other languages, and the times
pub record Outcome : Type 0 where
  pub answer : Answer
  pub tables : Tables
  pub entries : List ℤ
  pub times : List (Option ℤ)

abbrev read_by : Judgement → Tables → Outcome
read_by j t =
    record {
      answer = answer_of j (rooms_of t);
      tables = tables_of j t;
      entries = entries_of (answer_of j (rooms_of t));
      times = times_in j;
    }

abbrev read_with : ControlMode → List ℕ → Tables → Outcome
read_with mode s t = read_by (judge mode s) t

abbrev due_for : Example → Outcome
due_for e = record { answer = example_answer e; tables = filled_for e; entries = e.entries; times = e.times }

abbrev ReadAs : ControlMode → List Example → Type 0
ReadAs mode es = map (λ (e : Example). read_with mode e.bytes (lent_for e)) es ≡ map due_for es

-- Each worked batch of records is read as what is given with it.
abbrev pub ReadRight : Type 0
ReadRight = ReadAs ControlMode.Bare record_examples

-- So was, by the old rules, each control batch whose marker stands alone.
abbrev pub ReadFormer : Type 0
ReadFormer =
    map (λ (e : Example). read_by (judge_with bare_marker_at e.bytes 0 0) (lent_for e)) marker_examples ≡ map due_for marker_examples

-- So is each of keyed mode.
abbrev pub ReadKeyed : Type 0
ReadKeyed = ReadAs ControlMode.Keyed keyed_examples

-- tables with some numbers in them
abbrev lent_anyway : Tables
lent_anyway = tables (replicate 11 (pos 7)) (replicate 6 (pos 9))

abbrev refusal_answer : (number needed : ℕ) → Answer
refusal_answer number zero = refuses number
refusal_answer number (suc k) = wants (suc k)

abbrev due_refusal : Refusal → Outcome
due_refusal e =
    record {
      answer = refusal_answer e.number e.needed;
      tables = lent_anyway;
      entries = replicate 13 (pos 0) ++ (pos e.needed ∷ pos 0 ∷ pos 0 ∷ []);
      times = [];
    }

-- What is no batch is refused by the number that is given with it, and both tables are as they were.
abbrev pub ReadRefused : Type 0
ReadRefused = map (λ (e : Refusal). read_with ControlMode.Bare e.bytes lent_anyway) refusals ≡ map due_refusal refusals

abbrev refused_by : ℕ → Example → Outcome
refused_by number e = due_refusal (record { bytes = e.bytes; count = 0; number = number; needed = 0 })

-- In bare mode no control batch is read: a record's bytes are an unknown marker.
abbrev pub ReadApart : Type 0
ReadApart = map (λ (e : Example). read_with ControlMode.Bare e.bytes lent_anyway) keyed_examples ≡ map (refused_by 12) keyed_examples

abbrev WithdrawnIn : ControlMode → Type 0
WithdrawnIn mode = map (λ (e : Example). read_with mode e.bytes lent_anyway) marker_examples ≡ map (refused_by 41) marker_examples

-- A marker that stands alone is refused by 41 in either mode.
abbrev pub ReadWithdrawn : Type 0
ReadWithdrawn = WithdrawnIn ControlMode.Bare × WithdrawnIn ControlMode.Keyed

-- one number fewer than the rows need
abbrev records_short : Example → Tables
records_short e = tables (replicate (length e.record_rows - 1) (pos 7)) (replicate (length e.header_rows) (pos 9))

abbrev headers_short : Example → Tables
headers_short e = tables (replicate (length e.record_rows) (pos 7)) (replicate (length e.header_rows - 1) (pos 9))

abbrev short_of : (Example → Tables) → Example → Outcome
short_of lent e =
    let a : Answer = lacks_room (length (example_records e.holds)) (example_headers e) in
    record { answer = a; tables = lent e; entries = entries_of a; times = e.times }

-- Where either table is a number short of the rows, the answer is 14 with both counts.
abbrev pub ReadShort : Type 0
ReadShort =
    (map (λ (e : Example). read_with ControlMode.Bare e.bytes (records_short e)) headed_examples ≡ map (short_of records_short) headed_examples)
    × (map (λ (e : Example). read_with ControlMode.Bare e.bytes (headers_short e)) headed_examples ≡ map (short_of headers_short) headed_examples)

-- ---- writing

abbrev WrittenAs : ControlMode → List Example → Type 0
WrittenAs mode es =
    (map (λ (e : Example). batch_given mode (example_fields e) 0 (example_wanted e.holds) (filled_for e) e.bytes) es
    ≡ map (λ (e : Example). given e.written) es)
    × (map (λ (e : Example). entries_given mode e.entries (pos 0) (filled_for e) e.bytes) es
    ≡ map (λ (e : Example). given e.written) es)

-- What is read of each worked batch of records asks for the bytes that are given with it, and so do its entries.
abbrev pub WrittenRight : Type 0
WrittenRight = WrittenAs ControlMode.Bare record_examples

-- So it is of each of keyed mode.
abbrev pub WrittenKeyed : Type 0
WrittenKeyed = WrittenAs ControlMode.Keyed keyed_examples

-- A marker is refused by 41 in bare mode, and so are its entries.
abbrev pub WrittenWithdrawn : Type 0
WrittenWithdrawn =
    (map (λ (e : Example). batch_given ControlMode.Bare (example_fields e) 0 (example_wanted e.holds) (filled_for e) e.bytes) marker_examples
    ≡ map (λ (e : Example). refused 41) marker_examples)
    × (map (λ (e : Example). entries_given ControlMode.Bare e.entries (pos 0) (filled_for e) e.bytes) marker_examples
    ≡ map (λ (e : Example). refused 41) marker_examples)

abbrev asked_for : Fields → ℕ → RowRefusal → Given
asked_for x codec e = batch_given ControlMode.Bare x codec (rows e.count) (tables e.record_rows e.header_rows) e.source

-- Whatever the fields, wrong rows are refused by the number that is given with them, and by 20 where the codec is 1.
abbrev pub WrittenRefused : Type 0
WrittenRefused =
    (x : Fields) → (map (asked_for x 0) row_refusals ≡ map (λ (e : RowRefusal). refused e.number) row_refusals)
    × (map (asked_for x 1) row_refusals ≡ map (λ (e : RowRefusal). refused 20) row_refusals)

-- ---- the format

abbrev pub EncodedAs : Grammar → List Example → Type 0
EncodedAs grammar es = Each (λ (e : Example). BatchBytesWith grammar false e.bytes (example_batch e)) es

-- By the format alone the bytes of each worked batch of records are an encoding of what is given with it.
abbrev pub Encoded : Type 0
Encoded = EncodedAs (grammar_of ControlMode.Bare) record_examples

-- So are, in the form that is withdrawn, those of each control batch whose marker stands alone.
abbrev pub EncodedFormer : Type 0
EncodedFormer = EncodedAs bare_grammar marker_examples

-- So are those of each of keyed mode.
abbrev pub EncodedKeyed : Type 0
EncodedKeyed = EncodedAs (grammar_of ControlMode.Keyed) keyed_examples

-- ---- the conversion

-- What is stored is converted, all of it, to what is given with it.
abbrev pub ConvertedRight : Type 0
ConvertedRight =
    map (λ (e : Stored). conversion_of e.bytes) conversions
    ≡ map (λ (e : Stored). accepted (record { taken = length e.bytes; given = e.converted })) conversions

-- ---- lines

-- The line of each worked control batch is the one that is given with it.
abbrev pub KeyedLines : Type 0
KeyedLines = map line_of keyed_examples ≡ map (λ (e : Example). e.line) keyed_examples

-- ---- all of it

pub record Worked : Type 0 where
  pub read : ReadRight
  pub read_keyed : ReadKeyed
  pub read_former : ReadFormer
  pub read_refused : ReadRefused
  pub read_apart : ReadApart
  pub read_withdrawn : ReadWithdrawn
  pub read_short : ReadShort
  pub written : WrittenRight
  pub written_keyed : WrittenKeyed
  pub written_withdrawn : WrittenWithdrawn
  pub written_refused : WrittenRefused
  pub encoded : Encoded
  pub encoded_former : EncodedFormer
  pub encoded_keyed : EncodedKeyed
  pub converted : ConvertedRight
  pub lines : WorkedLines
  pub keyed_lines : KeyedLines
  pub longest : WorkedLongest

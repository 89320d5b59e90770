-- The laws of the writer and of the canonical check, each in words and then as a statement. What proves each stands in
-- proofs/ under the statement's name in small letters: `written : Written`. That what is written reads back stands with
-- demand 3's statements, in Demand3.antt.
use Rattle.std.specs.Prelude.{Result, Ok, Err, ℕ, ◌+◌, ◌<◌, ◌≤◌, ◌≡◌, Bool, true, ◌⊎◌, List, ◌++◌, length, take, drop}
use Rattle.numbers.specs.Exactly.{Exactly}
use Rattle.primitives.specs.Step.{ok}
use Rattle.records.specs.Format.{Record}
use Rattle.records.specs.Judgement.{RecordSpans}
use Rattle.records.specs.Rows.{Tables}
use Rattle.asking.specs.declared.WriteFault.{WriteFault}
use Rattle.asking.specs.Asked.{RowPlace}
use Rattle.asking.specs.RowFaults.{AskedWrong}
use Rattle.asking.specs.declared.WriteFault.{WriteFault}
use Rattle.writing.specs.Answers.{Answer, view_written}
use Rattle.writing.specs.Promises.{WriteOutcome}
use Rattle.layout.specs.declared.ControlMode.{ControlMode}
use Rattle.layout.specs.Table.{uncounted}
use Rattle.layout.specs.Batch.{Fields, Marker, Content, Batch}
use Rattle.layout.specs.Format.{BatchBytes}
use Rattle.batches.specs.declared.RecordBatch.{RecordBatch}
use Rattle.batches.specs.declared.ControlBatchOrRecords.{ControlBatchOrRecords}
use Rattle.batches.specs.Placed.{shown_content}
use Rattle.batches.specs.Answers.{view_fields}
use Rattle.batches.specs.Request.{Request}
use Rattle.batches.specs.Writer.{batch_length_of, marker, rows, view_wanted, content_asked, most_length, batch_given}
use Rattle.batches.specs.Promises.{ReadOutcome, ReadPromise, MeasurePromise, WritePromise, CanonicalPromise}

-- ---- what is asked of the writer

abbrev pub Measures : Request → Result ℕ WriteFault → Type 0
Measures q r = MeasurePromise q.mode q.batch q.codec q.kind q.tables q.source r

abbrev pub Writes : Request → List ℕ → WriteOutcome → Type 0
Writes q out o = WritePromise q.mode q.batch q.codec q.kind q.tables q.source out o

-- what the rows ask for: a marker, or records whose spans lie in the source
pub record Asks (q : Request) (c : Content RecordSpans) : Type 0 where
  pub place : RowPlace
  pub is : content_asked q.mode (view_wanted q.kind) q.tables q.source ≡ ok c place

-- and the batch that these show
abbrev pub batch_asked : Request → Content RecordSpans → Batch Record
batch_asked q c = record { fields = view_fields q.batch; content = shown_content q.source c }

-- ---- the writer's numbers

module _ (q : Request) where
  -- codec 0, so many records, and the first of their rows that is wrong is wrong by a number
  abbrev pub RowsRefusedBy : ℕ → Type 0
  RowsRefusedBy n = (q.codec ≡ 0) × ((count : ℕ) × (view_wanted q.kind ≡ rows count) × AskedWrong q.tables q.source 0 count n)

  -- codec 0, and the rows ask for a batch of such a batchLength
  pub record AsksLength (n : ℕ) : Type 0 where
    pub codec_none : q.codec ≡ 0
    pub content : Content RecordSpans
    pub asked : Asks q content
    pub length_is : batch_length_of (batch_asked q content) ≡ n

  -- codec 0, and a marker in the form that is withdrawn
  abbrev pub AsksBareMarker : Type 0
  AsksBareMarker = (q.codec ≡ 0) × (q.mode ≡ ControlMode.Bare) × ((m : Marker) × (view_wanted q.kind ≡ marker m))

-- Document 01, Writer's numbers, and C-24's: each is given exactly where it says.
pub record WriteNumbersOf (q : Request) (out : List ℕ) (a : Answer) : Type 0 where
  -- codec not 0
  pub twenty : Exactly (a.number ≡ 20) (q.codec ≡ 0 → ⊥)
  -- a marker is asked for in bare mode
  pub forty_one : Exactly (a.number ≡ 41) (AsksBareMarker q)
  -- more records than rows, or a row's numbers
  pub twenty_one : Exactly (a.number ≡ 21) (RowsRefusedBy q 21)
  -- header key not UTF-8
  pub twenty_two : Exactly (a.number ≡ 22) (RowsRefusedBy q 22)
  -- batchLength would exceed 2147483647
  pub twenty_three : Exactly (a.number ≡ 23) ((n : ℕ) × AsksLength q n × (most_length < n))
  -- output shorter than 12 + batchLength
  pub twenty_four : Exactly (a.number ≡ 24) ((n : ℕ) × AsksLength q n × (n ≤ most_length) × (length out < uncounted + n))
  -- none of these: accepted, with the length, which is 12 + batchLength
  pub accepted : Exactly (a.number ≡ 0) ((n : ℕ) × AsksLength q n × (n ≤ most_length) × (uncounted + n ≤ length out))
  pub length_is : (n : ℕ) → AsksLength q n → a.number ≡ 0 → a.bytes ≡ uncounted + n
  -- no other number is given
  pub no_other : (a.number ≡ 0) ⊎ (((20 ≤ a.number) × (a.number ≤ 24)) ⊎ (a.number ≡ 41))

abbrev pub WriteNumbers : Type 0
WriteNumbers = (q : Request) (out : List ℕ) (o : WriteOutcome) → Writes q out o → WriteNumbersOf q out (view_written o.result)

-- ---- what is written

-- Where the writer accepts, the output begins with as many bytes as it says, and all else in it is as it was. They are
-- an encoding, by the strict grammar, of exactly the fields, the kind and the shown records that were asked for: every
-- number in its shortest bytes, attribute bits above 5 and record attributes 0.
pub record WrittenAs (q : Request) (out : List ℕ) (o : WriteOutcome) (n : ℕ) : Type 0 where
  pub bytes : List ℕ
  pub length_is : length bytes ≡ n
  pub output_is : o.output ≡ bytes ++ drop n out
  pub content : Content RecordSpans
  pub asked : Asks q content
  pub encodes : BatchBytes q.mode true bytes (batch_asked q content)

abbrev pub Written : Type 0
Written =
    (q : Request) (out : List ℕ) (o : WriteOutcome) (n : ℕ) → Writes q out o → o.result ≡ Ok n → WrittenAs q out o n

-- Document 01: a refusal changes none of the output, and returns length 0.
abbrev pub WriteUntouched : Type 0
WriteUntouched =
    (q : Request) (out : List ℕ) (o : WriteOutcome) → Writes q out o → ((view_written o.result).number ≡ 0 → ⊥)
    → (o.output ≡ out) × ((view_written o.result).bytes ≡ 0)

-- Writing is measuring and then 24: the answer is the measure's, unless that is a length that the output does not have.
abbrev pub WriteMeasures : Type 0
WriteMeasures =
    (q : Request) (out : List ℕ) (o : WriteOutcome) (r : Result ℕ WriteFault) → Writes q out o → Measures q r
    → (o.result ≡ r)
    ⊎ ((o.result ≡ Err WriteFault.ShortOutput) × ((n : ℕ) × (r ≡ Ok n) × (length out < n)))

-- Document 01: a marker ignores both tables. So it does the source.
abbrev pub MarkerAlone : Type 0
MarkerAlone =
    (mode : ControlMode) (x : Fields) (codec : ℕ) (m : Marker) (t t' : Tables) (s s' : List ℕ)
    → batch_given mode x codec (marker m) t s ≡ batch_given mode x codec (marker m) t' s'

-- ---- reading and writing again

-- Every batch that is accepted is accepted by the writer from its own rows, as they stand in the tables after reading,
-- with its own bytes as the source, in no more bytes than it had.
abbrev pub Rewritable : Type 0
Rewritable =
    (mode : ControlMode) (s : List ℕ) (t : Tables) (o : ReadOutcome) (b : RecordBatch) (kind : ControlBatchOrRecords) (headers consumed : ℕ)
    (r : Result ℕ WriteFault) → ReadPromise mode s t o → o.result ≡ Ok (record { batch = b; kind = kind; headers = headers; consumed = consumed })
    → Measures (record { mode = mode; batch = b; codec = 0; kind = kind; tables = o.tables; source = s }) r
    → (n : ℕ) × (r ≡ Ok n) × (n ≤ consumed)

-- The canonical check says yes exactly to the strict grammar's bytes.
abbrev pub CanonicalStrict : Type 0
CanonicalStrict =
    (mode : ControlMode) (s : List ℕ) (r : Bool) → CanonicalPromise mode s r → Exactly (r ≡ true) ((b : Batch Record) × BatchBytes mode true s b)

-- What the writer gives is canonical.
abbrev pub WrittenCanonical : Type 0
WrittenCanonical =
    (q : Request) (out : List ℕ) (o : WriteOutcome) (n : ℕ) (r : Bool) → Writes q out o
    → o.result ≡ Ok n → CanonicalPromise q.mode (take n o.output) r → r ≡ true

-- A canonical batch that is read and written again is itself.
abbrev pub CanonicalAgain : Type 0
CanonicalAgain =
    (mode : ControlMode) (s : List ℕ) (t : Tables) (o : ReadOutcome) (b : RecordBatch) (kind : ControlBatchOrRecords) (headers consumed : ℕ)
    (out : List ℕ) (w : WriteOutcome) → CanonicalPromise mode s true → ReadPromise mode s t o
    → o.result ≡ Ok (record { batch = b; kind = kind; headers = headers; consumed = consumed }) → length s ≤ length out
    → Writes (record { mode = mode; batch = b; codec = 0; kind = kind; tables = o.tables; source = s }) out w
    → (w.result ≡ Ok (length s)) × (w.output ≡ s ++ drop (length s) out)

-- ---- one batch, one writing

-- In one mode two different batches never give the same bytes.
abbrev pub WrittenApart : Type 0
WrittenApart =
    (q q' : Request) (out out' : List ℕ) (o o' : WriteOutcome) (n n' : ℕ) (c c' : Content RecordSpans) → q.mode ≡ q'.mode
    → Writes q out o → Writes q' out' o'
    → o.result ≡ Ok n → o'.result ≡ Ok n' → Asks q c → Asks q' c'
    → take n o.output ≡ take n' o'.output → batch_asked q c ≡ batch_asked q' c'

-- Of all encodings of a batch the writer's is the shortest, and it is the only one of the strict grammar.
abbrev pub WrittenShortest : Type 0
WrittenShortest =
    (mode : ControlMode) (strict : Bool) (bs bs' : List ℕ) (b : Batch Record) → BatchBytes mode true bs b → BatchBytes mode strict bs' b
    → length bs ≤ length bs'

abbrev pub WrittenOnly : Type 0
WrittenOnly = (mode : ControlMode) (bs bs' : List ℕ) (b : Batch Record) → BatchBytes mode true bs b → BatchBytes mode true bs' b → bs ≡ bs'

-- The library says what the layer below answers, and takes what it has said. Assumes nothing.
use Prim.Native.Nat.{ℕ}
use mathlib.Core.Path.{◌≡◌, refl, sym, ap, ◌∙◌, subst}
use mathlib.Core.Bool.{Bool, true, false, false≢true}
use mathlib.Core.Option.{some}
use mathlib.Core.List.{List}
use native.Mathlib.Omega.{arith}
use native.Mathlib.Decide.{ℕ_discrete}
use borrow.Author.Tests.{ne_eqb}
use lib.IntN.{ℤ, pos}
use Rattle.numbers.proofs.InBits.{test_in}
use Rattle.records.specs.Rows.{Tables}
use Rattle.writing.specs.Answers as Writing
use Rattle.writing.specs.Answers.{measured, answer_due, output_due}
use Rattle.layout.specs.declared.ControlMode.{ControlMode}
use Rattle.layout.specs.Batch.{TimestampType, create_time, log_append_time, abort, commit}
use Rattle.layout.specs.Time.{record_time}
use Rattle.batches.specs.declared.RecordBatch.{RecordBatch}
use Rattle.batches.specs.declared.ControlBatchOrRecords.{ControlBatchOrRecords}
use Rattle.batches.specs.Answers.{Kind, of_records, of_marker, Answer, view_fields}
use Rattle.batches.specs.Writer.{view_wanted, batch_given}
use Rattle.converting.specs.Answers as Converting
use Rattle.oddrafisk.specs.Entries.{mode_of, type_entry, flag_entry, kind_entry, is0or1, type_of, flag_of, kind_wanted, entries_asked}
use Rattle.oddrafisk.specs.Promises.{Tells, Says, entries_given, Sizes, timed, time_for}
use Rattle.oddrafisk.specs.Statements.{ConvertsAlike, ModeNumbers, ChecksAlike, ReadsAlike, Taken, MeasuresAlike, WritesAlike, CanonicalAlike, TimesAlike, asked_kind, EntriesTaken}
use Rattle.oddrafisk.proofs.Tests.{mode_keyed, mode_bare}
use Rattle.oddrafisk.proofs.Taken.{kind_given_lem}

pub checks_alike : ChecksAlike
checks_alike mode s r o e p = subst (λ (a : Answer). Says a o) (sym e.answer) p.said

pub reads_alike : ReadsAlike
reads_alike mode s t o o' e p = (subst (λ (a : Answer). Says a o'.said) (sym e.by.answer) p.said, p.tables ∙ sym e.by.tables)

-- ---- the mode

bare_not_keyed : ControlMode.Bare ≡ ControlMode.Keyed → ⊥
bare_not_keyed e = let z : ◌≡◌ {A = ℕ} 0 1 = cc in absurd (omega arith)

pub mode_numbers : ModeNumbers
mode_numbers n = (told, λ e. sym (mode_keyed n e))
  where
    told : mode_of n ≡ ControlMode.Keyed → n ≡ 1
    told e =
        elim (ℕ_discrete n 1) [
          | yes h ↦ h
          | no h ↦ absurd (bare_not_keyed (mode_bare n h ∙ e))
        ]

-- ---- the writer

-- what is given for entries that are taken is what is given for the batch
given_alike : (mode : ControlMode) (e : List ℤ) (b : RecordBatch) (codec : ℕ) (kind : ControlBatchOrRecords) (t : Tables) (s : List ℕ) → Taken e b kind
    → entries_given mode e (pos codec) t s ≡ batch_given mode (view_fields b) codec (view_wanted kind) t s
unfolding batch_given
given_alike mode e b codec kind t s taken =
    elim (ℕ_discrete codec 0) [
      | yes z ↦ rw z (kind_given_lem mode e t s taken)
      | no z ↦ rw (ne_eqb codec 0 z) refl
    ]

pub measures_alike : MeasuresAlike
measures_alike mode e b codec kind t s r o taken p q =
    subst (λ (a : Writing.Answer). Sizes a o) (ap measured (given_alike mode e b codec kind t s taken) ∙ sym p) q

pub writes_alike : WritesAlike
writes_alike mode e b codec kind t s out o o' taken p q =
    let same = given_alike mode e b codec kind t s taken in (
      subst (λ (a : Writing.Answer). Sizes a o'.said) (ap (answer_due 0 out) same ∙ sym p.by.answer) q.said,
      q.output ∙ ap (output_due 0 out) same ∙ sym p.by.output,
    )

-- ---- the canonical check

pub canonical_alike : CanonicalAlike
canonical_alike mode s true n e p = p.yes.1 (e.says.0 refl)
canonical_alike mode s false n e p = p.no.1 (λ is. false≢true (e.says.1 is))

-- ---- the conversion

pub converts_alike : ConvertsAlike
converts_alike s out o o' e p = (subst (λ (a : Converting.Answer). Tells a o'.said) (sym e.answer) p.said, p.output ∙ sym e.output)

-- ---- times

timed_alike : (t : TimestampType) (first max delta : ℤ)
    → time_for (type_entry t) first max delta ≡ record_time (timed t first max) delta
timed_alike create_time first max delta = refl
timed_alike log_append_time first max delta = refl

pub times_alike : TimesAlike
unfolding record_time
times_alike x delta = timed_alike x.timestamp_type x.first_timestamp x.max_timestamp delta

-- ---- entries

type_again : (t : TimestampType) → (is0or1 (type_entry t) ≡ true) × (type_of (type_entry t) ≡ t)
type_again create_time = (refl, refl)
type_again log_append_time = (refl, refl)

flag_again : (b : Bool) → (is0or1 (flag_entry b) ≡ true) × (flag_of (flag_entry b) ≡ b)
flag_again false = (refl, refl)
flag_again true = (refl, refl)

kind_again : (k : Kind) (n : ℕ) → kind_wanted (kind_entry k) (pos n) ≡ some (asked_kind k n)
kind_again of_records n = refl
kind_again (of_marker abort) n = refl
kind_again (of_marker commit) n = refl

pub entries_taken : EntriesTaken
unfolding entries_asked
entries_taken x k n m bytes w =
    rw (
      test_in 32 x.partition_leader_epoch w.partition_leader_epoch,
      test_in 32 x.last_offset_delta w.last_offset_delta,
      test_in 16 x.producer_epoch w.producer_epoch,
      test_in 32 x.base_sequence w.base_sequence,
      (type_again x.timestamp_type).0,
      (flag_again x.transactional).0,
      (type_again x.timestamp_type).1,
      (flag_again x.transactional).1,
      kind_again k n,
    ) refl

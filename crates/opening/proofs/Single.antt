-- Each promise admits a single answer: from what the answer says it can be made again. Assumes nothing.
use Prim.Native.Nat.{ℕ}
use mathlib.Core.Path.{◌≡◌, refl, ap}
use mathlib.Core.List.{List}
use lib.Dec.{eqb}
use Rattle.std.proofs.Common.{Result, Ok, Err}
use Rattle.primitives.specs.declared.Fault.{Fault}
use Rattle.primitives.specs.declared.Fault.TheVariants.{PastEnd, BeyondLimits, NegativeLength}
use Rattle.numbers.specs.Pick.{pick}
use Rattle.numbers.specs.Single.{Single}
use Rattle.numbers.proofs.Single.{single_value, single_view}
use Rattle.records.specs.declared.RecordFault.{RecordFault}
use Rattle.records.specs.declared.RecordFault.TheVariants.{Field, KeyNotUtf8, BytesLeft}
use Rattle.layout.proofs.Single.{fields, fields_again}
use Rattle.opening.specs.declared.BatchFault.{BatchFault}
use Rattle.opening.specs.declared.Opened.{Opened}
use Rattle.opening.specs.declared.OpenError.{OpenError}
use Rattle.opening.specs.Judgement.{Judged, more, refused, accepted}
use Rattle.opening.specs.Opened.{KnownAt}
use Rattle.opening.specs.Answers.{batch_number_of, view_judged, view_known_at}
use Rattle.opening.specs.Promises.{BatchNumberPromise, FromFaultPromise, FromRecordFaultPromise, FromBatchFaultPromise, OpenAtPromise}

pub single_batch_number : (f : BatchFault) → Single (BatchNumberPromise f)
single_batch_number f = single_value _

pub single_from_fault : (f : Fault) → Single (FromFaultPromise f)
single_from_fault f = single_value _

pub single_from_record_fault : (f : RecordFault) → Single (FromRecordFaultPromise f)
single_from_record_fault f = single_value _

pub single_from_batch_fault : (f : BatchFault) → Single (FromBatchFaultPromise f)
single_from_batch_fault f = single_value _

-- ---- a fault, made from its number

abbrev record_fault : ℕ → RecordFault
record_fault n =
    pick (eqb n 8) (Field PastEnd)
    (pick (eqb n 9) (Field BeyondLimits)
    (pick (eqb n 10) (Field NegativeLength)
    (pick (eqb n 11) KeyNotUtf8 BytesLeft)))

abbrev fault : ℕ → BatchFault
fault n =
    pick (eqb n 2) BatchFault.LengthTooSmall
    (pick (eqb n 3) BatchFault.UnknownMagic
    (pick (eqb n 4) BatchFault.ChecksumDiffers
    (pick (eqb n 5) BatchFault.UnknownCodec
    (pick (eqb n 6) BatchFault.Compressed
    (pick (eqb n 7) BatchFault.WrongCount
    (pick (eqb n 12) BatchFault.UnknownControl
    (pick (eqb n 41) BatchFault.BareMarker (BatchFault.Body (record_fault n)))))))))

-- the refusal with that number, or what is answered by 1 or by 14
abbrev pub refusal : {R : Type 0} → R → R → (BatchFault → R) → ℕ → R
refusal lacking short by n = pick (eqb n 1) lacking (pick (eqb n 14) short (by (fault n)))

pub refusal_again : {R : Type 0} (lacking short : R) (by : BatchFault → R) (f : BatchFault)
    → refusal lacking short by (batch_number_of f) ≡ by f
refusal_again lacking short by BatchFault.LengthTooSmall = refl
refusal_again lacking short by BatchFault.UnknownMagic = refl
refusal_again lacking short by BatchFault.ChecksumDiffers = refl
refusal_again lacking short by BatchFault.UnknownCodec = refl
refusal_again lacking short by BatchFault.Compressed = refl
refusal_again lacking short by BatchFault.WrongCount = refl
refusal_again lacking short by BatchFault.UnknownControl = refl
refusal_again lacking short by BatchFault.BareMarker = refl
refusal_again lacking short by (BatchFault.Body (Field PastEnd)) = refl
refusal_again lacking short by (BatchFault.Body (Field BeyondLimits)) = refl
refusal_again lacking short by (BatchFault.Body (Field NegativeLength)) = refl
refusal_again lacking short by (BatchFault.Body KeyNotUtf8) = refl
refusal_again lacking short by (BatchFault.Body BytesLeft) = refl

-- ---- what is known, made from what is said

abbrev fault_in : ℕ → OpenError
fault_in n = refusal (OpenError.MoreBytes 0) (OpenError.MoreBytes 0) OpenError.Refused n

module _ {A B : Type 0} (value : A → B) (of : B → A) (again : (a : A) → of (value a) ≡ a) where
  abbrev back : Judged B → Result A OpenError
  back (more n) = Err (OpenError.MoreBytes n)
  back (refused n) = Err (fault_in n)
  back (accepted b) = Ok (of b)

  view_back : (r : Result A OpenError) → back (view_judged value r) ≡ r
  view_back (Ok a) = ap Ok (again a)
  view_back (Err (OpenError.MoreBytes n)) = refl
  view_back (Err (OpenError.Refused f)) = ap Err (refusal_again _ _ OpenError.Refused f)

  pub single_judged_by : (x : Judged B) → Single (λ r. view_judged value r ≡ x)
  single_judged_by = single_view (view_judged value) back view_back

abbrev opened : KnownAt → Opened
opened o =
    record {
      fields = fields o.known.fields;
      is_control = o.known.control;
      count = o.known.count;
      next = record { at = o.next };
      total = o.total;
    }

opened_again : (x : Opened) → opened (view_known_at x) ≡ x
opened_again x =
    λ i. record { fields = fields_again x.fields i; is_control = x.is_control; count = x.count; next = x.next; total = x.total }

pub single_open_at : (s : List ℕ) (at : ℕ) → Single (OpenAtPromise s at)
single_open_at s at = single_judged_by view_known_at opened opened_again _

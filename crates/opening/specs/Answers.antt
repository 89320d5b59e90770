-- What each public answer says, case by case: document 01's number, or what is known.
use Rattle.std.specs.Prelude.{ℕ, Result, Ok, Err}
use Rattle.primitives.specs.Step.{Step, ok, no}
use Rattle.records.specs.Answers.{record_number_of}
use Rattle.layout.specs.Fixed.{view_batch_fields}
use Rattle.opening.specs.declared.BatchFault.{BatchFault}
use Rattle.opening.specs.declared.Opened.{Opened}
use Rattle.opening.specs.declared.OpenError.{OpenError}
use Rattle.opening.specs.Judgement.{Judged, more, refused, accepted}
use Rattle.opening.specs.Opened.{KnownAt}

-- document 01, Reader's numbers, and C-24's 41
abbrev pub batch_number_of : BatchFault → ℕ
batch_number_of BatchFault.LengthTooSmall = 2
batch_number_of BatchFault.UnknownMagic = 3
batch_number_of BatchFault.ChecksumDiffers = 4
batch_number_of BatchFault.UnknownCodec = 5
batch_number_of BatchFault.Compressed = 6
batch_number_of BatchFault.WrongCount = 7
batch_number_of BatchFault.UnknownControl = 12
batch_number_of BatchFault.BareMarker = 41
batch_number_of (BatchFault.Body f) = record_number_of f

-- what is read of a batch's front, by what its value says; or how many bytes are needed, or the number of the fault
abbrev pub view_judged : {A B : Type 0} → (A → B) → Result A OpenError → Judged B
view_judged value (Ok x) = accepted (value x)
view_judged value (Err (OpenError.MoreBytes n)) = more n
view_judged value (Err (OpenError.Refused f)) = refused (batch_number_of f)

-- what is made of a value that ends at a place
abbrev pub view_made : {A B : Type 0} → (A → B) → ℕ → Result A BatchFault → Step ℕ B
view_made value p (Ok x) = ok (value x) p
view_made value p (Err f) = no (batch_number_of f)

abbrev pub view_known_at : Opened → KnownAt
view_known_at x =
    record {
      known = record { fields = view_batch_fields x.fields; control = x.is_control; count = x.count };
      next = x.next.at;
      total = x.total;
    }

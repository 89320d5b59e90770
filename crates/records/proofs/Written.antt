-- By the strict grammar every part is forced: a number is its shortest bytes, and the attributes are 0. Assumes
-- nothing.
use Prim.Native.Nat.{ℕ}
use mathlib.Core.Path.{◌≡◌, refl, sym, ap, ◌∙◌}
use mathlib.Core.Bool.{true}
use mathlib.Core.Option.{Option, none, some}
use mathlib.Core.List.{List, [], ◌∷◌, ◌++◌}
use lib.IntN.{ℤ, pos}
use Rattle.numbers.specs.Format.{big_endian, complement, Integer, Sized, Nullable}
use Rattle.records.specs.Format.{Header, Record, Run, HeaderBytes, FieldsBytes}
use Rattle.records.specs.Written.{written_bytes, written_nullable, written_header, written_headers, written_fields, written_record, written_records}
use Rattle.records.specs.Statements.{RecordWritten, RunWritten}

-- where each thing of a run has one encoding, the run has one
module _ {A : Type 0} {G : List ℕ → A → Type 0}
    (write : A → List ℕ) (each : (x : List ℕ) (a : A) → G x a → x ≡ write a)
    (write_all : List A → List ℕ) (none_left : write_all [] ≡ [])
    (one_more : (a : A) (rest : List A) → write_all (a ∷ rest) ≡ write a ++ write_all rest) where
  all_written : {bs : List ℕ} {run : List A} → Run G bs run → bs ≡ write_all run
  all_written Run.ended = sym none_left
  all_written (Run.more {x} {y} {a} {rest} g others) = rw (each x a g, all_written others) (sym (one_more a rest))

sized_written : (bs v : List ℕ) → Sized true bs v → bs ≡ written_bytes v
unfolding written_bytes
sized_written bs v g = g.is ∙ ap (λ (size : List ℕ). size ++ v) g.sizes.tight

nullable_written : (bs : List ℕ) (v : Option (List ℕ)) → Nullable true true bs v → bs ≡ written_nullable v
nullable_written bs none g = g.1.tight
nullable_written bs (some v) g = sized_written bs v g

pub attributes_written : (bs : List ℕ) (a : ℤ) → Integer 1 bs a → a ≡ pos 0 → bs ≡ 0 ∷ []
unfolding big_endian
attributes_written bs a g e = g.is ∙ ap (λ (z : ℤ). big_endian 1 (complement 8 z)) e

header_written : (bs : List ℕ) (h : Header) → HeaderBytes true bs h → bs ≡ written_header h
header_written bs h g =
    g.is ∙ rw (sized_written g.key h.key g.keyed, sized_written g.value h.value g.valued)

headers_written : (bs : List ℕ) (hs : List Header) → Run (HeaderBytes true) bs hs → bs ≡ written_headers hs
unfolding written_headers
headers_written bs hs g = all_written written_header header_written written_headers refl (λ h rest. refl) g

pub fields_written : (bs : List ℕ) (r : Record) → FieldsBytes true bs r → bs ≡ written_fields r
unfolding written_fields
fields_written bs r g =
    g.is
    ∙ rw (
      attributes_written g.attributes g.attribute g.attributed g.unused,
      g.timestamped.tight,
      g.offset.tight,
      nullable_written g.key r.key g.keyed,
      nullable_written g.value r.value g.valued,
      g.counted.tight,
      headers_written g.headers r.headers g.headed,
    )

pub record_written : RecordWritten
record_written bs r g = sized_written bs g.fields g.sized ∙ ap written_bytes (fields_written g.fields r g.holds)

pub run_written : RunWritten
unfolding written_records
run_written bs rs g = all_written written_record record_written written_records refl (λ r rest. refl) g

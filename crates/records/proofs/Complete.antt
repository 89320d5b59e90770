-- An encoding that stands at any place of any list is read, up to its end, with the spans of its parts: each part is
-- read where it stands, and a record's own window holds its fields. Assumes nothing.
use Prim.Native.Nat.{ℕ, ◌+◌}
use mathlib.Core.Path.{◌≡◌, refl, sym, ap, ◌∙◌}
use mathlib.Core.Bool.{Bool, true, false}
use mathlib.Core.Option.{Option, none, some}
use mathlib.Core.List.{List, []}
use native.Mathlib.Omega.{arith}
use native.Mathlib.Nat.{add-zero}
use borrow.Author.Tests.{le-ltb, eq-eqb}
use lib.IntN.{pos}
use lib.ListN.{length}
use Rattle.numbers.specs.Format.{Varies, Sized, Nullable}
use Rattle.primitives.specs.Step.{Step, ok, times}
use Rattle.primitives.specs.Stands.{Stands}
use Rattle.primitives.specs.Reading.{span_at}
use Rattle.primitives.proofs.Steps.{ok_not_no}
use Rattle.primitives.proofs.Places.{first, second}
use Rattle.primitives.proofs.Integers.{integer_complete}
use Rattle.primitives.proofs.Varints.{varint_complete}
use Rattle.primitives.proofs.Spans.{length_reads, span_complete}
use Rattle.primitives.proofs.Windows.{inside}
use Rattle.utf8.specs.Grammar.{Octets}
use Rattle.utf8.proofs.Sequences.{utf8_complete}
use Rattle.records.specs.Format.{Header, Record, Run, HeaderBytes, FieldsBytes, RecordBytes}
use Rattle.records.specs.Judgement.{count_at, bytes_at, key_at, header_at, deltas_at, Head, head_at, fields_at, record_at, run_at, records_at}
use Rattle.records.specs.Placed.{placed_bytes, placed_nullable, placed_header, placed_run, key_place, value_place, headers_place, placed_fields, placed_record}
use Rattle.records.specs.Statements.{HeaderComplete, RecordComplete, RunComplete, RecordsComplete, RefusedIsNone}
use Rattle.records.proofs.Parts.{starts, size_stands, sized_stands, key_stands, value_stands, fields_stand}
use Rattle.records.proofs.Shows.{bytes_shows, header_shows, record_shows, records_shows}

-- ---- counts and bytes

pub count_reads : {strict : Bool} {s : List ℕ} {p q : ℕ} {bs : List ℕ} {n : ℕ} → Stands s p q bs → Varies 32 strict bs (pos n) → count_at s p ≡ ok n q
unfolding count_at
count_reads x g = rw (length_reads false x g)

-- bytes that end at q start just after their length
span_reads : (nullable : Bool) {strict : Bool} {s : List ℕ} {p q : ℕ} {bs v : List ℕ} → Stands s p q bs → (g : Sized strict bs v)
    → span_at nullable s p ≡ ok (some (placed_bytes v p g)) q
span_reads nullable {strict} {s} {p} {q} {bs} {v} x g =
    rw ((span_complete nullable strict s p q bs (some v) x g).0, starts x g)

nullable_reads : (strict : Bool) {s : List ℕ} {p q : ℕ} {bs : List ℕ} (v : Option (List ℕ)) → Stands s p q bs → (g : Nullable true strict bs v)
    → span_at true s p ≡ ok (placed_nullable strict bs v p g) q
nullable_reads strict {s} {p} {q} {bs} none x g = (span_complete true strict s p q bs none x g).0
nullable_reads strict (some v) x g = span_reads true x g

pub bytes_reads : {strict : Bool} {s : List ℕ} {p q : ℕ} {bs v : List ℕ} → Stands s p q bs → (g : Sized strict bs v)
    → bytes_at s p ≡ ok (placed_bytes v p g) q
unfolding bytes_at
bytes_reads x g = rw (span_reads false x g)

-- ---- things one after the other, as many as there are

module _ {A R : Type 0} {G : List ℕ → A → Type 0} (place : (x : List ℕ) (a : A) → ℕ → G x a → R) (f : ℕ → Step ℕ R) {s : List ℕ}
    (each : (p q : ℕ) (x : List ℕ) (a : A) → Stands s p q x → (g : G x a) → f p ≡ ok (place x a p g) q) where
  times_reads : {p q : ℕ} {bs : List ℕ} {run : List A} → Stands s p q bs → (g : Run G bs run)
      → times f (length run) p ≡ ok (placed_run place p g) q
  unfolding times placed_run
  times_reads {p} z Run.ended = ap (ok []) (sym (z.end ∙ add-zero p))
  times_reads {p} z (Run.more {x} {y} {a} g rest) = rw (each p (p + length x) x a (first x y z) g, times_reads {p = p + length x} (second x y z) rest)

-- ---- a header

pub key_reads : {strict : Bool} {s : List ℕ} {p q : ℕ} {bs v : List ℕ} → Stands s p q bs → (g : Sized strict bs v) → Octets v
    → key_at s p ≡ ok (placed_bytes v p g) q
unfolding key_at
key_reads {v = v} x g o = rw (bytes_reads x g, bytes_shows x g, utf8_complete v o)

header_reads : {strict : Bool} {s : List ℕ} {p q : ℕ} {bs : List ℕ} {h : Header} → Stands s p q bs → (g : HeaderBytes strict bs h)
    → header_at s p ≡ ok (placed_header p g) q
unfolding header_at
header_reads x g = rw (key_reads (key_stands x g) g.keyed g.utf8, bytes_reads (value_stands x g) g.valued)

pub header_complete : HeaderComplete
header_complete strict s p q bs h x g = (header_reads x g, header_shows x g)

-- ---- a record

abbrev placed_head : {strict : Bool} {bs : List ℕ} {r : Record} → ℕ → FieldsBytes strict bs r → Head
placed_head {strict} {r = r} p g =
    record {
      deltas = record { timestamp = r.timestamp_delta; offset = r.offset_delta };
      key = placed_nullable strict g.key r.key (key_place p g) g.keyed;
      value = placed_nullable strict g.value r.value (value_place p g) g.valued;
      count = length r.headers;
    }

module _ {strict : Bool} {s : List ℕ} {p q : ℕ} {bs : List ℕ} {r : Record} (x : Stands s p q bs) (g : FieldsBytes strict bs r) where
  deltas_reads : deltas_at s p ≡ ok (placed_head p g).deltas (key_place p g)
  unfolding deltas_at
  deltas_reads =
      let y = fields_stand x g in
      rw (
        integer_complete 1 s p _ g.attributes g.attribute (omega arith) y.attributes g.attributed,
        varint_complete 64 strict s _ _ g.timestamp_delta r.timestamp_delta (omega arith) y.timestamp_delta g.timestamped,
        varint_complete 32 strict s _ _ g.offset_delta r.offset_delta (omega arith) y.offset_delta g.offset,
      )

  head_reads : head_at s p ≡ ok (placed_head p g) (headers_place p g)
  unfolding head_at
  head_reads =
      let y = fields_stand x g in
      rw (
        deltas_reads,
        nullable_reads strict r.key y.key g.keyed,
        nullable_reads strict r.value y.value g.valued,
        count_reads y.count g.counted,
      )

  pub fields_reads : fields_at s p ≡ ok (placed_fields p g) q
  unfolding fields_at
  fields_reads =
      let y = fields_stand x g in
      rw (head_reads, times_reads (λ x h at e. placed_header at e) (header_at s) (λ p q x h. header_reads) y.headers g.headed)

record_reads : {strict : Bool} {s : List ℕ} {p q : ℕ} {bs : List ℕ} {r : Record} → Stands s p q bs → (g : RecordBytes strict bs r)
    → record_at s p ≡ ok (placed_record p g) q
unfolding record_at
record_reads {s = s} {p} {q} x g =
    let y = sized_stands x g.sized in
    let e : p + length g.sized.size + length g.fields ≡ q = sym y.end in
    rw (count_reads (size_stands x g.sized) g.sized.sizes, e, fields_reads (inside q y (omega arith)) g.holds, eq-eqb q q refl)

pub record_complete : RecordComplete
record_complete strict s p q bs r x g = (record_reads x g, record_shows x g)

-- ---- records

pub run_complete : RunComplete
unfolding run_at
run_complete strict s p q bs rs x g =
    (times_reads (λ x r at e. placed_record at e) (record_at s) (λ p q x r. record_reads) x g, records_shows x g)

pub records_complete : RecordsComplete
unfolding records_at
records_complete strict s p bs rs x g =
    let (reads, show) = run_complete strict s p (length s) bs rs x g in
    (rw (reads, le-ltb (length s) (length s) (omega arith), eq-eqb (length s) (length s) refl), show)

pub refused_is_none : RefusedIsNone
refused_is_none strict s p n bs rs e x g = ok_not_no (sym (records_complete strict s p bs rs x g).0 ∙ e)

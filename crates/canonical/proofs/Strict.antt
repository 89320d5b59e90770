-- A record stands strictly exactly where it passes the tests of the check. What passes them is read as a record; its
-- length is in its shortest bytes and its fields are as long as they are written, so it is as short as what is written,
-- and its attributes are 0. Of what stands strictly each test is a part of what is written. Assumes nothing.
use Prim.Native.Nat.{ℕ, ◌+◌, ◌≤◌, ◌<◌}
use mathlib.Core.Path.{◌≡◌, refl, sym, ap, ◌∙◌, subst}
use mathlib.Core.Bool.{true, false}
use mathlib.Core.List.{List}
use native.Mathlib.Omega.{arith}
use borrow.Author.Tests.{eq-eqb}
use lib.IntN.{pos}
use lib.ListN.{length, get_or, take, length-append}
use Rattle.numbers.specs.Bytes.{Bytes}
use Rattle.numbers.specs.Format.{shortest}
use Rattle.primitives.specs.Reading.{signed_by}
use Rattle.primitives.specs.Stands.{Stands, Encoding}
use Rattle.primitives.specs.Step.{ok}
use Rattle.primitives.proofs.Integers.{big_one, integer_complete, signed_low}
use Rattle.primitives.proofs.Places.{byte, here}
use Rattle.primitives.proofs.Values.{integer_value}
use Rattle.primitives.proofs.Windows.{inside}
use Rattle.records.specs.Format.{Record, RecordBytes}
use Rattle.records.specs.Judgement.{RecordSpans, count_at, fields_at, record_at}
use Rattle.records.specs.Placed.{placed_fields, placed_record, shown_record}
use Rattle.records.specs.Written.{written_fields, written_record}
use Rattle.records.proofs.Complete.{count_reads, fields_reads}
use Rattle.records.proofs.Encodes.{written_length}
use Rattle.records.proofs.Parts.{size_stands, sized_stands, fields_stand}
use Rattle.records.proofs.Shortest.{record_tight}
use Rattle.records.proofs.Sound.{record_sound}
use Rattle.records.proofs.Written.{attributes_written, fields_written}
use Rattle.sizes.specs.Sizes.{fields_size}
use Rattle.sizes.proofs.Placed.{placed_sized}
use Rattle.canonical.specs.Tight.{fields_capped}

-- the tests: at p the length n is read up to m, and n bytes of fields follow
pub record Passes (s : List ℕ) (p n m : ℕ) (r : RecordSpans) : Type 0 where
  pub count : count_at s p ≡ ok n m
  pub short : p + length (shortest (pos n)) ≡ m
  pub unused : get_or s m 0 ≡ 0
  pub fields : fields_at (take (m + n) s) m ≡ ok r (m + n)
  pub size : fields_capped r ≡ n

-- ---- what passes stands strictly

module _ {s : List ℕ} {p n m : ℕ} {r : RecordSpans} (t : Passes s p n m r) where
  read : record_at s p ≡ ok r (m + n)
  unfolding record_at
  read = rw (t.count, t.fields, eq-eqb (m + n) (m + n) refl)

  module _ {a : Record} {bs : List ℕ} (x : Stands s p (m + n) bs) (g : RecordBytes false bs a) (placed : r ≡ placed_record p g) where
    -- the length and its place are those of the encoding
    length_there : (length g.fields ≡ n) × (p + length g.sized.size ≡ m)
    length_there =
        let reads = count_reads (size_stands x g.sized) g.sized.sizes in
        let is = t.count in
        (cc, cc)

    as_written : length (written_fields a) ≡ n
    as_written =
        let (is, _) = length_there in
        let size = ap fields_size placed ∙ placed_sized _ _ _ _ g.holds in
        omega (arith, size, t.size, g.sized.sizes.fits)

    no_attributes : g.holds.attribute ≡ pos 0
    no_attributes =
        let (_, there) = length_there in
        let y = fields_stand (sized_stands x g.sized) g.holds in
        let reads = integer_complete 1 s _ _ g.holds.attributes g.holds.attribute (omega arith) y.attributes g.holds.attributed in
        let (value, _, _) = integer_value 1 s _ reads in
        let byte_there : get_or s (p + length g.sized.size) 0 ≡ 0 = ap (λ (i : ℕ). get_or s i 0) there ∙ t.unused in
        sym value ∙ ap (signed_by 128) (big_one s _ ∙ byte_there) ∙ signed_low 128 0 (omega arith)

    as_short : length bs ≡ length (written_record a)
    as_short =
        let (is, there) = length_there in
        let written = written_length (written_fields a) in
        let same = ap (λ (k : ℕ). length (shortest (pos k))) as_written in
        omega (arith, ap length g.sized.is, length-append g.sized.size g.fields, written, same, as_written, t.short)

pub passes_strictly : {s : List ℕ} {p n m : ℕ} {r : RecordSpans} → Bytes s → Passes s p n m r → (a : Record) × Encoding (RecordBytes true) s p (m + n) a
passes_strictly {s} {p} {n} {m} {r} b t =
    let (e, placed) = record_sound s p r (m + n) b (read t) in
    let x = e.stands in
    let g = e.encodes in (
      shown_record s r,
      record {
        bytes = e.bytes;
        stands = x;
        encodes = record_tight e.bytes (shown_record s r) g (no_attributes t x g placed) (as_short t x g placed);
      },
    )

-- ---- what stands strictly passes

-- the length of the fields, where they begin, and where their parts stand
pub record Passed (s : List ℕ) (p : ℕ) : Type 0 where
  pub n : ℕ
  pub m : ℕ
  pub r : RecordSpans
  pub tests : Passes s p n m r
  pub here : m < length s
  pub within : m + n ≤ length s

pub strictly_passes : {s : List ℕ} {p q : ℕ} {a : Record} → Encoding (RecordBytes true) s p q a → Passed s p
strictly_passes {s} {p} {a = a} e =
    let x = e.stands in
    let g = e.encodes in
    let sized = g.sized in
    let y = sized_stands x sized in
    let z = inside (p + length sized.size + length g.fields) y (omega (arith, y.end)) in
    let written = attributes_written g.holds.attributes g.holds.attribute g.holds.attributed g.holds.unused in
    let first = subst (Stands s _ _) written (fields_stand y g.holds).attributes in
    let size = placed_sized _ _ _ (p + length sized.size) g.holds ∙ ap length (sym (fields_written g.fields a g.holds)) in
    record {
      n = length g.fields;
      m = p + length sized.size;
      r = placed_fields (p + length sized.size) g.holds;
      tests =
          record {
            count = count_reads (size_stands x sized) sized.sizes;
            short = ap (λ (bs : List ℕ). p + length bs) (sym sized.sizes.tight);
            unused = byte first;
            fields = fields_reads z g.holds ∙ ap (ok (placed_fields (p + length sized.size) g.holds)) y.end;
            size = omega (arith, size, sized.sizes.fits);
          };
      here = here first;
      within = omega (arith, y.end, y.within);
    }

-- A batch that stands at any place of any list is accepted: each test is met by the part that it is of, and the marker
-- or the records are read in the batch's own window, where they end with it. Assumes nothing.
use Prim.Native.Nat.{ℕ, ◌+◌, ◌≤◌}
use mathlib.Core.Path.{◌≡◌, refl, sym, ap, ◌∙◌}
use mathlib.Core.Bool.{Bool, true, false}
use mathlib.Core.Logic.{◌⊎◌, inl, inr}
use mathlib.Core.List.{List}
use native.Mathlib.Omega.{arith}
use borrow.Author.Tests.{eq-eqb}
use lib.IntN.{ℤ}
use lib.ListN.{length, take}
use lib.Seq.{length-take-le}
use Rattle.primitives.specs.Step.{ok}
use Rattle.primitives.specs.Stands.{Stands}
use Rattle.primitives.proofs.Places.{first, all_left}
use Rattle.primitives.proofs.Windows.{inside}
use Rattle.crc32c.specs.Crc.{crc32c}
use Rattle.records.specs.Format.{Record}
use Rattle.records.proofs.Complete.{records_complete}
use Rattle.records.proofs.Shows.{records_shows}
use Rattle.layout.specs.Table.{table}
use Rattle.layout.specs.Batch.{Content, control, records, Batch}
use Rattle.layout.specs.Format.{Grammar, grammar_of, how_many, Counts, exactly, minus_one, ContentBytes, BatchBytesWith}
use Rattle.opening.specs.Judgement.{Control, way_of, accepted, Attributes, number_in, attributes_in, fields_in, total_at, opened_at, content_at, whole_at, judge_with, apart}
use Rattle.opening.proofs.Tests.{Says, there, opened, total_is, opening_is}
use Rattle.markers.specs.Forms.{Reads}
use Rattle.markers.proofs.Forms.{forms_lawful}
use Rattle.batches.specs.Placed.{placed_content, placed_batch, shown_content}
use Rattle.batches.specs.Statements.{Complete, CompleteWith}
use Rattle.batches.proofs.Apart.{controls, said_by, attributes_apart}
use Rattle.batches.proofs.Parts.{parts_stand, fixed_there, counted_enough, ends}

-- ---- the marker, or the records

content_reads : {grammar : Grammar} {way : Control} → Reads grammar way → (strict : Bool) {s : List ℕ} {p : ℕ} {bs : List ℕ} (c : Content Record) → Stands s p (length s) bs
    → (g : ContentBytes grammar strict bs c)
    → content_at way (controls c) s (how_many c) p ≡ ok (placed_content grammar strict bs c p g) (length s)
content_reads reads strict {s} {p} {bs} (control m) x g = rw (reads.complete strict s p bs m x g)
content_reads reads strict {s} {p} {bs} (records rs) x g = rw (records_complete strict s p bs rs x g).0

content_shows : (grammar : Grammar) (strict : Bool) {s : List ℕ} {p q : ℕ} {bs : List ℕ} (c : Content Record) → Stands s p q bs
    → (g : ContentBytes grammar strict bs c) → shown_content s (placed_content grammar strict bs c p g) ≡ c
content_shows grammar strict (control m) x g = refl
content_shows grammar strict (records rs) x g = ap records (records_shows x g)

-- ---- the tests before them

says : {strict : Bool} (s : List ℕ) (at : ℕ) {z : ℤ} {n : ℕ} → number_in table.count s at ≡ z → Counts strict z n → Says s at n
says s at e exactly = inl e
says s at e minus_one = inr (e, refl)

-- a control batch has one marker
one_marker : {R : Type 0} (c : Content R) {t : Bool} → t ≡ controls c → ((t ≡ true) × (how_many c ≡ 1)) ⊎ (t ≡ false)
one_marker (control m) e = inl (e, refl)
one_marker (records rs) e = inr e

module _ {grammar : Grammar} {strict : Bool} {s : List ℕ} {at q : ℕ} {bs : List ℕ} {b : Batch Record} (x : Stands s at q bs)
    (g : BatchBytesWith grammar strict bs b) where
  total_reads : total_at s at ≡ accepted (length bs)
  total_reads =
      let y = parts_stand x g in
      let magic : at + 17 ≤ length s = omega (arith, fixed_there x g) in
      let all : at + (12 + length g.counted) ≤ length s = omega (arith, ends x g, x.end, x.within) in
      total_is s at _ (there magic y.batch_length (counted_enough x g) y.magic all) ∙ ap accepted (ends x g)

  attributes_read : attributes_in s at ≡ said_by b
  attributes_read = ap apart (parts_stand x g).attributes ∙ attributes_apart strict g.higher b

  control_read : (attributes_in s at).control ≡ controls b.content
  control_read = ap (λ (a : Attributes). a.control) attributes_read

  fields_read : fields_in s at ≡ b.fields
  fields_read =
      let y = parts_stand x g in
      λ i.
      record {
        base_offset = y.base_offset i;
        partition_leader_epoch = y.partition_leader_epoch i;
        last_offset_delta = y.last_offset_delta i;
        first_timestamp = y.first_timestamp i;
        max_timestamp = y.max_timestamp i;
        producer_id = y.producer_id i;
        producer_epoch = y.producer_epoch i;
        base_sequence = y.base_sequence i;
        timestamp_type = (attributes_read i).timestamp_type;
        transactional = (attributes_read i).transactional;
      }

  opening_reads : opened_at s at ≡ ok (how_many b.content) (at + 61)
  opening_reads =
      let y = parts_stand x g in
      let codec = ap (λ (a : Attributes). a.codec) attributes_read in
      opening_is s at _
      (opened (fixed_there x g) codec (says s at y.count g.counts) (one_marker b.content control_read))

-- ---- the batch's own bytes, which end where the list ends

whole_reads : {grammar : Grammar} {way : Control} → Reads grammar way → {strict : Bool} {s : List ℕ} {at : ℕ} {bs : List ℕ} {b : Batch Record} (first : ℕ)
    → Stands s at (length s) bs → (g : BatchBytesWith grammar strict bs b)
    → whole_at way s at first (length bs) ≡ ok (placed_batch at first g) (length s)
unfolding whole_at
whole_reads reads {strict} {s} {at} {bs} {b} first x g =
    let y = parts_stand x g in
    rw (
      eq-eqb _ _ (y.crc ∙ ap crc32c (sym (all_left y.checked))),
      opening_reads x g,
      fields_read x g,
      control_read x g,
      content_reads reads strict b.content y.body g.holds,
    )

pub complete_with : CompleteWith
unfolding judge_with
complete_with grammar way reads strict s at first q bs b x g =
    let e : at + length bs ≡ q = sym x.end in
    let w = length-take-le q s x.within in
    let z : Stands (take q s) at (length (take q s)) bs = rw w (inside q x (omega arith)) in
    let shows = content_shows grammar strict b.content (parts_stand x g).body g.holds in
    (rw (total_reads x g, e, whole_reads reads first z g), λ i. record { fields = b.fields; content = shows i })

pub complete : Complete
complete mode = complete_with (grammar_of mode) (way_of mode) (forms_lawful mode).reads

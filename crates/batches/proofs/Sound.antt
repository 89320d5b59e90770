-- Each test that an accepted batch has passed is one of the format's conditions, over the bytes that stand there: the
-- batch's own bytes end with its window, so what is left of the window is what is counted, and what is checked.
-- Assumes nothing.
use Prim.Native.Nat.{ℕ, ◌+◌, ◌-◌, ◌*◌, ◌/◌, ◌^◌, ◌≤◌, ◌<◌}
use mathlib.Core.Path.{◌≡◌, refl, sym, ap, ◌∙◌, subst}
use mathlib.Core.Bool.{Bool, true, false}
use mathlib.Core.Logic.{◌⊎◌, inl, inr}
use mathlib.Core.List.{List, ◌++◌}
use native.Mathlib.Omega.{arith}
use lib.IntN.{pos}
use lib.ListN.{length, take, length-map}
use lib.Seq.{length-take-le}
use Rattle.numbers.specs.Bytes.{Bytes}
use Rattle.numbers.specs.Concat.{concat}
use Rattle.numbers.specs.Format.{Unsigned, Integer}
use Rattle.primitives.specs.Step.{ok}
use Rattle.primitives.specs.Stands.{Stands, Encoding}
use Rattle.primitives.specs.Reading.{signed_by}
use Rattle.primitives.proofs.Steps.{map_ok}
use Rattle.primitives.proofs.Places.{joined, all_left}
use Rattle.primitives.proofs.Windows.{outside, window_bytes, big_window}
use Rattle.crc32c.specs.Crc.{crc32c}
use Rattle.records.specs.Format.{Record}
use Rattle.records.specs.Judgement.{RecordSpans, records_at}
use Rattle.records.specs.Placed.{shown_record}
use Rattle.records.proofs.Shows.{records_shows}
use Rattle.records.proofs.Sound.{records_sound}
use Rattle.layout.specs.Table.{Slot, table, uncounted_fields, unchecked_fields, checked_fields}
use Rattle.layout.specs.Batch.{Content, control, records, Batch}
use Rattle.layout.specs.Format.{Grammar, grammar_of, bit, control_bit, how_many, Counts, ContentBytes, BatchBytesWith}
use Rattle.opening.specs.Judgement.{Control, way_of, Accepted, unsigned_in, number_in, attributes_in, fields_in, content_at}
use Rattle.opening.proofs.Tests.{Says}
use Rattle.markers.specs.Forms.{Reads}
use Rattle.markers.proofs.Forms.{forms_lawful}
use Rattle.batches.specs.Placed.{placed_content, placed_batch, shown_content, shown_batch}
use Rattle.batches.specs.Statements.{Sound, SoundWith}
use Rattle.batches.proofs.Bits.{together}
use Rattle.batches.proofs.Passed.{Read, whole, passed}
use Rattle.batches.proofs.Pieces.{piece, pieces, piece_unsigned, piece_integer, uncounted_stand, unchecked_stand, checked_stand}

-- ---- the marker, or the records

-- an encoding of v stands from p up to the list's end, c is where its parts stand, and its kind and number are as told
record Found (grammar : Grammar) (s : List ℕ) (is_control : Bool) (n p : ℕ) (c : Content RecordSpans) (v : Content Record) : Type 0 where
  bytes : List ℕ
  stands : Stands s p (length s) bytes
  encodes : ContentBytes grammar false bytes v
  placed : c ≡ placed_content grammar false bytes v p encodes
  kind : bit is_control ≡ control_bit v
  many : n ≡ how_many v

content_found : {grammar : Grammar} {way : Control} → Reads grammar way → (s : List ℕ) → Bytes s → (is_control : Bool) (n p : ℕ) (c : Content RecordSpans) (q : ℕ)
    → content_at way is_control s n p ≡ ok c q
    → ((is_control ≡ true) × (n ≡ 1)) ⊎ (is_control ≡ false) → Found grammar s is_control n p c (shown_content s c)
content_found {grammar} {way} reads s b true n p c q e o =
    let (m, i, w) = map_ok control (way s p) e in
    let (x, l) = reads.sound s p q m b i in
    subst (λ (c : Content RecordSpans). Found grammar s true n p c (shown_content s c)) w
    (record {
      bytes = x.bytes;
      stands = subst (λ (q : ℕ). Stands s p q x.bytes) l x.stands;
      encodes = x.encodes;
      placed = refl;
      kind = refl;
      many = elim o [ inl (_, h) ↦ h | inr f ↦ cc ];
    })
content_found {grammar} reads s b false n p c q e o =
    let (rs, i, w) = map_ok records (records_at s n p) e in
    let (x, v, m, l) = records_sound s n p rs q b i in
    subst (λ (c : Content RecordSpans). Found grammar s false n p c (shown_content s c)) w
    (record {
      bytes = x.bytes;
      stands = subst (λ (q : ℕ). Stands s p q x.bytes) l x.stands;
      encodes = x.encodes;
      placed = ap records v;
      kind = refl;
      many = sym (length-map rs (shown_record s) ∙ m);
    })

-- what parts show where they stand
content_shows : (grammar : Grammar) (strict : Bool) {s : List ℕ} {p q : ℕ} {bs : List ℕ} (v : Content Record) → Stands s p q bs → (g : ContentBytes grammar strict bs v)
    → shown_content s (placed_content grammar strict bs v p g) ≡ v
content_shows grammar strict (control m) x g = refl
content_shows grammar strict (records rs) x g = ap records (records_shows x g)

-- a window shows what the list shows
found_outside : (grammar : Grammar) (s : List ℕ) (e : ℕ) {is_control : Bool} {n p : ℕ} {c : Content RecordSpans} {v : Content Record}
    → Found grammar (take e s) is_control n p c v → Found grammar (take e s) is_control n p c (shown_content s c)
found_outside grammar s e {is_control} {n} {p} {c} {v} f =
    subst (Found grammar (take e s) is_control n p c)
    (sym (content_shows grammar false v (outside e f.stands) f.encodes) ∙ ap (shown_content s) (sym f.placed)) f

-- ---- the batch, in its window w

counts_said : (w : List ℕ) (at : ℕ) {n : ℕ} → Says w at n → Counts false (number_in table.count w at) n
counts_said w at (inl e) = rw e Counts.exactly
counts_said w at (inr (e, f)) = rw (e, f) Counts.minus_one

module _ (grammar : Grammar) (way : Control) (w : List ℕ) (at n first : ℕ) (b : Bytes w) (l : length w ≡ at + (12 + n)) (length_is : number_in table.batch_length w at ≡ pos n)
    (magic_is : number_in table.magic w at ≡ pos 2) {c : Content RecordSpans} {v : Content Record} (r : Read way w at c)
    (f : Found grammar w (attributes_in w at).control r.count (at + 61) c v) where
  abbrev checked : List ℕ
  checked = concat (checked_fields (pieces w at)) ++ f.bytes

  checked_stands : Stands w (at + 21) (length w) checked
  checked_stands = joined (checked_stand w at b r.fixed) f.stands

  abbrev counted : List ℕ
  counted = concat (unchecked_fields (pieces w at)) ++ checked

  counted_stands : Stands w (at + 12) (length w) counted
  counted_stands = joined (unchecked_stand w at b r.fixed) checked_stands

  number : (x : Slot) → x.place + x.bytes ≤ 61 → 0 < x.bytes → Integer x.bytes (piece w at x) (number_in x w at)
  number x h k = piece_integer w at b x (omega (arith, r.fixed)) k

  abbrev value : Batch Record
  value = record { fields = fields_in w at; content = v }

  batch_bytes : BatchBytesWith grammar false (concat (uncounted_fields (pieces w at)) ++ counted) value
  batch_bytes =
      record {
        part = pieces w at;
        body = f.bytes;
        checked = checked;
        counted = counted;
        higher = unsigned_in table.attributes w at / 64;
        count = number_in table.count w at;
        is = refl;
        counted_is = refl;
        checked_is = refl;
        base_offset = number table.base_offset (omega arith) (omega arith);
        batch_length =
            subst (Integer 4 (pieces w at).batch_length) (length_is ∙ ap pos (omega (arith, l, counted_stands.end)))
            (number table.batch_length (omega arith) (omega arith));
        partition_leader_epoch = number table.partition_leader_epoch (omega arith) (omega arith);
        magic = subst (Integer 1 (pieces w at).magic) magic_is (number table.magic (omega arith) (omega arith));
        crc =
            subst (Unsigned 4 (pieces w at).crc) (r.crc ∙ ap crc32c (all_left checked_stands))
            (piece_unsigned w at b table.crc (omega (arith, r.fixed)));
        attributes =
            subst (Unsigned 2 (pieces w at).attributes) (omega (arith, together (unsigned_in table.attributes w at) r.codec, f.kind))
            (piece_unsigned w at b table.attributes (omega (arith, r.fixed)));
        last_offset_delta = number table.last_offset_delta (omega arith) (omega arith);
        first_timestamp = number table.first_timestamp (omega arith) (omega arith);
        max_timestamp = number table.max_timestamp (omega arith) (omega arith);
        producer_id = number table.producer_id (omega arith) (omega arith);
        producer_epoch = number table.producer_epoch (omega arith) (omega arith);
        base_sequence = number table.base_sequence (omega arith) (omega arith);
        numbered = number table.count (omega arith) (omega arith);
        counts = rw (← f.many) (counts_said w at r.says);
        holds = f.encodes;
      }

  batch_found : (e : Encoding (BatchBytesWith grammar false) w at (length w) value) × (whole way w at first (12 + n) c ≡ placed_batch at first e.encodes)
  unfolding batch_bytes
  batch_found =
      let x = joined (uncounted_stand w at b r.fixed) counted_stands in
      let k : 12 + n ≡ length (concat (uncounted_fields (pieces w at)) ++ counted) = omega (arith, l, x.end) in (
        record { bytes = concat (uncounted_fields (pieces w at)) ++ counted; stands = x; encodes = batch_bytes },
        λ i. record { fields = fields_in w at; content = f.placed i; first_header = first; consumed = k i },
      )

-- ---- and in the list

number_cut : (x : Slot) (e : ℕ) (s : List ℕ) (at : ℕ) → at + x.place + x.bytes ≤ e → number_in x (take e s) at ≡ number_in x s at
number_cut x e s at h = ap (signed_by (2 ^ (8 * x.bytes - 1))) (big_window x.bytes e s (at + x.place) h)

pub sound_with : SoundWith
sound_with grammar way reads s at first b bytes j =
    let p = passed way s at first b j in
    let r = p.read in
    let e = at + (12 + p.size) in
    let w = take e s in
    let l : length w ≡ e = length-take-le e s p.all_there in
    let cut : (x : Slot) → x.place + x.bytes ≤ 61 → number_in x w at ≡ number_in x s at = λ x h. number_cut x e s at (omega (arith, l, r.fixed)) in
    let f = content_found reads w (window_bytes e s bytes) (attributes_in w at).control r.count (at + 61) p.content r.end r.reads r.one in
    let (x, y) = batch_found grammar way w at p.size first (window_bytes e s bytes) l
    (cut table.batch_length (omega arith) ∙ p.batch_length) (cut table.magic (omega arith) ∙ p.magic) r (found_outside grammar s e f) in
    subst (λ (b : Accepted). (e : Encoding (BatchBytesWith grammar false) s at (at + b.consumed) (shown_batch s b)) × (b ≡ placed_batch at first e.encodes))
    (sym p.is)
    (record { bytes = x.bytes; stands = outside e (subst (λ (q : ℕ). Stands w at q x.bytes) l x.stands); encodes = x.encodes }, y)

pub sound : Sound
sound mode = sound_with (grammar_of mode) (way_of mode) (forms_lawful mode).reads

-- A batch of the grammar is one of the strict grammar where three bytes of its fixed fields are low and its marker or
-- its records are strict; and there they are. So what was opened of all the bytes, these bytes and the content tell
-- whether the bytes are canonical. The premises have the form in which a proof finds them. Assumes nothing.
use Prim.Native.Nat.{ℕ, ◌+◌, ◌*◌, ◌^◌, ◌≤◌, ◌<◌}
use mathlib.Core.Path.{◌≡◌, refl, sym, ap, ◌∙◌, subst, subst₂}
use mathlib.Core.Bool.{Bool, true, false, not}
use mathlib.Core.List.{List}
use native.Mathlib.Omega.{arith}
use native.Mathlib.Decide.{dec_lt}
use borrow.Author.Tests.{not-true, not-false, eqb-true, ltb-true, lt-ltb, le-ltb, eq-eqb, ne_eqb}
use lib.Dec.{eqb, ltb}
use lib.IntN.{ℤ, pos, negsuc}
use lib.ListN.{length, get_or, take, drop, length-map}
use lib.Seq.{take_all}
use mir.Syntax.{w8}
use mir.Val.{Fits}
use Rattle.numbers.specs.Bytes.{Bytes}
use Rattle.numbers.specs.Format.{Unsigned}
use Rattle.numbers.proofs.Picks.{both_hold}
use Rattle.primitives.specs.Step.{Step, ok, no, map_step}
use Rattle.primitives.specs.Stands.{Stands}
use Rattle.primitives.specs.Reading.{big, signed_by}
use Rattle.primitives.proofs.Integers.{signed_low, signed_high}
use Rattle.primitives.proofs.Places.{whole, all_left}
use Rattle.primitives.proofs.Steps.{map_ok}
use Rattle.records.specs.Format.{Record, RecordsBytes}
use Rattle.records.specs.Judgement.{RecordSpans, records_at}
use Rattle.records.specs.Placed.{placed_records, shown_record}
use Rattle.records.proofs.Complete.{records_complete}
use Rattle.records.proofs.Shows.{records_shows}
use Rattle.records.proofs.Sound.{records_sound}
use Rattle.layout.specs.Fixed.{view_batch_fields}
use Rattle.layout.specs.Batch.{Fields, Marker, Content, control, records, Batch}
use Rattle.layout.specs.Format.{grammar_of, attributes_of, Counts, exactly, minus_one, ContentBytes, BatchBytes}
use Rattle.layout.proofs.Flags.{timestamp_small, bit_small, control_small}
use Rattle.std.specs.Prelude.{Result, Ok, Err}
use Rattle.opening.specs.declared.Opened.{Opened}
use Rattle.opening.specs.declared.OpenError.{OpenError}
use Rattle.opening.specs.Statements.{Inside}
use Rattle.opening.specs.Judgement.{way_of, accepted, Accepted, content_at, judge}
use Rattle.opening.specs.Opened.{KnownAt, open_at, as_accepted, judged_as, judged_from}
use Rattle.opening.specs.Answers.{view_known_at}
use Rattle.batches.proofs.Answering.{view_opened}
use Rattle.opening.proofs.Judging.{judged_by_opening, opened_inside}
use Rattle.opening.proofs.Verdicts.{more_not_accepted, refused_not_accepted, same_accepted}
use Rattle.canonical.specs.Promises.{StandStrictly, CanonicalRecordsPromise}
use Rattle.markers.specs.Promises.{StandsAlone, StandsPromise}
use Rattle.layout.specs.declared.ControlMode.{ControlMode}
use Rattle.markers.proofs.Forms.{forms_lawful}
use Rattle.batches.specs.Placed.{placed_content, placed_batch, shown_batch}
use Rattle.batches.specs.Reading.{tight}
use Rattle.batches.specs.Promises.{Canonical, CanonicalPromise}
use Rattle.batches.proofs.Canonical.{canonical_is_strict}
use Rattle.batches.proofs.Complete.{complete}
use Rattle.batches.proofs.Only.{exact_count}
use Rattle.batches.proofs.Parts.{parts_stand}
use Rattle.batches.proofs.Sound.{sound}

-- ---- the three bytes

module _ (s : List ℕ) where
  pub tight_first : (get_or s 21 0 ≡ 0 → ⊥) → false ≡ tight s
  tight_first h = rw (ne_eqb (get_or s 21 0) 0 h)

  module _ (e : get_or s 21 0 ≡ 0) where
    pub tight_second : 64 ≤ get_or s 22 0 → false ≡ tight s
    tight_second h = rw (eq-eqb (get_or s 21 0) 0 e, le-ltb (get_or s 22 0) 64 h)

    pub tight_third : get_or s 22 0 < 64 → ltb (get_or s 57 0) 128 ≡ tight s
    tight_third h = rw (eq-eqb (get_or s 21 0) 0 e, lt-ltb (get_or s 22 0) 64 h)

  record Low : Type 0 where
    first : get_or s 21 0 ≡ 0
    second : get_or s 22 0 < 64
    third : get_or s 57 0 < 128

  tight_low : tight s ≡ true → Low
  tight_low e =
      let (a, f) = both_hold (eqb (get_or s 21 0) 0) _ e in
      let (b, c) = both_hold (ltb (get_or s 22 0) 64) _ f in
      record { first = eqb-true _ _ a; second = ltb-true _ _ b; third = ltb-true _ _ c }

  low_tight : Low → tight s ≡ true
  low_tight l = sym (tight_third l.first l.second) ∙ lt-ltb (get_or s 57 0) 128 l.third

  attributes_are : big 2 s 21 ≡ 256 * get_or s 21 0 + get_or s 22 0
  unfolding big
  attributes_are = omega arith

  count_is : big 4 s 57 ≡ 256 * (256 * (256 * get_or s 57 0 + get_or s 58 0) + get_or s 59 0) + get_or s 60 0
  unfolding big
  count_is = omega arith

-- ---- the strict grammar

pos_not_negsuc : {X : Type 0} {n k : ℕ} → pos n ≡ negsuc k → X
pos_not_negsuc e = let z : ◌≡◌ {A = ℕ} 0 1 = cc in absurd (omega arith)

counts_exactly : {z : ℤ} {n v : ℕ} → z ≡ pos v → Counts false z n → Counts true z n
counts_exactly e exactly = exactly
counts_exactly e minus_one = pos_not_negsuc (sym e)

module _ (mode : ControlMode) (s : List ℕ) (b : Batch Record) (bytes : Bytes s) where
  -- low bytes leave no higher bits and no count below 0
  strictly : (g : BatchBytes mode false s b) → Low s → ContentBytes (grammar_of mode) true g.body b.content → BatchBytes mode true s b
  strictly g low holds =
      let y = parts_stand (whole s) g in
      let below : big 4 s 57 < 2 ^ 31 = omega (arith, count_is s, low.third, bytes 58, bytes 59, bytes 60) in
      let positive : g.count ≡ pos (big 4 s 57) = sym y.count ∙ signed_low (2 ^ 31) (big 4 s 57) below in
      let same : attributes_of false g.higher b ≡ attributes_of true 0 b
      = omega (
        arith,
        y.attributes,
        attributes_are s,
        low.first,
        low.second,
        timestamp_small b.fields.timestamp_type,
        bit_small b.fields.transactional,
        control_small b.content,
      ) in
      record {
        part = g.part;
        body = g.body;
        checked = g.checked;
        counted = g.counted;
        higher = 0;
        count = g.count;
        is = g.is;
        counted_is = g.counted_is;
        checked_is = g.checked_is;
        base_offset = g.base_offset;
        batch_length = g.batch_length;
        partition_leader_epoch = g.partition_leader_epoch;
        magic = g.magic;
        crc = g.crc;
        attributes = subst (Unsigned 2 g.part.attributes) same g.attributes;
        last_offset_delta = g.last_offset_delta;
        first_timestamp = g.first_timestamp;
        max_timestamp = g.max_timestamp;
        producer_id = g.producer_id;
        producer_epoch = g.producer_epoch;
        base_sequence = g.base_sequence;
        numbered = g.numbered;
        counts = counts_exactly positive g.counts;
        holds = holds;
      }

  -- and back
  count_low : (v n : ℕ) → signed_by (2 ^ 31) v ≡ pos n → v < 2 ^ 31
  count_low v n e =
      elim (dec_lt v (2 ^ 31)) [
        | yes h ↦ h
        | Dec.no h ↦ pos_not_negsuc (sym e ∙ signed_high (2 ^ 31) v (omega arith))
      ]

  strict_low : BatchBytes mode true s b → Low s
  strict_low g =
      let y = parts_stand (whole s) g in
      let small : 256 * get_or s 21 0 + get_or s 22 0 < 64
      = omega (
        arith,
        y.attributes,
        attributes_are s,
        timestamp_small b.fields.timestamp_type,
        bit_small b.fields.transactional,
        control_small b.content,
      ) in
      let below = count_low (big 4 s 57) _ (y.count ∙ exact_count g.counts) in
      record { first = omega arith; second = omega arith; third = omega (arith, count_is s) }

-- ---- what was opened

-- what is accepted had a marker or records
judged_as_lem : (x : Fields) (first total : ℕ) (y : Step ℕ (Content RecordSpans)) {a : Accepted} → judged_as x first total y ≡ accepted a
    → (c : Content RecordSpans) × (p : ℕ) × (y ≡ ok c p) × (a ≡ as_accepted x first total c)
judged_as_lem x first total (ok c p) e = (c, p, refl, sym (same_accepted e))
judged_as_lem x first total (no n) e = refused_not_accepted e

-- ---- the marker or the records

-- strict content that is a marker
alone_strictly : (mode : ControlMode) {s : List ℕ} {p : ℕ} {bs : List ℕ} (v : Content Record) → Stands s p (length s) bs → (g : ContentBytes (grammar_of mode) true bs v)
    → (m : Marker) → placed_content (grammar_of mode) true bs v p g ≡ control m → StandsAlone mode s p
alone_strictly mode {bs = bs} (control k) x g m e = (k, record { bytes = bs; stands = x; encodes = g })
alone_strictly mode (records rs) x g m e = let z : ◌≡◌ {A = ℕ} 0 1 = cc in absurd (omega arith)

-- strict content whose spans are those of records
stands_strictly : (mode : ControlMode) {s : List ℕ} {p : ℕ} {bs : List ℕ} (v : Content Record) → Stands s p (length s) bs → (g : ContentBytes (grammar_of mode) true bs v)
    → {n : ℕ} (spans : List RecordSpans) → placed_content (grammar_of mode) true bs v p g ≡ records spans → length spans ≡ n → StandStrictly s p n
stands_strictly mode (control m) x g spans e many = let z : ◌≡◌ {A = ℕ} 0 1 = cc in absurd (omega arith)
stands_strictly mode {s} {p} {bs} (records rs) x g spans e many =
    let same : placed_records p g ≡ spans = cc in
    let count = ap length (sym (records_shows x g)) ∙ length-map (placed_records p g) (shown_record s) ∙ ap length same ∙ many in
    (rs, record { bytes = bs; stands = x; encodes = g }, count)

module _ (s : List ℕ) (x : Opened) (e : view_opened (Ok x) ≡ open_at s 0) where
  abbrev known : KnownAt
  known = view_known_at x

  opened_ends : Inside s 0 known
  opened_ends = opened_inside s 0 known (sym e)

  pub opened_fixed : 61 ≤ length s
  opened_fixed = omega (arith, opened_ends.fixed, opened_ends.end)

-- ---- the answer

module _ (mode : ControlMode) (s : List ℕ) (fits : (i : ℕ) → Fits w8 (get_or s i 0)) where
  bytes_are : Bytes s
  bytes_are i = (fits i).fits

  never : (Canonical mode s → ⊥) → CanonicalPromise mode s false
  never h =
      record { lent = bytes_are; says = (λ e. absurd (let z : ◌≡◌ {A = ℕ} 0 1 = cc in omega arith), λ c. absurd (h c)) }

  strict_canonical : (b : Batch Record) → BatchBytes mode true s b → Canonical mode s
  strict_canonical b g = (canonical_is_strict mode s bytes_are).1 (b, g)

  -- the same batch, by the grammar
  accepted_all : (a : Accepted) → judge mode s ≡ accepted a → a.consumed ≡ length s → BatchBytes mode false s (shown_batch s a)
  accepted_all a j all =
      let (e, _) = sound mode s 0 0 a bytes_are j in
      let end : 0 + a.consumed ≡ length s = omega arith in
      subst (λ (bs : List ℕ). BatchBytes mode false bs (shown_batch s a))
      (sym (all_left (subst (λ (q : ℕ). Stands s 0 q e.bytes) end e.stands))) e.encodes

  judged : (a : Result Opened OpenError) → view_opened a ≡ open_at s 0 → judge mode s ≡ judged_from (way_of mode) s 0 0 (view_opened a)
  judged a e = judged_by_opening (way_of mode) s 0 0 ∙ ap (judged_from (way_of mode) s 0 0) (sym e)

  pub canonical_unopened : (f : OpenError) → view_opened (Err f) ≡ open_at s 0 → CanonicalPromise mode s false
  canonical_unopened (OpenError.MoreBytes n) e = never (λ c. more_not_accepted (sym (judged (Err (OpenError.MoreBytes n)) e) ∙ c.judged))
  canonical_unopened (OpenError.Refused h) e = never (λ c. refused_not_accepted (sym (judged (Err (OpenError.Refused h)) e) ∙ c.judged))

  module _ (x : Opened) (e : view_opened (Ok x) ≡ open_at s 0) where
    ends : Inside s 0 (known s x e)
    ends = opened_ends s x e

    -- the marker or the records, in the batch's window
    abbrev inside : Step ℕ (Content RecordSpans)
    inside = content_at (way_of mode) x.is_control (take (0 + x.total) s) x.count x.next.at

    judged_inside : judge mode s ≡ judged_as (view_batch_fields x.fields) 0 x.total inside
    judged_inside = judged (Ok x) e

    pub canonical_longer : (x.total ≡ length s → ⊥) → CanonicalPromise mode s false
    canonical_longer h =
        never (λ c.
        let (_, _, _, is) = judged_as_lem (view_batch_fields x.fields) 0 x.total inside (sym judged_inside ∙ c.judged) in
        h (sym (ap (λ (x : Accepted). x.consumed) is) ∙ c.whole))

    module _ (all : x.total ≡ length s) (t : Bool) (tested : t ≡ tight s) where
      pub canonical_loose : not t ≡ true → CanonicalPromise mode s false
      canonical_loose h =
          never (λ c.
          let (b', g) = (canonical_is_strict mode s bytes_are).0 c in
          let low = tested ∙ low_tight s (strict_low mode s b' bytes_are g) in
          let z : ◌≡◌ {A = Bool} true false = sym low ∙ not-true t h in
          let w : ◌≡◌ {A = ℕ} 0 1 = cc in
          omega arith)

      module _ (passed : not t ≡ false) where
        -- the window is all of the bytes
        window : take (0 + x.total) s ≡ s
        window = take_all (0 + x.total) s (omega arith)

        abbrev read : Bool → Step ℕ (Content RecordSpans)
        read k = content_at (way_of mode) k s x.count x.next.at

        inside_is : (k : Bool) → x.is_control ≡ k → inside ≡ read k
        inside_is k h = λ i. content_at (way_of mode) (h i) (window i) x.count x.next.at

        abbrev accepts : Content RecordSpans → Accepted
        accepts c = as_accepted (view_batch_fields x.fields) 0 x.total c

        -- what was read is what was accepted
        read_judged : (k : Bool) → x.is_control ≡ k → (c : Content RecordSpans) (p : ℕ) → read k ≡ ok c p → judge mode s ≡ accepted (accepts c)
        read_judged k h c p r = judged_inside ∙ ap (judged_as (view_batch_fields x.fields) 0 x.total) (inside_is k h ∙ r)

        judged_read : (k : Bool) → x.is_control ≡ k → (a : Accepted) → judge mode s ≡ accepted a
            → (c : Content RecordSpans) × (p : ℕ) × (read k ≡ ok c p) × (a ≡ accepts c)
        judged_read k h a j =
            let (c, p, r, is) = judged_as_lem (view_batch_fields x.fields) 0 x.total inside (sym judged_inside ∙ j) in
            (c, p, sym (inside_is k h) ∙ r, is)

        abbrev grammar : Content RecordSpans → Type 0
        grammar c = BatchBytes mode false s (shown_batch s (accepts c))

        read_canonical : (c : Content RecordSpans) (g : grammar c) → ContentBytes (grammar_of mode) true g.body (shown_batch s (accepts c)).content → Canonical mode s
        read_canonical c g holds =
            strict_canonical (shown_batch s (accepts c)) (strictly mode s _ bytes_are g (tight_low s (sym tested ∙ not-false t passed)) holds)

        -- ---- a marker

        pub canonical_marker : x.is_control ≡ true → (r : Bool) → StandsPromise mode s x.next.at r → CanonicalPromise mode s r
        canonical_marker h r (told, tells) = record { lent = bytes_are; says = (λ t. stands (told t), λ c. tells (strict c)) }
          where
            stands : StandsAlone mode s x.next.at → Canonical mode s
            stands (m, y) =
                let i = (forms_lawful mode).reads.complete true s x.next.at y.bytes m y.stands y.encodes in
                let g = accepted_all (accepts (control m)) (read_judged true h (control m) (length s) (ap (map_step control) i)) all in
                let body : y.bytes ≡ g.body
                = sym (all_left y.stands) ∙ ap (λ (p : ℕ). drop p s) ends.next ∙ all_left (parts_stand (whole s) g).body in
                read_canonical (control m) g (subst (λ (bs : List ℕ). grammar_of mode true bs m) body y.encodes)

            strict : Canonical mode s → StandsAlone mode s x.next.at
            strict c =
                let (b', g) = (canonical_is_strict mode s bytes_are).0 c in
                let (k, p, i, is) = judged_read true h (placed_batch 0 0 g) (complete mode true s 0 0 (length s) s b' (whole s) g).0 in
                let (m, j, w) = map_ok control (way_of mode s x.next.at) i in
                let place : 0 + 61 ≡ x.next.at = sym ends.next in
                subst (StandsAlone mode s) place
                (alone_strictly mode b'.content (parts_stand (whole s) g).body g.holds m (ap (λ (x : Accepted). x.content) is ∙ sym w))

        -- ---- records

        pub canonical_rows : x.is_control ≡ false → (r : Bool) → CanonicalRecordsPromise s x.next.at x.count r → CanonicalPromise mode s r
        canonical_rows h r (told, tells) = record { lent = bytes_are; says = (λ t. stands (told t), λ c. tells (strict c)) }
          where
            stands : StandStrictly s x.next.at x.count → Canonical mode s
            stands (rs, y, many) =
                let (i, shows) = records_complete true s x.next.at y.bytes rs y.stands y.encodes in
                let spans = placed_records x.next.at y.encodes in
                let reads = ap (map_step records) (ap (λ (k : ℕ). records_at s k x.next.at) (sym many) ∙ i) in
                let g = accepted_all (accepts (records spans)) (read_judged false h (records spans) (length s) reads) all in
                let body : y.bytes ≡ g.body
                = sym (all_left y.stands) ∙ ap (λ (p : ℕ). drop p s) ends.next ∙ all_left (parts_stand (whole s) g).body in
                read_canonical (records spans) g (subst₂ (RecordsBytes true) body (sym shows) y.encodes)

            strict : Canonical mode s → StandStrictly s x.next.at x.count
            strict c =
                let (b', g) = (canonical_is_strict mode s bytes_are).0 c in
                let (k, p, i, is) = judged_read false h (placed_batch 0 0 g) (complete mode true s 0 0 (length s) s b' (whole s) g).0 in
                let (spans, j, w) = map_ok records (records_at s x.count x.next.at) i in
                let (_, _, many, _) = records_sound s x.count x.next.at spans p bytes_are j in
                let place : 0 + 61 ≡ x.next.at = sym ends.next in
                let y = (parts_stand (whole s) g).body in
                subst (λ (q : ℕ). StandStrictly s q x.count) place
                (stands_strictly mode b'.content y g.holds spans (ap (λ (x : Accepted). x.content) is ∙ sym w) many)

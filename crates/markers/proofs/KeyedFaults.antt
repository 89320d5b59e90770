-- A keyed marker's first fault is the first refusal of its reading: that of its record, then bytes after it, and then
-- its key. Of the key the first four bytes are read as a bare marker in a window of just these bytes, so that no number
-- but 12 is left. Assumes nothing.
use Prim.Native.Nat.{ℕ, ◌+◌, ◌≤◌, ◌<◌}
use mathlib.Core.Path.{◌≡◌, refl, sym, ap, ◌∙◌, subst}
use mathlib.Core.Bool.{Bool, true, false}
use mathlib.Core.Logic.{◌⊎◌, inl, inr}
use mathlib.Core.Option.{Option, none, some, none-ne-some, some-injective}
use mathlib.Core.List.{List, ◌++◌, append_assoc}
use native.Mathlib.Omega.{arith}
use native.Mathlib.Decide.{dec_lt}
use borrow.Author.Tests.{ltb-true, ltb-false, lt-ltb, le-ltb}
use lib.Dec.{ltb}
use lib.IntN.{ℤ, pos}
use lib.ListN.{length, length-append}
use Rattle.numbers.specs.Bytes.{Bytes}
use Rattle.numbers.specs.Exactly.{Exactly}
use Rattle.numbers.specs.Pick.{pick}
use Rattle.numbers.specs.Format.{Integer}
use Rattle.numbers.proofs.Integers.{integer_length}
use Rattle.primitives.specs.Step.{Step, no}
use Rattle.primitives.specs.Stands.{Encoding}
use Rattle.primitives.specs.Reading.{Span, bytes_of, shown}
use Rattle.primitives.specs.Faults.{IntegerWrong}
use Rattle.primitives.proofs.Steps.{ok_not_no, and_then_no}
use Rattle.primitives.proofs.Places.{joined, second}
use Rattle.primitives.proofs.Windows.{window_bytes}
use Rattle.records.specs.Format.{Record, RecordBytes}
use Rattle.records.specs.Judgement.{record_at}
use Rattle.records.specs.Inside.{Inside, NullableInside}
use Rattle.records.specs.Placed.{placed_record, shown_record}
use Rattle.records.proofs.Sound.{record_sound}
use Rattle.records.proofs.Complete.{record_complete}
use Rattle.records.proofs.RecordFaults.{record_faults}
use Rattle.layout.specs.Batch.{Marker}
use Rattle.layout.specs.Format.{marker_type}
use Rattle.opening.specs.Judgement.{is, bare_marker_at, as_of, marker_in_key, keyed_marker_at}
use Rattle.opening.specs.Faults.{TypeWrong, BareMarkerWrong, NoMarker, KeyedMarkerWrong}
use Rattle.opening.specs.Statements.{FaultsOf}
use Rattle.opening.proofs.Tests.{is_true, is_false}
use Rattle.opening.proofs.MarkerFaults.{bare_marker_faults}
use Rattle.markers.proofs.KeyFront.{key_inside, key_front, key_length, front_length, begins_there, there_begins}

-- a refusal is the test's, or that of what is picked
test_or_picked : (t : Bool) (m : ℕ) (x : Step ℕ Marker) {n : ℕ} → pick t (no m) x ≡ no n
    → ((t ≡ true) × (m ≡ n)) ⊎ ((t ≡ false) × (x ≡ no n))
test_or_picked true m x e = inl (refl, cc)
test_or_picked false m x e = inr (refl, e)

-- ---- a key of four bytes or more

module _ (s : List ℕ) (k : Span) (h : Inside s k) (enough : 4 ≤ k.len) where
  abbrev FrontWrong : ℕ → Type 0
  FrontWrong n = BareMarkerWrong (key_front s k) k.start n

  shows_none : {bs : List ℕ} → bytes_of s k ≡ bs → NoMarker (some bs) → NoMarker (some (bytes_of s k))
  shows_none e x = subst (λ (l : List ℕ). NoMarker (some l)) (sym e) x

  front_wrong : {n : ℕ} → FrontWrong n → NoMarker (some (bytes_of s k)) × (12 ≡ n)
  front_wrong (BareMarkerWrong.past (IntegerWrong.past l)) = absurd (omega (arith, front_length s k h enough))
  front_wrong (BareMarkerWrong.unknown x f) =
      (shows_none (there_begins s k h enough x.stands) (NoMarker.unknown_version _ x.encodes f), refl)
  front_wrong (BareMarkerWrong.later x (TypeWrong.past (IntegerWrong.past l))) =
      absurd (omega (arith, front_length s k h enough, x.stands.end, integer_length x.encodes))
  front_wrong (BareMarkerWrong.later x (TypeWrong.unknown y f)) =
      let e = there_begins s k h enough (joined x.stands y.stands) ∙ append_assoc x.bytes y.bytes _ in
      (shows_none e (NoMarker.unknown_type _ x.encodes y.encodes f), refl)
  front_wrong (BareMarkerWrong.later x (TypeWrong.left m y e l)) =
      absurd (omega (
        arith,
        front_length s k h enough,
        x.stands.end,
        integer_length x.encodes,
        y.stands.end,
        integer_length y.encodes,
      ))

  -- the version and the type with which a key begins
  module _ {version : List ℕ} {v : ℤ} (g : Integer 2 version v) where
    leads : (rest : List ℕ) → bytes_of s k ≡ version ++ rest
        → Encoding (Integer 2) (key_front s k) k.start (k.start + length version) v
    leads rest e =
        let x = begins_there s k h version rest e (omega (arith, integer_length g)) in
        record { bytes = version; stands = x; encodes = g }

    module _ {kind : List ℕ} {t : ℤ} (i : Integer 2 kind t) (rest : List ℕ)
        (e : bytes_of s k ≡ version ++ (kind ++ rest)) where
      follows : Encoding (Integer 2) (key_front s k) (k.start + length version) (k.start + length (version ++ kind)) t
      follows =
          let l : length (version ++ kind) ≤ 4
          = omega (arith, length-append version kind, integer_length g, integer_length i) in
          let x = begins_there s k h (version ++ kind) rest (e ∙ sym (append_assoc version kind rest)) l in
          record { bytes = kind; stands = second version kind x; encodes = i }

      type_unknown : ((m : Marker) → t ≡ pos (marker_type m) → ⊥) → (known : Bool) → is 0 v ≡ known → FrontWrong 12
      type_unknown f true w =
          let x = subst (Encoding (Integer 2) (key_front s k) k.start _) (is_true 0 v w) (leads (kind ++ rest) e) in
          BareMarkerWrong.later x (TypeWrong.unknown follows f)
      type_unknown f false w = BareMarkerWrong.unknown (leads (kind ++ rest) e) (is_false 0 v w)

  wrong_front : {key : Option (List ℕ)} → some (bytes_of s k) ≡ key → NoMarker key → FrontWrong 12
  wrong_front e NoMarker.null = absurd (none-ne-some _ (sym e))
  wrong_front e (NoMarker.short {key} l) =
      absurd (omega (arith, enough, key_length s k h, ap length (some-injective (bytes_of s k) key e)))
  wrong_front e (NoMarker.unknown_version rest g f) =
      BareMarkerWrong.unknown (leads g rest (some-injective _ _ e)) f
  wrong_front e (NoMarker.unknown_type {v = v} rest g i f) =
      type_unknown g i rest (some-injective _ _ e) f (is 0 v) refl

-- ---- any key

module _ (s : List ℕ) (b : Bytes s) where
  front_faults : (k : Span) (n : ℕ) → Inside s k → 4 ≤ k.len
      → Exactly (bare_marker_at (key_front s k) k.start ≡ no n) (BareMarkerWrong (key_front s k) k.start n)
  front_faults k n h enough =
      let l : k.start ≤ length (key_front s k) = omega (arith, front_length s k h enough) in
      bare_marker_faults (key_front s k) k.start n (window_bytes (k.start + 4) s b) l

  -- what is refused is no marker, and it is refused by 12
  pub key_wrong : (key : Option Span) → NullableInside s key → (p : ℕ) {n : ℕ} → marker_in_key s key p ≡ no n
      → NoMarker (shown s key) × (12 ≡ n)
  key_wrong none h p e = (NoMarker.null, cc)
  key_wrong (some k) h p {n} e =
      elim (test_or_picked (ltb k.len 4) 12 _ e) [
        | inl x ↦
            let few : length (bytes_of s k) < 4 = omega (arith, key_length s k h, ltb-true k.len 4 x.0) in
            (NoMarker.short few, x.1)
        | inr x ↦
            let enough : 4 ≤ k.len = ltb-false k.len 4 x.0 in
            elim (and_then_no (bare_marker_at (key_front s k) k.start) (as_of p) x.1) [
              | inl i ↦ front_wrong s k h enough ((front_faults k n h enough).0 i)
              | inr v ↦ let (_, _, _, j) = v in ok_not_no j
            ]
      ]

  -- what is no marker is refused so
  pub key_refused : (key : Option Span) → NullableInside s key → (p : ℕ) → NoMarker (shown s key)
      → marker_in_key s key p ≡ no 12
  key_refused none h p x = refl
  key_refused (some k) h p x =
      elim (dec_lt k.len 4) [
        | yes l ↦ rw (lt-ltb k.len 4 l)
        | Dec.no l ↦
            let enough : 4 ≤ k.len = omega arith in
            rw (le-ltb k.len 4 enough, (front_faults k 12 h enough).1 (wrong_front s k h enough refl x))
      ]

-- ---- the record, what follows it, and its key

module _ (s : List ℕ) (b : Bytes s) (p : ℕ) (l : p ≤ length s) where
  keyed_wrong : {n : ℕ} → keyed_marker_at s p ≡ no n → KeyedMarkerWrong s p n
  unfolding keyed_marker_at
  keyed_wrong {n} e =
      elim (and_then_no (record_at s p) _ e) [
        | inl i ↦ KeyedMarkerWrong.one ((record_faults s p n b l).0 i)
        | inr v ↦
            let (r, q, i, j) = v in
            let t = (record_sound s p r q b i).0 in
            elim (test_or_picked (ltb q (length s)) 13 (marker_in_key s r.key q) j) [
              | inl x ↦ subst (KeyedMarkerWrong s p) x.1 (KeyedMarkerWrong.left t (ltb-true q (length s) x.0))
              | inr x ↦
                  let end : q ≡ length s = omega (arith, ltb-false q (length s) x.0, t.stands.within) in
                  let whole = subst (λ (q : ℕ). Encoding (RecordBytes false) s p q (shown_record s r)) end t in
                  let (unmarked, twelve) = key_wrong s b r.key (key_inside s p b i) q x.1 in
                  subst (KeyedMarkerWrong s p) twelve (KeyedMarkerWrong.key whole unmarked)
            ]
      ]

  -- a record that is read, and then what follows it and its key
  reads_on : {q : ℕ} {r : Record} (t : Encoding (RecordBytes false) s p q r)
      → keyed_marker_at s p ≡ pick (ltb q (length s)) (no 13) (marker_in_key s (placed_record p t.encodes).key q)
  unfolding keyed_marker_at
  reads_on {q} {r} t = rw (record_complete false s p q t.bytes r t.stands t.encodes).0

  keyed_refused : {n : ℕ} → KeyedMarkerWrong s p n → keyed_marker_at s p ≡ no n
  unfolding keyed_marker_at
  keyed_refused {n} (KeyedMarkerWrong.one x) = rw ((record_faults s p n b l).1 x)
  keyed_refused (KeyedMarkerWrong.left {q = q} t h) = reads_on t ∙ rw (lt-ltb q (length s) h)
  keyed_refused (KeyedMarkerWrong.key {r} t x) =
      let (reads, shows) = record_complete false s p (length s) t.bytes r t.stands t.encodes in
      let unmarked = subst (λ (r : Record). NoMarker r.key) (sym shows) x in
      reads_on t
      ∙ rw (
        le-ltb (length s) (length s) (omega arith),
        key_refused s b (placed_record p t.encodes).key (key_inside s p b reads) (length s) unmarked,
      )

pub keyed_marker_faults : FaultsOf keyed_marker_at KeyedMarkerWrong
keyed_marker_faults s p n b l = (keyed_wrong s b p l, keyed_refused s b p l)

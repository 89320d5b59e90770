-- In what is given every fixed field but batchLength and checksum has the bytes that it had: it lies in a run of bytes
-- that stands in both, at the same place. Assumes nothing.
use Prim.Native.Nat.{ℕ, ◌+◌, ◌-◌, ◌≤◌}
use mathlib.Core.Path.{◌≡◌, refl, sym, ap, ◌∙◌, subst₂}
use mathlib.Core.Logic.{◌⊎◌, inl, inr}
use mathlib.Core.List.{List, ◌++◌}
use native.Mathlib.Omega.{arith}
use lib.ListN.{length, take, drop, length-drop, take-append-drop}
use lib.Seq.{length-take-le, drop-drop, take-append-le, drop-append-le}
use Rattle.numbers.specs.Format.{big_endian}
use Rattle.numbers.proofs.Integers.{big_endian_length}
use Rattle.primitives.specs.Stands.{Stands}
use Rattle.primitives.proofs.Places.{first, second, whole}
use Rattle.primitives.proofs.Windows.{inside}
use Rattle.crc32c.specs.Crc.{crc32c}
use Rattle.layout.specs.declared.ControlMode.{ControlMode}
use Rattle.layout.specs.Table.{Slot, unchecked, fixed_part}
use Rattle.layout.specs.Batch.{Marker}
use Rattle.opening.specs.Judgement.{way_of, bare_marker_at}
use Rattle.markers.specs.Forms.{written_control}
use Rattle.converting.specs.Conversion.{between, rekeyed_checked, rekeyed}
use Rattle.converting.specs.Statements.{slot_of, KeptSlot, ConvertedKept}
use Rattle.converting.proofs.Given.{converted_reads}
use Rattle.converting.proofs.Within.{accepted_within}

-- ---- where the kept fields lie

abbrev Lies : ℕ → ℕ → Slot → Type 0
Lies p q f = (p ≤ f.place) × (f.place + f.bytes ≤ q)

-- before batchLength, between it and the checksum, or after that
kept_lies : (f : Slot) → KeptSlot f → Lies 0 8 f ⊎ (Lies 12 17 f ⊎ Lies 21 61 f)
kept_lies _ KeptSlot.base_offset = inl (omega arith, omega arith)
kept_lies _ KeptSlot.partition_leader_epoch = inr (inl (omega arith, omega arith))
kept_lies _ KeptSlot.magic = inr (inl (omega arith, omega arith))
kept_lies _ KeptSlot.attributes = inr (inr (omega arith, omega arith))
kept_lies _ KeptSlot.last_offset_delta = inr (inr (omega arith, omega arith))
kept_lies _ KeptSlot.first_timestamp = inr (inr (omega arith, omega arith))
kept_lies _ KeptSlot.max_timestamp = inr (inr (omega arith, omega arith))
kept_lies _ KeptSlot.producer_id = inr (inr (omega arith, omega arith))
kept_lies _ KeptSlot.producer_epoch = inr (inr (omega arith, omega arith))
kept_lies _ KeptSlot.base_sequence = inr (inr (omega arith, omega arith))
kept_lies _ KeptSlot.count = inr (inr (omega arith, omega arith))

kept_fixed : (f : Slot) → KeptSlot f → f.place + f.bytes ≤ fixed_part
kept_fixed f k =
    elim (kept_lies f k) [
      | inl (_, l) ↦ omega arith
      | inr (inl (_, l)) ↦ omega arith
      | inr (inr (_, l)) ↦ l
    ]

-- ---- a field that lies in bytes which stand in both

-- its bytes are told by these
slot_told : {s : List ℕ} {p q : ℕ} {bs : List ℕ} (f : Slot) → Stands s p q bs → Lies p q f
    → slot_of f s ≡ take f.bytes (drop (f.place - p) bs)
slot_told {s} {p} {q} {bs} f x (l, h) =
    let k = f.place - p in
    let e : f.place ≡ p + k = omega arith in
    let there : k + f.bytes ≤ length bs = omega (arith, x.end) in
    ap (λ (i : ℕ). take f.bytes (drop i s)) e
    ∙ ap (take f.bytes) (sym (drop-drop k p s) ∙ ap (drop k) x.split ∙ drop-append-le k bs (drop q s) (omega arith))
    ∙ take-append-le f.bytes (drop k bs) (drop q s) (omega (arith, length-drop k bs))

same_slot : {s t : List ℕ} {p q : ℕ} {bs : List ℕ} (f : Slot) → Stands s p q bs → Stands t p q bs → Lies p q f → slot_of f t ≡ slot_of f s
same_slot f x y l = slot_told f y l ∙ sym (slot_told f x l)

-- the bytes from one place up to another stand there
between_stands : (from to : ℕ) (s : List ℕ) → from ≤ to → to ≤ length s → Stands s from to (between from to s)
between_stands from to s l h =
    let e : from + (to - from) ≡ to = omega arith in
    record {
      split =
          sym (take-append-drop (to - from) (drop from s))
          ∙ ap (λ (r : List ℕ). between from to s ++ r) (drop-drop (to - from) from s ∙ ap (λ (i : ℕ). drop i s) e);
      end = omega (arith, length-take-le (to - from) (drop from s) (omega (arith, length-drop from s)));
      within = h;
    }

-- ---- what is copied

copied_kept : (s : List ℕ) (n : ℕ) (f : Slot) → fixed_part ≤ n → n ≤ length s → f.place + f.bytes ≤ fixed_part → slot_of f (take n s) ≡ slot_of f s
copied_kept s n f l h k =
    let x = between_stands 0 fixed_part s (omega arith) (omega arith) in
    same_slot f x (inside n x l) (omega arith, k)

-- ---- what is rekeyed

-- the first part of what stands, from and up to places that are known otherwise
stands_from : {t : List ℕ} {p r : ℕ} (from to : ℕ) (a b : List ℕ) → Stands t p r (a ++ b) → p ≡ from → p + length a ≡ to → Stands t from to a
stands_from {t} from to a b x e f = subst₂ (λ (i j : ℕ). Stands t i j a) e f (first a b x)

module _ (s : List ℕ) (m : Marker) (h : fixed_part ≤ length s) where
  record Stay : Type 0 where
    before : Stands (rekeyed s m) 0 8 (between 0 8 s)
    amid : Stands (rekeyed s m) 12 17 (between 12 17 s)
    after : Stands (rekeyed s m) 21 61 (between 21 61 s)

  between_length : (from to : ℕ) → from ≤ to → to ≤ fixed_part → from + length (between from to s) ≡ to
  between_length from to l k = sym (between_stands from to s l (omega arith)).end

  stay : Stay
  unfolding rekeyed rekeyed_checked
  stay =
      let a = between 0 8 s in
      let size = big_endian 4 (unchecked + length (rekeyed_checked s m)) in
      let b = between 12 17 s in
      let crc = big_endian 4 (crc32c (rekeyed_checked s m)) in
      let c = between 21 61 s in
      let x = whole (rekeyed s m) in
      let y = second size (b ++ (crc ++ rekeyed_checked s m)) (second a (size ++ (b ++ (crc ++ rekeyed_checked s m))) x) in
      let z = second crc (c ++ written_control m) (second b (crc ++ rekeyed_checked s m) y) in
      let first_end : length a ≡ 8 = omega (arith, between_length 0 8 (omega arith) (omega arith)) in
      let size_length : length size ≡ 4 = big_endian_length 4 _ in
      let crc_length : length crc ≡ 4 = big_endian_length 4 _ in
      let next : length b ≡ 5 = omega (arith, between_length 12 17 (omega arith) (omega arith)) in
      let last : length c ≡ 40 = omega (arith, between_length 21 61 (omega arith) (omega arith)) in
      record {
        before = stands_from 0 8 a _ x refl (omega arith);
        amid = stands_from 12 17 b _ y (omega arith) (omega arith);
        after = stands_from 21 61 c _ z (omega arith) (omega arith);
      }

  rekeyed_kept : (f : Slot) → KeptSlot f → slot_of f (rekeyed s m) ≡ slot_of f s
  rekeyed_kept f k =
      elim (kept_lies f k) [
        | inl l ↦ same_slot f (between_stands 0 8 s (omega arith) (omega arith)) stay.before l
        | inr (inl l) ↦ same_slot f (between_stands 12 17 s (omega arith) (omega arith)) stay.amid l
        | inr (inr l) ↦ same_slot f (between_stands 21 61 s (omega arith) (omega arith)) stay.after l
      ]

-- ---- either

pub converted_kept : ConvertedKept
converted_kept s c f bytes e k =
    elim (converted_reads s c bytes e) [
      | inl r ↦
          let (l, h) = accepted_within bare_marker_at s r.former r.judged in
          ap (slot_of f) r.given ∙ rekeyed_kept s r.marker (omega arith) f k
      | inr r ↦
          let (l, h) = accepted_within (way_of ControlMode.Keyed) s r.batch r.judged in
          ap (slot_of f) r.given ∙ copied_kept s r.batch.consumed f l h (kept_fixed f k)
    ]

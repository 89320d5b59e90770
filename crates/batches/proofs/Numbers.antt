-- Each number is given exactly where document 01 says: a refusal comes from one place, each place refuses by its own
-- numbers, and those of the marker and of the records are later ones. Assumes nothing.
use Prim.Native.Nat.{ℕ, ◌+◌, ◌^◌, ◌≤◌, ◌<◌}
use mathlib.Core.Path.{◌≡◌, refl, ap, subst, transport, transport⁻¹}
use mathlib.Core.Bool.{Bool, true}
use mathlib.Core.Logic.{◌⊎◌, inl, inr}
use mathlib.Core.List.{List}
use native.Mathlib.Omega.{arith}
use native.Mathlib.Nat.{zero-add}
use borrow.Author.Tests.{ltb-true, lt-ltb}
use lib.IntN.{ℤ, pos, negsuc}
use lib.ListN.{length, take, length-take}
use Rattle.primitives.specs.Step.{no}
use Rattle.primitives.specs.Reading.{signed_by}
use Rattle.primitives.proofs.Windows.{big_window}
use Rattle.records.proofs.Refusals.{refusal_within, records_refuses}
use Rattle.layout.specs.Table.{Slot, table}
use Rattle.opening.specs.Judgement.{way_of, refused, accepted, unsigned_in, number_in, attributes_in, below, Control, content_at, judge_with, judge}
use Rattle.opening.proofs.Tests.{Totals, low, unknown, there, is_false, is_not, Openings, no_attributes, unknown_codec, no_fields, low_count, compressed, wrong_count}
use Rattle.layout.specs.declared.ControlMode.{ControlMode}
use Rattle.markers.proofs.Forms.{forms_lawful}
use Rattle.batches.specs.Statements.{Refusals, WaysWithin, Whole, sum, Checked, Below, FrontWrong, Numbers}
use Rattle.batches.proofs.Refused.{Right, WholeRefusal, differs, unopened, unread, Refusal, unsized, sized, refusal, refused_is, content_no}

pub late_least : {n : ℕ} → ((8 ≤ n) × (n ≤ 13)) ⊎ (n ≡ 41) → 8 ≤ n
late_least (inl x) = x.0
late_least (inr e) = omega arith

pub ways_within : WaysWithin
ways_within mode s p n e =
    elim ((forms_lawful mode).late s p n e) [
      | inl (f, g) ↦ inl (omega arith, g)
      | inr f ↦ inr f
    ]

-- ---- none but 2 to 13, and those of the way in which control batches are read

abbrev Early : ℕ → Type 0
Early n = (2 ≤ n) × (n ≤ 13)

abbrev pub ByWay : Control → ℕ → Type 0
ByWay way n = (s : List ℕ) × (p : ℕ) × (way s p ≡ no n)

total_within : {s : List ℕ} {at n : ℕ} → Totals s at (refused n) → Early n
total_within (low h e) = (omega arith, omega arith)
total_within (unknown h e f m) = (omega arith, omega arith)

opening_within : {s : List ℕ} {at n : ℕ} → Openings s at (no n) → Early n
opening_within (no_attributes h) = (omega arith, omega arith)
opening_within (unknown_codec h f) = (omega arith, omega arith)
opening_within (no_fields h f g) = (omega arith, omega arith)
opening_within (low_count h f e) = (omega arith, omega arith)
opening_within (compressed h c f w) = (omega arith, omega arith)
opening_within (wrong_count h c t w f) = (omega arith, omega arith)

module _ (way : Control) where
  whole_within : {s : List ℕ} {at n : ℕ} → WholeRefusal way s at n → Early n ⊎ ByWay way n
  whole_within (differs c) = inl (omega arith, omega arith)
  whole_within (unopened c f) = inl (opening_within f)
  whole_within {s} {at} (unread {m} {p} {n} c f g) =
      elim (content_no way (attributes_in s at).control s m p g) [
        | inl e ↦ inr (s, p, e)
        | inr e ↦ let (h, k) = refusal_within (records_refuses s m p) e in inl (omega arith, k)
      ]

  refusal_within_or_by : {s : List ℕ} {at n : ℕ} → Refusal way s at n → Early n ⊎ ByWay way n
  refusal_within_or_by (unsized t) = inl (total_within t)
  refusal_within_or_by (sized t w) = whole_within w

  pub refused_by_lem : (s : List ℕ) (at first n : ℕ) → judge_with way s at first ≡ refused n → ((2 ≤ n) × (n ≤ 13)) ⊎ ByWay way n
  refused_by_lem s at first n e = refusal_within_or_by (refusal way s at first e)

pub refusals : Refusals
refusals way within s at first n e =
    elim (refused_by_lem way s at first n e) [
      | inl x ↦ inl x
      | inr (w, p, f) ↦ within w p n f
    ]

-- ---- the batch's bytes alone say of it what the list says

module _ (s : List ℕ) (n : ℕ) where
  abbrev pub window : List ℕ
  window = take (0 + (12 + n)) s

  unsigned_same : (f : Slot) → f.place + f.bytes ≤ 12 + n → unsigned_in f window 0 ≡ unsigned_in f s 0
  unsigned_same f h = big_window f.bytes (0 + (12 + n)) s (0 + f.place) (omega arith)

  pub attributes_same : 11 ≤ n → unsigned_in table.attributes window 0 ≡ unsigned_in table.attributes s 0
  attributes_same h = unsigned_same table.attributes (omega arith)

  pub count_same : 49 ≤ n → number_in table.count window 0 ≡ number_in table.count s 0
  count_same h = ap (signed_by (2 ^ 31)) (unsigned_same table.count (omega arith))

  pub right_same : 9 ≤ n → Right window 0 ≡ (unsigned_in table.crc s 0 ≡ sum s n)
  right_same h = rw (unsigned_same table.crc (omega arith), zero-add (12 + n))

pub window_length : {s : List ℕ} {n : ℕ} → Checked s n → length (window s n) ≡ 12 + n
window_length {s} {n} c = rw (length-take (0 + (12 + n)) s) (omega (arith, c.whole.all_there))

-- ---- numbers 2 to 7

-- length and magic, the checksum, or what is met before the marker or the records
data Front (s : List ℕ) : ℕ → Type 0 where
  by_frame : {k : ℕ} → Totals s 0 (refused k) → Front s k
  by_checksum : {n : ℕ} → Whole s n → (unsigned_in table.crc s 0 ≡ sum s n → ⊥) → Front s 4
  by_fields : {n k : ℕ} → Checked s n → Openings (window s n) 0 (no k) → Front s k

-- the marker and the records refuse by later numbers
content_late : (mode : ControlMode) (t : Bool) (s : List ℕ) (m p : ℕ) {k : ℕ} → content_at (way_of mode) t s m p ≡ no k → 8 ≤ k
content_late mode t s m p e =
    elim (content_no (way_of mode) t s m p e) [
      | inl f ↦ late_least ((forms_lawful mode).late s p _ f)
      | inr f ↦ (refusal_within (records_refuses s m p) f).0
    ]

pub frame : {s : List ℕ} {n : ℕ} → Whole s n → Totals s 0 (accepted (12 + n))
frame a =
    let f = a.framed in there f.there f.length_is f.length_enough f.magic_is (omega (arith, a.all_there))

module _ (mode : ControlMode) {s : List ℕ} where
  whole_early : {n k : ℕ} → Whole s n → WholeRefusal (way_of mode) (window s n) 0 k → k < 8 → Front s k
  whole_early {n} a (differs c) l = by_checksum a (λ e. c (transport⁻¹ (right_same s n a.framed.length_enough) e))
  whole_early {n} a (unopened c f) l =
      by_fields (record { whole = a; crc_is = transport (right_same s n a.framed.length_enough) c }) f
  whole_early {n} a (unread {m} {p} c f g) l =
      absurd (omega (arith, content_late mode (attributes_in (window s n) 0).control (window s n) m p g))

  early : {k : ℕ} → Refusal (way_of mode) s 0 k → k < 8 → Front s k
  early (unsized t) l = by_frame t
  early (sized (there {n} h e f m g) w) l =
      whole_early
      (record {
        framed = record { there = h; length_is = e; length_enough = f; magic_is = m };
        all_there = omega arith;
      })
      w l

  early_is : {k : ℕ} → Front s k → Refusal (way_of mode) s 0 k
  early_is (by_frame t) = unsized t
  early_is (by_checksum {n} a c) =
      sized (frame a) (differs (λ e. c (transport (right_same s n a.framed.length_enough) e)))
  early_is (by_fields {n} c f) =
      sized (frame c.whole) (unopened (transport⁻¹ (right_same s n c.whole.framed.length_enough) c.crc_is) f)

module _ (s : List ℕ) where
  below_is : (z : ℤ) → below 9 z ≡ true → Below z 9
  below_is (pos m) e = ltb-true m 9 e
  below_is (negsuc k) e = tt

  is_below : (z : ℤ) → Below z 9 → below 9 z ≡ true
  is_below (pos m) h = lt-ltb m 9 h
  is_below (negsuc k) h = refl

  not_below : (z : ℤ) → (Below z 9 → ⊥) → (n : ℕ) × (z ≡ pos n) × (9 ≤ n)
  not_below (pos n) f = (n, refl, omega (arith, f))
  not_below (negsuc k) f = absurd (f tt)

  -- an early refusal says what document 01 says of its number

  early_told : {k : ℕ} → Front s k → k ≤ 7 → FrontWrong s k
  early_told (by_frame (low h e)) l = FrontWrong.short h (below_is (number_in table.batch_length s 0) e)
  early_told (by_frame (unknown h e f m)) l =
      FrontWrong.magic h (λ b. let l = subst (λ z. Below z 9) e b in omega arith) (is_false 2 (number_in table.magic s 0) m)
  early_told (by_checksum a c) l = FrontWrong.checksum a c
  early_told (by_fields c (no_attributes h)) l = absurd (omega arith)
  early_told (by_fields c (no_fields h f g)) l = absurd (omega arith)
  early_told (by_fields {n} c (unknown_codec h f)) l =
      let w : 11 ≤ n = omega (arith, window_length c) in
      FrontWrong.unknown c w (rw (attributes_same s n w) at f)
  early_told (by_fields {n} c (compressed {n = m} h d f w)) l =
      let v : 49 ≤ n = omega (arith, window_length c) in
      let e = attributes_same s n (omega arith) in
      FrontWrong.compressed {m = m} c v (rw e at d) (rw e at f) (rw (count_same s n v) at w)
  early_told (by_fields {n} c (low_count {k} h f w)) l =
      let v : 49 ≤ n = omega (arith, window_length c) in
      FrontWrong.low c v (rw (attributes_same s n (omega arith)) at f) (k, rw (count_same s n v) at w)
  early_told (by_fields {n} c (wrong_count {n = m} h d t w f)) l =
      let v : 49 ≤ n = omega (arith, window_length c) in
      let e = attributes_same s n (omega arith) in
      FrontWrong.control_count {m = m} c v (rw e at d) (rw e at t) (rw (count_same s n v) at w) f

  -- and is told by it

  told_early : {k : ℕ} → FrontWrong s k → Front s k
  told_early (FrontWrong.short h b) = by_frame (low h (is_below (number_in table.batch_length s 0) b))
  told_early (FrontWrong.magic h b m) =
      let (n, e, f) = not_below (number_in table.batch_length s 0) b in
      by_frame (unknown h e f (is_not 2 (number_in table.magic s 0) m))
  told_early (FrontWrong.checksum a c) = by_checksum a c
  told_early (FrontWrong.unknown {n} c l f) =
      by_fields c (unknown_codec (omega (arith, window_length c)) (rw (attributes_same s n l) f))
  told_early (FrontWrong.compressed {n} {m} c l d f w) =
      let e = attributes_same s n (omega arith) in
      by_fields c (compressed {n = m} (omega (arith, window_length c)) (rw e d) (rw e f) (rw (count_same s n l) w))
  told_early (FrontWrong.low {n} c l f (k, w)) =
      let h : 61 ≤ length (window s n) = omega (arith, window_length c) in
      by_fields c (low_count {k = k} h (rw (attributes_same s n (omega arith)) f) (rw (count_same s n l) w))
  told_early (FrontWrong.control_count {n} {m} c l d t w f) =
      let e = attributes_same s n (omega arith) in
      by_fields c (wrong_count {n = m} (omega (arith, window_length c)) (rw e d) (rw e t) (rw (count_same s n l) w) f)

pub front_refused : (mode : ControlMode) {s : List ℕ} {n : ℕ} → FrontWrong s n → judge mode s ≡ refused n
front_refused mode {s} x = refused_is (way_of mode) s 0 0 (early_is mode (told_early s x))

pub numbers : Numbers
numbers mode s n l = (λ e. early_told s (early mode (refusal (way_of mode) s 0 0 e) (omega arith)) l, front_refused mode)

-- What the reading of length and magic returns: by whether the fields are there, by the sign and size of batchLength,
-- by the magic and by whether all bytes are there. The premises have the form in which a proof finds them. Assumes
-- nothing.
use Prim.Native.Nat.{ℕ, ◌+◌, ◌-◌, ◌*◌, ◌^◌, ◌≤◌, ◌<◌}
use mathlib.Core.Path.{◌≡◌, refl, sym, ap, ◌∙◌, subst}
use mathlib.Core.Bool.{true, false, true≢false}
use mathlib.Core.Logic.{inl, inr}
use mathlib.Core.List.{List}
use native.Mathlib.Omega.{arith}
use native.Mathlib.Nat.{add-zero}
use borrow.Author.Tests.{ltb-false}
use lib.Dec.{T}
use lib.IntN.{ℤ, pos, negsuc, nat_abs}
use lib.ListN.{length}
use lib.Signed.{mag, lt_z, non_neg}
use mir.Syntax.{w8, w32, w64}
use mir.Val.{Fits, SFits, to_z, of_z}
use mir.ValLaws.{to_z-of_z}
use Rattle.primitives.specs.Step.{Step, ok, no, and_then, map_step}
use Rattle.primitives.specs.Reading.{big, signed_by, integer_at}
use Rattle.primitives.proofs.Steps.{and_then_ok, and_then_no, map_ok, map_no}
use Rattle.primitives.proofs.Values.{integer_value, integer_past}
use Rattle.layout.specs.Table.{table}
use Rattle.opening.specs.declared.Lead.{Lead}
use Rattle.opening.specs.declared.Version.{Version}
use Rattle.opening.specs.Judgement.{Judged, more, refused, accepted, number_in, below}
use Rattle.opening.specs.Opening.{lead_at, version_at, framed, frame_at}
use Rattle.opening.proofs.Tests.{Totals, few, low, short, unknown, lacking, there, total_is}
use Rattle.opening.proofs.SignedTests.{bits_number, bits_other}

-- ---- the fields, by their places

-- two integers, one after the other
module _ {A : Type 0} (m n : ℕ) (f : ℤ → ℤ → A) (s : List ℕ) (p q r : ℕ) (e : q ≡ p + m) (e' : r ≡ q + n) where
  abbrev both : Step ℕ A
  both = and_then (integer_at m s p) (λ a k. map_step (f a) (integer_at n s k))

  both_there : {x : A} {k : ℕ} → both ≡ ok x k
      → (f (signed_by (2 ^ (8 * m - 1)) (big m s p)) (signed_by (2 ^ (8 * n - 1)) (big n s q)) ≡ x) × (k ≡ r) × (r ≤ length s)
  both_there g =
      let (a, i, is, h) = and_then_ok (integer_at m s p) (λ a k. map_step (f a) (integer_at n s k)) g in
      let (b, is', w) = map_ok (f a) (integer_at n s i) h in
      let (v, end, within) = integer_value m s p is in
      let (v', end', within') = integer_value n s i is' in
      let place : i ≡ q = end ∙ sym e in
      ((λ j. f (v j) ((ap (λ (k : ℕ). signed_by (2 ^ (8 * n - 1)) (big n s k)) (sym place) ∙ v') j)) ∙ w, omega arith, omega arith)

  both_past : {k : ℕ} → both ≡ no k → length s < r
  both_past g =
      elim (and_then_no (integer_at m s p) (λ a k. map_step (f a) (integer_at n s k)) g) [
        | inl h ↦ omega (arith, integer_past m s p h)
        | inr (a, i, is, h) ↦ omega (arith, integer_value m s p is, integer_past n s i (map_no (f a) (integer_at n s i) h))
      ]

pub record LeadIs (s : List ℕ) (at : ℕ) (x : Lead) (p : ℕ) : Type 0 where
  pub base_offset_lem : number_in table.base_offset s at ≡ x.base_offset
  pub batch_length_lem : number_in table.batch_length s at ≡ x.batch_length
  pub next : p ≡ at + 12
  pub within : at + 12 ≤ length s

abbrev lead_of : ℤ → ℤ → Lead
lead_of base n = record { base_offset = base; batch_length = n }

module _ (s : List ℕ) (at : ℕ) where
  lead_is : {x : Lead} {p : ℕ} → lead_at s at ≡ ok x p → LeadIs s at x p
  unfolding lead_at
  lead_is e =
      let (values, next, within) = both_there 8 4 lead_of s at (at + 8) (at + 12) refl (omega arith) e in
      record {
        base_offset_lem = rw add-zero (ap (λ (y : Lead). y.base_offset) values);
        batch_length_lem = ap (λ (y : Lead). y.batch_length) values;
        next = next;
        within = within;
      }

  lead_past : {m : ℕ} → lead_at s at ≡ no m → length s < at + 12
  unfolding lead_at
  lead_past e = both_past 8 4 lead_of s at (at + 8) (at + 12) refl (omega arith) e

pub record VersionIs (s : List ℕ) (at : ℕ) (y : Version) : Type 0 where
  pub epoch : number_in table.partition_leader_epoch s at ≡ y.partition_leader_epoch
  pub magic : number_in table.magic s at ≡ y.magic
  pub within : at + 17 ≤ length s

abbrev version_of : ℤ → ℤ → Version
version_of epoch m = record { partition_leader_epoch = epoch; magic = m }

module _ (s : List ℕ) (at : ℕ) where
  version_is : {y : Version} {p : ℕ} → version_at s (at + 12) ≡ ok y p → VersionIs s at y
  unfolding version_at
  version_is e =
      let (values, next, within) = both_there 4 1 version_of s (at + 12) (at + 16) (at + 17) (omega arith) (omega arith) e in
      record {
        epoch = ap (λ (x : Version). x.partition_leader_epoch) values;
        magic = ap (λ (x : Version). x.magic) values;
        within = within;
      }

  version_past : {m : ℕ} → version_at s (at + 12) ≡ no m → length s < at + 17
  unfolding version_at
  version_past e = both_past 4 1 version_of s (at + 12) (at + 16) (at + 17) (omega arith) (omega arith) e

-- ---- the tests of signed numbers

below_nine : (z : ℤ) → lt_z z (pos 9) ≡ true → below 9 z ≡ true
below_nine (pos n) t = t
below_nine (negsuc k) t = refl

pub record Enough (z : ℤ) : Type 0 where
  pub n : ℕ
  pub is : z ≡ pos n
  pub enough : 9 ≤ n

enough : (z : ℤ) → lt_z z (pos 9) ≡ false → Enough z
enough (pos n) t = record { n = n; is = refl; enough = ltb-false n 9 t }
enough (negsuc k) t = absurd (true≢false t)

-- ---- what is returned

frame_is : (s : List ℕ) (at : ℕ) {x : Judged ℕ} → Totals s at x → framed s at x ≡ frame_at s at
frame_is s at {x} t = ap (framed s at) (sym (total_is s at x t))

module _ (s : List ℕ) (at : ℕ) where
  pub frame_few : {n : ℕ} → no n ≡ lead_at s at → more 12 ≡ frame_at s at
  frame_few e = frame_is s at (few (lead_past s at (sym e)))

  module _ (x : Lead) (p : ℕ) (e : ok x p ≡ lead_at s at) (fits : SFits w32 x.batch_length) where
    lead : LeadIs s at x p
    lead = lead_is s at (sym e)

    pub frame_low : lt_z (to_z w32 (of_z w32 x.batch_length)) (pos 9) ≡ true → refused 2 ≡ frame_at s at
    frame_low t =
        frame_is s at (low lead.within (rw lead.batch_length_lem (below_nine x.batch_length (rw (to_z-of_z w32 x.batch_length fits) at t))))

    module _ (t : lt_z (to_z w32 (of_z w32 x.batch_length)) (pos 9) ≡ false) where
      long : Enough x.batch_length
      long = enough x.batch_length (rw (to_z-of_z w32 x.batch_length fits) at t)

      length_is : number_in table.batch_length s at ≡ pos long.n
      length_is = lead.batch_length_lem ∙ long.is

      as_number : to_z w32 (of_z w32 x.batch_length) ≡ pos long.n
      as_number = to_z-of_z w32 x.batch_length fits ∙ long.is

      bound : long.n < 2 ^ 31
      bound = subst (λ (y : ℤ). mag y < 2 ^ 31) long.is fits.sfits

      pub total_casts : T (non_neg (to_z w32 (of_z w32 x.batch_length))) × Fits w64 (nat_abs (to_z w32 (of_z w32 x.batch_length)))
      total_casts = rw as_number (tt, record { fits = omega (arith, bound) })

      pub total_adds : Fits w64 (12 + nat_abs (to_z w32 (of_z w32 x.batch_length)))
      total_adds = rw as_number (record { fits = omega (arith, bound) })

      pub frame_short : {n : ℕ} → no n ≡ version_at s p → more 17 ≡ frame_at s at
      frame_short g =
          frame_is s at (short lead.within length_is long.enough (version_past s at (sym (g ∙ ap (version_at s) lead.next))))

      module _ (y : Version) (q : ℕ) (f : ok y q ≡ version_at s p) where
        version : VersionIs s at y
        version = version_is s at (sym (f ∙ ap (version_at s) lead.next))

        pub place_within : at ≤ length s
        place_within = omega (arith, version.within)

        pub frame_unknown : (of_z w8 y.magic ≡ 2 → ⊥) → refused 3 ≡ frame_at s at
        frame_unknown h = frame_is s at (unknown version.within length_is long.enough (rw version.magic (bits_other w8 2 y.magic h)))

        module _ (m : of_z w8 y.magic ≡ 2) (fits' : SFits w8 y.magic) where
          magic_is : number_in table.magic s at ≡ pos 2
          magic_is = version.magic ∙ bits_number w8 2 y.magic (omega arith) fits' m

          total_nat : 12 + nat_abs (to_z w32 (of_z w32 x.batch_length)) ≡ 12 + long.n
          total_nat = ap (λ (y : ℤ). 12 + nat_abs y) as_number

          pub frame_lacks : length s - at < 12 + nat_abs (to_z w32 (of_z w32 x.batch_length)) → more (12 + nat_abs (to_z w32 (of_z w32 x.batch_length))) ≡ frame_at s at
          frame_lacks h =
              let room : length s < at + (12 + long.n) = omega (arith, total_nat, place_within) in
              ap more total_nat ∙ frame_is s at (lacking version.within length_is long.enough magic_is room)

          pub frame_got : 12 + nat_abs (to_z w32 (of_z w32 x.batch_length)) ≤ length s - at → SFits w64 x.base_offset → SFits w32 y.partition_leader_epoch
              → accepted (record {
                base_offset = to_z w64 (of_z w64 x.base_offset);
                partition_leader_epoch = to_z w32 (of_z w32 y.partition_leader_epoch);
                total = 12 + nat_abs (to_z w32 (of_z w32 x.batch_length));
              }) ≡ frame_at s at
          frame_got h fits₁ fits₂ =
              let room : at + (12 + long.n) ≤ length s = omega (arith, total_nat, place_within) in
              let base = to_z-of_z w64 x.base_offset fits₁ ∙ sym lead.base_offset_lem in
              let epoch = to_z-of_z w32 y.partition_leader_epoch fits₂ ∙ sym version.epoch in
              (λ i. accepted (record { base_offset = base i; partition_leader_epoch = epoch i; total = total_nat i }))
              ∙ frame_is s at (there version.within length_is long.enough magic_is room)

-- what `read_frame` is proved by
pub ruleset frames = (frame_few, frame_low, frame_short, frame_unknown, total_casts, total_adds, place_within, frame_lacks, frame_got)

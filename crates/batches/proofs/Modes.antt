-- The modes part only at the marker: what is opened before it is the same, and the numbers of a marker are later ones.
-- Assumes nothing.
use Prim.Native.Nat.{ℕ, ◌+◌, ◌<◌}
use mathlib.Core.Path.{◌≡◌, refl, sym, ap, ◌∙◌}
use mathlib.Core.Bool.{Bool, true, false}
use mathlib.Core.List.{List}
use native.Mathlib.Omega.{arith}
use lib.Dec.{eqb}
use lib.ListN.{take, drop}
use Rattle.primitives.specs.Step.{Step, ok, no, map_step}
use Rattle.primitives.proofs.Steps.{map_ok}
use Rattle.primitives.proofs.Picks.{picked}
use Rattle.primitives.proofs.Windows.{big_window}
use Rattle.crc32c.specs.Crc.{crc32c}
use Rattle.layout.specs.declared.ControlMode.{ControlMode}
use Rattle.layout.specs.Table.{table}
use Rattle.layout.specs.Batch.{Fields, Marker, control}
use Rattle.layout.specs.Format.{grammar_of}
use Rattle.opening.specs.Judgement.{Judged, Judgement, more, refused, accepted, apart, unsigned_in, attributes_in, fields_in, total_at, opened_at, content_at, way_of}
use Rattle.opening.specs.Opened.{Known, known_in, KnownAt, known_at, open_by, open_at, judged_as, judged_from}
use Rattle.opening.proofs.Judging.{judged_by_opening, opened_inside}
use Rattle.opening.proofs.Verdicts.{more_not_accepted, more_not_refused, refused_not_accepted, same_accepted}
use Rattle.markers.proofs.Forms.{forms_lawful}
use Rattle.markers.proofs.Bare.{bare_length}
use Rattle.markers.proofs.Keyed.{keyed_least}
use Rattle.batches.specs.Statements.{ModesAgree, EarlyAgree, FormsApart}
use Rattle.batches.proofs.Numbers.{late_least}
use Rattle.batches.proofs.Sizes.{body_rest}

-- ---- what was opened has the control bit of the list

known_control : (w : List ℕ) (at : ℕ) {k : Known} {p : ℕ} → known_in w at ≡ ok k p → (attributes_in w at).control ≡ k.control
unfolding known_in
known_control w at e =
    let known : ℕ → Known = λ n. record { fields = fields_in w at; control = (attributes_in w at).control; count = n } in
    let (_, i) = picked (eqb (unsigned_in table.crc w at) (crc32c (drop (at + 21) w))) (map_step known (opened_at w at)) 4 e in
    let (_, _, w) = map_ok known (opened_at w at) i in
    ap (λ (k : Known). k.control) w

control_at : (total : ℕ) (w : List ℕ) (at : ℕ) (x : Step ℕ Known) (o : KnownAt) → known_in w at ≡ x → known_at total x ≡ accepted o
    → ((attributes_in w at).control ≡ o.known.control) × (total ≡ o.total)
control_at total w at (ok k p) o e f =
    let is = same_accepted f in
    (known_control w at e ∙ ap (λ (y : KnownAt). y.known.control) is, ap (λ (y : KnownAt). y.total) is)
control_at total w at (no n) o e f = refused_not_accepted f

opened_control : (s : List ℕ) (at : ℕ) (y : Judged ℕ) (o : KnownAt) → open_by s at y ≡ accepted o
    → (attributes_in (take (at + o.total) s) at).control ≡ o.known.control
opened_control s at (more n) o e = more_not_accepted e
opened_control s at (refused n) o e = refused_not_accepted e
opened_control s at (accepted total) o e =
    let (same, is) = control_at total (take (at + total) s) at _ o refl e in
    ap (λ (n : ℕ). (attributes_in (take (at + n) s) at).control) (sym is) ∙ same

-- ---- both modes

module _ (mode mode' : ControlMode) (s : List ℕ) (at first : ℕ) where
  agree_from : (y : Judged KnownAt) → open_at s at ≡ y → (attributes_in s at).control ≡ false
      → judged_from (way_of mode) s at first y ≡ judged_from (way_of mode') s at first y
  agree_from (more n) e h = refl
  agree_from (refused n) e h = refl
  agree_from (accepted o) e h =
      let i = opened_inside s at o e in
      let cut : unsigned_in table.attributes (take (at + o.total) s) at ≡ unsigned_in table.attributes s at
      = big_window 2 (at + o.total) s (at + 21) (omega (arith, i.fixed)) in
      let c : o.known.control ≡ false = sym (opened_control s at (total_at s at) o e) ∙ ap (λ (a : ℕ). (apart a).control) cut ∙ h in
      rw c

  -- a marker is judged late
  late_only : (x : Fields) (total : ℕ) (w : List ℕ) (p n : ℕ) (y : Step ℕ Marker) → way_of mode w p ≡ y
      → (judged_as x first total (map_step control y) ≡ more n → ⊥) × (n < 8 → judged_as x first total (map_step control y) ≡ refused n → ⊥)
  late_only x total w p n (ok m q) e = (λ f. more_not_accepted (sym f), λ l f. refused_not_accepted (sym f))
  late_only x total w p n (no k) e =
      (λ f. more_not_refused (sym f), λ l f. let same : k ≡ n = cc in omega (arith, late_least ((forms_lawful mode).late w p k e)))

  abbrev Early : ℕ → Judgement → Judgement → Type 0
  Early n j j' = (j ≡ more n → j' ≡ more n) × (n < 8 → j ≡ refused n → j' ≡ refused n)

  content_early : (x : Fields) (total : ℕ) (w : List ℕ) (k p n : ℕ) (t : Bool)
      → Early n (judged_as x first total (content_at (way_of mode) t w k p)) (judged_as x first total (content_at (way_of mode') t w k p))
  content_early x total w k p n true =
      let (a, b) = late_only x total w p n (way_of mode w p) refl in
      (λ e. absurd (a e), λ l e. absurd (b l e))
  content_early x total w k p n false = (λ e. e, λ l e. e)

  early_from : (n : ℕ) (y : Judged KnownAt) → Early n (judged_from (way_of mode) s at first y) (judged_from (way_of mode') s at first y)
  early_from n (more k) = (λ e. e, λ l e. e)
  early_from n (refused k) = (λ e. e, λ l e. e)
  early_from n (accepted o) =
      content_early o.known.fields o.total (take (at + o.total) s) o.known.count o.next n o.known.control

pub modes_agree : ModesAgree
modes_agree mode mode' s at first h =
    judged_by_opening (way_of mode) s at first ∙ agree_from mode mode' s at first (open_at s at) refl h ∙ sym (judged_by_opening (way_of mode') s at first)

pub early_agree : EarlyAgree
early_agree mode mode' s at first n =
    let is = judged_by_opening (way_of mode) s at first in
    let is' = judged_by_opening (way_of mode') s at first in
    let (a, b) = early_from mode mode' s at first n (open_at s at) in
    (λ e. is' ∙ a (sym is ∙ e), λ l e. is' ∙ b l (sym is ∙ e))

-- ---- no bytes are both

pub forms_apart : FormsApart
unfolding grammar_of
forms_apart strict strict' bs x x' m m' g h =
    omega (arith, body_rest g, body_rest h, bare_length g.holds, keyed_least strict' h.body m' h.holds)

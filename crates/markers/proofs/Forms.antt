-- Both modes are lawful: a marker that stands alone is refused, and all else is read as before. Assumes nothing.
use Prim.Native.Nat.{ℕ, ◌≤◌}
use mathlib.Core.Path.{◌≡◌, refl, sym, ap, ◌∙◌, subst}
use mathlib.Core.Bool.{Bool, true}
use mathlib.Core.Logic.{◌⊎◌, inl, inr}
use mathlib.Core.Option.{some, none-ne-some, some-injective}
use mathlib.Core.List.{List}
use native.Mathlib.Omega.{arith}
use lib.ListN.{length}
use Rattle.numbers.specs.Bytes.{Bytes}
use Rattle.numbers.specs.Exactly.{Exactly}
use Rattle.primitives.specs.Step.{Step, ok, no}
use Rattle.primitives.specs.Stands.{Encoding}
use Rattle.primitives.specs.Shifted.{moved_step}
use Rattle.primitives.proofs.Steps.{ok_not_no}
use Rattle.records.proofs.Refusals.{Refuses, refusal_within}
use Rattle.layout.specs.declared.ControlMode.{ControlMode}
use Rattle.layout.specs.Batch.{Marker}
use Rattle.layout.specs.Format.{MarkerBytes, KeyedBytes, grammar_of}
use Rattle.opening.specs.Judgement.{bare_marker_at, former_way_of, withdrawn, way_of}
use Rattle.opening.specs.Faults.{former_wrong_of, BareStands, WithdrawnWrong, wrong_of}
use Rattle.opening.specs.Statements.{Placeless, FaultsOf}
use Rattle.opening.proofs.MarkerFaults.{bare_marker_faults}
use Rattle.markers.specs.Forms.{written_control, writes_of, Reads, FormsLawful}
use Rattle.markers.proofs.Bare.{bare_sound, bare_complete, bare_ends, bare_refuses, bare_placeless}
use Rattle.markers.proofs.Keyed.{keyed_sound, keyed_complete, keyed_refuses, keyed_placeless, keyed_encodes, keyed_written, control_size_lem, keyed_least}
use Rattle.markers.proofs.KeyedFaults.{keyed_marker_faults}

-- ---- what is withdrawn, and what is not

abbrev Read : Step ℕ Marker → Type 0
Read x = (m : Marker) × (q : ℕ) × (x ≡ ok m q)

pub is_withdrawn : {x : Step ℕ Marker} (other : Step ℕ Marker) → Read x → withdrawn x other ≡ no 41
is_withdrawn other (m, q, e) = rw e

pub not_withdrawn : (x other : Step ℕ Marker) → (Read x → ⊥) → withdrawn x other ≡ other
not_withdrawn (ok m q) other h = absurd (h (m, q, refl))
not_withdrawn (no n) other h = refl

withdrawn_ok : (x other : Step ℕ Marker) {m : Marker} {q : ℕ} → withdrawn x other ≡ ok m q → other ≡ ok m q
withdrawn_ok (ok m q) other e = ok_not_no (sym e)
withdrawn_ok (no n) other e = e

-- nothing is read that was read and is withdrawn
withdrawn_all : (x : Step ℕ Marker) {m : Marker} {q : ℕ} → withdrawn x x ≡ ok m q → ⊥
withdrawn_all (ok m q) e = ok_not_no (sym e)
withdrawn_all (no n) e = ok_not_no (sym e)

pub withdrawn_no : (x other : Step ℕ Marker) {n : ℕ} → withdrawn x other ≡ no n → (Read x × (41 ≡ n)) ⊎ ((Read x → ⊥) × (other ≡ no n))
withdrawn_no (ok m q) other e = inl ((m, q, refl), cc)
withdrawn_no (no n) other e = inr (λ (m, q, f). ok_not_no (sym f), e)

withdrawn_moved : (x other : Step ℕ Marker) (k : ℕ)
    → withdrawn (moved_step (λ m. m) k x) (moved_step (λ m. m) k other) ≡ moved_step (λ m. m) k (withdrawn x other)
withdrawn_moved (ok m q) other k = refl
withdrawn_moved (no n) other k = refl

-- ---- the old rules, by the mode

pub former_refuses : (mode : ControlMode) (s : List ℕ) (p : ℕ) → Refuses (former_way_of mode s p)
unfolding former_way_of
former_refuses ControlMode.Bare = bare_refuses
former_refuses ControlMode.Keyed = keyed_refuses

former_placeless : (mode : ControlMode) → Placeless (former_way_of mode)
unfolding former_way_of
former_placeless ControlMode.Bare = bare_placeless
former_placeless ControlMode.Keyed = keyed_placeless

former_faults : (mode : ControlMode) → FaultsOf (former_way_of mode) (former_wrong_of mode)
unfolding former_way_of former_wrong_of
former_faults ControlMode.Bare = bare_marker_faults
former_faults ControlMode.Keyed = keyed_marker_faults

-- ---- the new ones

late : (mode : ControlMode) (s : List ℕ) (p n : ℕ) → way_of mode s p ≡ no n → ((8 ≤ n) × (n ≤ 13)) ⊎ (n ≡ 41)
unfolding way_of
late mode s p n e =
    elim (withdrawn_no (bare_marker_at s p) (former_way_of mode s p) e) [
      | inl x ↦ inr (sym x.1)
      | inr x ↦ inl (refusal_within (former_refuses mode s p) x.1)
    ]

placeless : (mode : ControlMode) → Placeless (way_of mode)
unfolding way_of
placeless mode front s p =
    (λ i. withdrawn (bare_placeless front s p i) (former_placeless mode front s p i))
    ∙ withdrawn_moved (bare_marker_at s p) (former_way_of mode s p) (length front)

module _ (mode : ControlMode) (s : List ℕ) (p : ℕ) (b : Bytes s) (l : p ≤ length s) where
  read : BareStands s p → Read (bare_marker_at s p)
  read (m, x) = (m, length s, bare_complete x.stands x.encodes)

  stands : Read (bare_marker_at s p) → BareStands s p
  stands (m, q, e) =
      let (x, end) = bare_sound s p q m b e in
      (m, subst (λ (q : ℕ). Encoding MarkerBytes s p q m) end x)

  told : {n : ℕ} → withdrawn (bare_marker_at s p) (former_way_of mode s p) ≡ no n → WithdrawnWrong (former_wrong_of mode) s p n
  told {n} e =
      elim (withdrawn_no (bare_marker_at s p) (former_way_of mode s p) e) [
        | inl x ↦ subst (WithdrawnWrong (former_wrong_of mode) s p) x.1 (WithdrawnWrong.bare (stands x.0))
        | inr x ↦ WithdrawnWrong.as_before (λ y. x.0 (read y)) ((former_faults mode s p n b l).0 x.1)
      ]

  is_told : {n : ℕ} → WithdrawnWrong (former_wrong_of mode) s p n → withdrawn (bare_marker_at s p) (former_way_of mode s p) ≡ no n
  is_told (WithdrawnWrong.bare x) = is_withdrawn _ (read x)
  is_told {n} (WithdrawnWrong.as_before h w) =
      not_withdrawn (bare_marker_at s p) (former_way_of mode s p) (λ y. h (stands y)) ∙ (former_faults mode s p n b l).1 w

faults : (mode : ControlMode) → FaultsOf (way_of mode) (wrong_of mode)
unfolding way_of wrong_of
faults mode s p n b l = (told mode s p b l, is_told mode s p b l)

reads : (mode : ControlMode) → Reads (grammar_of mode) (way_of mode)
unfolding grammar_of way_of former_way_of
reads ControlMode.Bare =
    record {
      sound = λ s p q m b e. absurd (withdrawn_all (bare_marker_at s p) e);
      complete = λ strict s p bs m x g. absurd g;
    }
reads ControlMode.Keyed =
    record {
      sound = λ s p q m b e. keyed_sound s p q m b (withdrawn_ok (bare_marker_at s p) _ e);
      complete = λ strict s p bs m x g.
          let none : Read (bare_marker_at s p) → ⊥ = λ (k, q, e). omega (arith, bare_ends s p q k e, keyed_least strict bs m g, x.end) in
          not_withdrawn (bare_marker_at s p) _ none ∙ keyed_complete strict s p bs m x g;
    }

strict : (mode : ControlMode) (bs : List ℕ) (m : Marker) → Exactly (grammar_of mode true bs m) (writes_of mode m ≡ some bs)
unfolding grammar_of writes_of
strict ControlMode.Bare bs m = (λ g. absurd g, λ e. none-ne-some bs e)
strict ControlMode.Keyed bs m = (
  λ g. ap some (sym (keyed_written bs m g)),
  λ e. subst (λ (bs : List ℕ). KeyedBytes true bs m) (some-injective (written_control m) bs e) (keyed_encodes m),
)

shortest : (mode : ControlMode) (strict : Bool) (bs : List ℕ) (m : Marker) → grammar_of mode strict bs m
    → (writes_of mode m ≡ some (written_control m)) × (length (written_control m) ≤ length bs)
unfolding grammar_of writes_of
shortest ControlMode.Bare strict bs m g = absurd g
shortest ControlMode.Keyed strict bs m g = (refl, omega (arith, control_size_lem m, keyed_least strict bs m g))

pub forms_lawful : FormsLawful
forms_lawful mode =
    record {
      reads = reads mode;
      late = late mode;
      faults = faults mode;
      placeless = placeless mode;
      strict = strict mode;
      shortest = shortest mode;
    }

-- ---- the one form

-- whichever mode writes, it writes the same
pub writes_one : (mode : ControlMode) (m : Marker) (bs : List ℕ) → writes_of mode m ≡ some bs → bs ≡ written_control m
unfolding writes_of
writes_one ControlMode.Bare m bs e = absurd (none-ne-some bs e)
writes_one ControlMode.Keyed m bs e = sym (some-injective (written_control m) bs e)

-- Entries that are taken, and what is given for them: what is given for the batch that they ask for. Assumes nothing.
use Prim.Native.Nat.{ℕ}
use mathlib.Core.Path.{◌≡◌, refl, sym, ap, ◌∙◌}
use mathlib.Core.Bool.{Bool, true, false, true≢false}
use mathlib.Core.Option.{Option, none, some}
use mathlib.Core.List.{List}
use lib.IntN.{ℤ, pos}
use lib.ListN.{get_or}
use Rattle.numbers.specs.Pick.{pick}
use Rattle.numbers.proofs.Picks.{both_hold}
use Rattle.records.specs.Rows.{Tables}
use Rattle.layout.specs.declared.ControlMode.{ControlMode}
use Rattle.layout.specs.Batch.{Fields, Marker}
use Rattle.writing.specs.Answers.{refused}
use Rattle.opening.specs.Judgement.{is}
use Rattle.markers.specs.Forms.{writes_of}
use Rattle.batches.specs.Writer.{Wanted, marker, batch_given}
use Rattle.batches.proofs.Again.{none_not_some}
use Rattle.oddrafisk.specs.Entries.{is0or1, widths_fit, flags_fit, fields_fit, fields_of, kind_wanted, bare_asked, AskedBatch, asked_with, entries_asked}
use Rattle.oddrafisk.specs.Promises.{kind_given}

-- ---- which way a test went

pub pick_some : {A : Type 0} (t : Bool) (x : Option A) {a : A} → pick t x none ≡ some a → (t ≡ true) × (x ≡ some a)
pick_some true x e = (refl, e)
pick_some false x e = none_not_some e

-- ---- what entries ask for

-- entries that are taken, one by one
pub record Taken (e : List ℤ) (b : AskedBatch) : Type 0 where
  pub type_fits : is0or1 (get_or e 8 (pos 0)) ≡ true
  pub flag_fits : is0or1 (get_or e 9 (pos 0)) ≡ true
  pub fields : b.fields ≡ fields_of e
  pub kind : kind_wanted (get_or e 10 (pos 0)) (get_or e 11 (pos 0)) ≡ some b.wanted

asked_with_lem : (x : Fields) (w : Option Wanted) {b : AskedBatch} → asked_with x w ≡ some b → (b.fields ≡ x) × (w ≡ some b.wanted)
asked_with_lem x none e = none_not_some e
asked_with_lem x (some w) {b} e =
    let same : record { fields = x; wanted = w } ≡ b = cc in
    (ap (λ (a : AskedBatch). a.fields) (sym same), ap (λ (a : AskedBatch). some a.wanted) same)

pub taken : (e : List ℤ) {b : AskedBatch} → entries_asked e ≡ some b → Taken e b
unfolding entries_asked
taken e {b} is =
    let (fits, asks) = pick_some (fields_fit e) _ is in
    let (fields, kind) = asked_with_lem (fields_of e) _ asks in
    let (_, flags) = both_hold (widths_fit e) (flags_fit e) fits in
    let (type, rest) = both_hold (is0or1 (get_or e 8 (pos 0))) _ flags in
    let (flag, _) = both_hold (is0or1 (get_or e 9 (pos 0))) _ rest in
    record { type_fits = type; flag_fits = flag; fields = fields; kind = kind }

-- ---- what is given for them

marker_in_bare : (x : Fields) (m : Marker) (t : Tables) (s : List ℕ) → batch_given ControlMode.Bare x 0 (marker m) t s ≡ refused 41
unfolding batch_given writes_of
marker_in_bare x m t s = refl

-- the kind is a marker's, whichever it is
marks : (a b : Bool) (k l : Marker) (other : Option Wanted) {w : Wanted} → pick a (some (marker k)) (pick b (some (marker l)) other) ≡ some w
    → pick a true b ≡ true → (m : Marker) × (w ≡ marker m)
marks true b k l other {w} e h = let same : marker k ≡ w = cc in (k, sym same)
marks false true k l other {w} e h = let same : marker l ≡ w = cc in (l, sym same)
marks false false k l other e h = absurd (true≢false (sym h))

pub kind_given_lem : (mode : ControlMode) (e : List ℤ) {b : AskedBatch} (t : Tables) (s : List ℕ) → entries_asked e ≡ some b
    → kind_given mode e t s ≡ batch_given mode b.fields 0 b.wanted t s
kind_given_lem ControlMode.Keyed e t s w = rw w refl
kind_given_lem ControlMode.Bare e {b} t s w = by (bare_asked ControlMode.Bare z) refl
  where
    z : ℤ
    z = get_or e 10 (pos 0)

    by : (r : Bool) → bare_asked ControlMode.Bare z ≡ r → kind_given ControlMode.Bare e t s ≡ batch_given ControlMode.Bare b.fields 0 b.wanted t s
    by true h =
        let (m, is) = marks (is 1 z) (is 2 z) _ _ _ (taken e w).kind h in
        rw h (sym (ap (λ (x : Wanted). batch_given ControlMode.Bare b.fields 0 x t s) is ∙ marker_in_bare b.fields m t s))
    by false h = rw (h, w) refl

-- Bytes that are compared with what is left of a list, and a marker that stands as it is written. Assumes nothing.
use Prim.Native.Nat.{ℕ, ◌-◌, ◌≤◌}
use mathlib.Core.Path.{◌≡◌, sym, ap, ◌∙◌, subst}
use mathlib.Core.Bool.{Bool, true, false}
use mathlib.Core.List.{List, ◌++◌, append-nil}
use native.Mathlib.Omega.{arith}
use lib.Dec.{eqb}
use lib.ListN.{length, take, drop, length-drop}
use lib.Pointwise.{pointwise, bytes_decides}
use lib.Seq.{take_all, drop-length}
use Rattle.numbers.specs.Exactly.{Exactly}
use Rattle.primitives.specs.Step.{ok, no}
use Rattle.primitives.specs.Stands.{Stands}
use Rattle.primitives.proofs.Steps.{ok_not_no}
use Rattle.primitives.proofs.Places.{all_left}
use Rattle.layout.specs.declared.ControlMode.{ControlMode}
use Rattle.layout.specs.Batch.{Marker}
use Rattle.layout.specs.Format.{grammar_of}
use Rattle.opening.specs.Judgement.{keyed_marker_at}
use Rattle.markers.specs.Forms.{written_control}
use Rattle.markers.specs.Promises.{StandsAlone, StandsPromise}
use Rattle.markers.proofs.Keyed.{keyed_complete, keyed_encodes, keyed_written}

module _ (bytes s : List ℕ) (at : ℕ) where
  abbrev pub Stand : Type 0
  Stand = Stands s at (length s) bytes

  -- what is left is the bytes, or is not
  pub compared : (rest : List ℕ) → rest ≡ take (length s - at) (drop at s) → at ≤ length s → (r : Bool)
      → r ≡ pointwise eqb rest bytes → Exactly (r ≡ true) Stand
  compared rest f l r e =
      let all : rest ≡ drop at s = f ∙ take_all (length s - at) (drop at s) (omega (arith, length-drop at s)) in
      let (told, tells) = bytes_decides rest bytes in (
        λ t.
            let same : drop at s ≡ bytes = sym all ∙ told (sym e ∙ t) in
            record {
              split = same ∙ sym (append-nil bytes) ∙ ap (λ (t : List ℕ). bytes ++ t) (sym (drop-length s));
              end = omega (arith, length-drop at s, ap (λ (l : List ℕ). length l) same);
              within = omega arith;
            },
        λ x. e ∙ tells (all ∙ all_left x),
      )

-- ---- a keyed marker

module _ (s : List ℕ) (at : ℕ) where
  written_alone : (m : Marker) → Stands s at (length s) (written_control m) → StandsAlone ControlMode.Keyed s at
  unfolding grammar_of
  written_alone m x = (m, record { bytes = written_control m; stands = x; encodes = keyed_encodes m })

  alone_written : (x : StandsAlone ControlMode.Keyed s at) → Stands s at (length s) (written_control x.0)
  unfolding grammar_of
  alone_written (m, x) = subst (Stands s at (length s)) (keyed_written x.bytes m x.encodes) x.stands

  -- what stands there as it is written is read
  alone_read : (x : StandsAlone ControlMode.Keyed s at) → keyed_marker_at s at ≡ ok x.0 (length s)
  unfolding grammar_of
  alone_read (m, x) = keyed_complete true s at x.bytes m x.stands x.encodes

  module _ (m : Marker) (p : ℕ) (e : ok m p ≡ keyed_marker_at s at) where
    pub read_stands : (bytes : List ℕ) → bytes ≡ written_control m → (r : Bool) → Exactly (r ≡ true) (Stands s at (length s) bytes)
        → StandsPromise ControlMode.Keyed s at r
    read_stands bytes i r (told, tells) = (
      λ t. written_alone m (subst (Stands s at (length s)) i (told t)),
      λ x.
          let both : ok m p ≡ ok x.0 (length s) = e ∙ alone_read x in
          let same : m ≡ x.0 = cc in
          tells (subst (Stands s at (length s)) (ap written_control (sym same) ∙ sym i) (alone_written x)),
    )

  pub unread_stands_not : {n : ℕ} → no n ≡ keyed_marker_at s at → StandsPromise ControlMode.Keyed s at false
  unread_stands_not e = (
    λ h. absurd (let v : ◌≡◌ {A = ℕ} 0 1 = cc in omega arith),
    λ x. absurd (ok_not_no (sym (alone_read x) ∙ sym e)),
  )

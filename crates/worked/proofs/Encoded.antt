-- What is judged to be a batch is one by the format; so the judgement alone is left to compute. Assumes nothing.
use Prim.Native.Nat.{ℕ, ◌+◌}
use mathlib.Core.Path.{◌≡◌, refl, ap, ◌∙◌, subst⁻¹}
use mathlib.Core.Bool.{Bool, true, false}
use mathlib.Core.List.{List, [], ◌∷◌, ◌++◌, append-nil, map}
use native.Mathlib.Nat.{zero-add}
use native.Mathlib.Omega.{arith}
use borrow.Author.Tests.{ltb-true}
use lib.Dec.{ltb}
use lib.ListN.{length, drop}
use lib.Seq.{drop-length}
use Rattle.numbers.specs.Bytes.{Bytes}
use Rattle.numbers.specs.Pick.{pick}
use Rattle.numbers.proofs.Picks.{both_hold}
use Rattle.numbers.proofs.AllBytes.{no_bytes, byte_in_front}
use Rattle.primitives.specs.Stands.{Encoding}
use Rattle.examples.specs.Examples.{Example}
use Rattle.records.specs.Format.{Record}
use Rattle.records.specs.Statements.{Each}
use Rattle.layout.specs.Batch.{Batch}
use Rattle.layout.specs.Format.{Grammar, BatchBytesWith}
use Rattle.layout.specs.Worked.{example_batch}
use Rattle.opening.specs.Judgement.{more, refused, accepted, Judgement, Control, judge_with}
use Rattle.markers.specs.Forms.{Reads}
use Rattle.batches.specs.Placed.{shown_batch}
use Rattle.batches.proofs.Sound.{sound_with}
use Rattle.worked.specs.Worked.{EncodedAs}

-- ---- whether all are bytes

unfoldable pub all_bytes : List ℕ → Bool
all_bytes [] = true
all_bytes (b ∷ rest) = pick (ltb b 256) (all_bytes rest) false

all_bytes_lem : (s : List ℕ) → all_bytes s ≡ true → Bytes s
unfolding all_bytes
all_bytes_lem [] e = no_bytes
all_bytes_lem (b ∷ rest) e =
    let (small, others) = both_hold (ltb b 256) (all_bytes rest) e in
    byte_in_front b rest (ltb-true b 256 small) (all_bytes_lem rest others)

-- ---- what stands in all of a list

whole : {A : Type 0} (G : List ℕ → A → Type 0) (s : List ℕ) (q : ℕ) (a : A) → q ≡ length s → Encoding G s 0 q a → G s a
whole G s q a h e =
    let bs = e.bytes in
    let same : s ≡ bs = e.stands.split ∙ ap (λ (n : ℕ). bs ++ drop n s) h ∙ ap (λ (r : List ℕ). bs ++ r) (drop-length s) ∙ append-nil bs in
    subst⁻¹ (λ (l : List ℕ). G l a) same e.encodes

-- ---- what is told of a batch

-- the batch that is shown, how many bytes it has, and whether all are bytes
pub data Told : Type 0 where
  told : Batch Record → ℕ → Bool → Told
  untold : Told

abbrev told_of : List ℕ → Judgement → Told
told_of s (more n) = untold
told_of s (refused n) = untold
told_of s (accepted b) = told (shown_batch s b) b.consumed (all_bytes s)

untold_not : {x : Batch Record} {n : ℕ} {t : Bool} → untold ≡ told x n t → ⊥
untold_not g = let z : ◌≡◌ {A = ℕ} 0 1 = cc in omega arith

told_encodes : {grammar : Grammar} {way : Control} → Reads grammar way → (s : List ℕ) (x : Batch Record) (j : Judgement)
    → judge_with way s 0 0 ≡ j → told_of s j ≡ told x (length s) true → BatchBytesWith grammar false s x
told_encodes reads s x (more n) e f = absurd (untold_not f)
told_encodes reads s x (refused n) e f = absurd (untold_not f)
told_encodes {grammar} {way} reads s x (accepted b) e f =
    let shows : shown_batch s b ≡ x = cc in
    let ends : b.consumed ≡ length s = cc in
    let bytes : all_bytes s ≡ true = cc in
    let there = (sound_with grammar way reads s 0 0 b (all_bytes_lem s bytes) e).0 in
    rw (← shows) (whole (BatchBytesWith grammar false) s (0 + b.consumed) (shown_batch s b) (zero-add b.consumed ∙ ends) there)

-- ---- each of some batches

abbrev pub told_in : Control → Example → Told
told_in way e = told_of e.bytes (judge_with way e.bytes 0 0)

abbrev pub told_due : Example → Told
told_due e = told (example_batch e) (length e.bytes) true

pub each_encodes : {grammar : Grammar} {way : Control} → Reads grammar way → (es : List Example) → map (told_in way) es ≡ map told_due es
    → EncodedAs grammar es
unfolding Each
each_encodes reads [] h = tt
each_encodes {way = way} reads (e ∷ rest) h =
    let first : told_in way e ≡ told_due e = cc in
    let others : map (told_in way) rest ≡ map told_due rest = cc in
    (told_encodes reads e.bytes (example_batch e) (judge_with way e.bytes 0 0) refl first, each_encodes reads rest others)

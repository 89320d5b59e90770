-- What is put into an output, part after part. Assumes nothing.
use Prim.Native.Nat.{ℕ, ◌+◌, ◌-◌, ◌^◌, ◌≤◌, ◌<◌}
use mathlib.Core.Path.{◌≡◌, sym, ap, ◌∙◌}
use mathlib.Core.List.{List, [], ◌∷◌, ◌++◌}
use native.Mathlib.Omega.{arith}
use lib.IntN.{ℤ, pos, negsuc}
use lib.ListN.{length, take, drop, length-append, length-drop}
use lib.Seq.{take-append_seam, length-take-le}
use mir.Syntax.{w32, w64}
use mir.Val.{SFits, to_z, of_z}
use mir.ValLaws.{to_z_pos, to_z-of_z}
use Rattle.std.proofs.Common as std
use Rattle.std.proofs.Common.{Some, None}
use Rattle.numbers.specs.declared.Encoded.{Encoded}
use Rattle.numbers.specs.Format.{shortest}
use Rattle.numbers.specs.Answers.{in_ten}
use Rattle.numbers.specs.Pen.{Pen, pen, emit}
use Rattle.numbers.specs.Promises.{PutPromise}
use Rattle.numbers.proofs.Pens.{put_emits, emit_emit}
use Rattle.primitives.specs.declared.Span.{Span as Declared}
use Rattle.primitives.specs.Reading.{bytes_of, shown}
use Rattle.records.specs.Inside.{NullableInside}
use Rattle.records.specs.Written.{written_bytes, written_nullable}
use Rattle.asking.specs.Answers.{span_of}

-- ---- numbers

module _ (n : ℤ) (e : Encoded) (h : e ≡ in_ten (shortest n)) where
  pub encoded_inside : e.len ≤ length e.bytes
  encoded_inside =
      rw (ap (λ (x : Encoded). x.len) h, ap (λ (x : Encoded). length x.bytes) h, length-append (shortest n)) (omega arith)

  pub encoded_taken : take e.len e.bytes ≡ shortest n
  encoded_taken = ap (λ (x : Encoded). take x.len x.bytes) h ∙ take-append_seam (shortest n) _

-- a length as a signed number is the length
pub length_put_lem : (n : ℕ) (p q : Pen) → n < 2 ^ 63 → q ≡ emit (shortest (to_z w64 n)) p → q ≡ emit (shortest (pos n)) p
length_put_lem n p q h e = e ∙ ap (λ (z : ℤ). emit (shortest z) p) (to_z_pos w64 n h)

-- ---- one after the other

pub two : (a b : List ℕ) (p q r : Pen) → q ≡ emit a p → r ≡ emit b q → r ≡ emit (a ++ b) p
two a b p q r e f = f ∙ ap (emit b) e ∙ emit_emit a b p

pub three : (a b c : List ℕ) (p q r t : Pen) → q ≡ emit a p → r ≡ emit b q → t ≡ emit c r → t ≡ emit (a ++ (b ++ c)) p
three a b c p q r t e f g = two a (b ++ c) p q t e (two b c q r t f g)

pub four : (a b c d : List ℕ) (p q r t u : Pen) → q ≡ emit a p → r ≡ emit b q → t ≡ emit c r → u ≡ emit d t
    → u ≡ emit (a ++ (b ++ (c ++ d))) p
four a b c d p q r t u e f g h = two a (b ++ (c ++ d)) p q u e (three b c d q r t u f g h)

-- ---- the parts of a record

pub span_put : (s : List ℕ) (start len : ℕ) (p : Pen) (out : List ℕ) (at next : ℕ) (output : List ℕ) → start + len ≤ length s
    → pen at out ≡ emit (shortest (pos len)) p
    → PutPromise (take (start + len - start) (drop start s)) out at (record { next = next; output = output })
    → pen next output ≡ emit (written_bytes (bytes_of s (record { start = start; len = len }))) p
unfolding written_bytes
span_put s start len p out at next output inside e h =
    let part : take (start + len - start) (drop start s) ≡ take len (drop start s)
    = let n : start + len - start ≡ len = omega arith in ap (λ (k : ℕ). take k (drop start s)) n in
    let bytes : List ℕ = take len (drop start s) in
    let long : length bytes ≡ len = length-take-le len (drop start s) (rw length-drop (omega arith)) in
    let put : pen next output ≡ emit bytes (pen at out)
    = put_emits at out _ next output h ∙ ap (λ (x : List ℕ). emit x (pen at out)) part in
    two (shortest (pos len)) bytes p (pen at out) (pen next output) e put
    ∙ ap (λ (k : ℕ). emit (shortest (pos k) ++ bytes) p) (sym long)

pub null_put : (s : List ℕ) (x : std.Option Declared) (p q : Pen) → x ≡ None → q ≡ emit (shortest (negsuc 0)) p
    → q ≡ emit (written_nullable (shown s (span_of x))) p
null_put s x p q e f = rw e f

pub shown_put : (s : List ℕ) (x : std.Option Declared) (bytes : Declared) (p q : Pen) → x ≡ Some bytes
    → q ≡ emit (written_bytes (bytes_of s (record { start = bytes.start; len = bytes.len }))) p
    → q ≡ emit (written_nullable (shown s (span_of x))) p
shown_put s x bytes p q e f = rw e f

pub shown_inside : (s : List ℕ) (x : std.Option Declared) (bytes : Declared) → NullableInside s (span_of x) → x ≡ Some bytes
    → bytes.start + bytes.len ≤ length s
shown_inside s x bytes h e = rw e at h

pub start_put : (size : ℕ) (t o : ℤ) → SFits w64 t → SFits w32 o → (p q r s u : Pen)
    → q ≡ emit (shortest (pos size)) p → r ≡ emit (0 ∷ []) q
    → s ≡ emit (shortest (to_z w64 (of_z w64 t))) r → u ≡ emit (shortest (to_z w32 (of_z w32 o))) s
    → u ≡ emit (shortest (pos size) ++ ((0 ∷ []) ++ (shortest t ++ shortest o))) p
start_put size t o fits fits' p q r s u e h f g =
    four (shortest (pos size)) (0 ∷ []) (shortest t) (shortest o) p q r s u e h
    (f ∙ ap (λ (z : ℤ). emit (shortest z) r) (to_z-of_z w64 t fits))
    (g ∙ ap (λ (z : ℤ). emit (shortest z) s) (to_z-of_z w32 o fits'))

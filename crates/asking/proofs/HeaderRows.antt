-- A header's row, as the machine reads it. Assumes nothing.
use Prim.Native.Nat.{ℕ, ◌+◌, ◌-◌, ◌*◌, ◌≤◌}
use mathlib.Core.Path.{◌≡◌, refl, sym, ap, ◌∙◌}
use mathlib.Core.Bool.{Bool, true, false}
use mathlib.Core.List.{List}
use native.Mathlib.Omega.{arith}
use native.Mathlib.Nat.{add-zero}
use lib.IntN.{ℤ, pos}
use lib.ListN.{length, take, drop, get_or}
use mir.Syntax.{w64}
use mir.Val.{SFits, to_z, of_z}
use mir.ValLaws.{to_z-of_z}
use Rattle.numbers.specs.Pick.{pick}
use Rattle.primitives.specs.declared.Span as declared
use Rattle.primitives.specs.Step.{Step, ok, no}
use Rattle.primitives.specs.Reading.{Span}
use Rattle.primitives.specs.Answers.{span_as_read}
use Rattle.utf8.specs.Judgement.{is_utf8}
use Rattle.records.specs.Judgement.{HeaderSpans}
use Rattle.records.specs.Rows.{cell}
use Rattle.asking.specs.Asked.{asked_bytes, header_asked}
use Rattle.asking.specs.Answers.{header_of}
use Rattle.asking.proofs.Accepted.{bytes_inside}
use Rattle.asking.proofs.Places.{placed, bytes_placed}

module _ (t : List ℤ) (s : List ℕ) (row : ℕ) where
  -- a number of the row as it is passed on
  abbrev passed : ℕ → ℤ
  passed i = to_z w64 (of_z w64 (get_or t i (pos 0)))

  abbrev Fits : ℕ → Type 0
  Fits i = SFits w64 (get_or t i (pos 0))

  module _ (f0 : Fits (row * 4)) (f1 : Fits (row * 4 + 1)) where
    key_is : {x : Step ℕ Span} → x ≡ asked_bytes (length s) (passed (row * 4)) (passed (row * 4 + 1)) 0 → (p : ℕ)
        → asked_bytes (length s) (cell 4 t row 0) (cell 4 t row 1) p ≡ placed p x
    key_is e p =
        bytes_placed (length s) (cell 4 t row 0) (cell 4 t row 1) p
        ∙ ap (placed p) (sym (e ∙ (λ i. asked_bytes (length s) (first i) (to_z-of_z w64 _ f1 i) 0)))
      where
        first : passed (row * 4) ≡ cell 4 t row 0
        first = to_z-of_z w64 _ f0 ∙ ap (λ (i : ℕ). get_or t i (pos 0)) (sym (add-zero (row * 4)))

    pub key_wrong : (n : ℕ) → no n ≡ asked_bytes (length s) (passed (row * 4)) (passed (row * 4 + 1)) 0 → no n ≡ header_asked t s row
    unfolding header_asked
    key_wrong n e = rw (key_is e row) refl

    module _ (k : declared.Span) (e : ok (span_as_read k) 0 ≡ asked_bytes (length s) (passed (row * 4)) (passed (row * 4 + 1)) 0) where
      pub key_inside : k.start + k.len ≤ length s
      key_inside = bytes_inside (length s) (cell 4 t row 0) (cell 4 t row 1) 0 (key_is e 0)

      module _ (f2 : Fits (row * 4 + 2)) (f3 : Fits (row * 4 + 3)) where
        value_is : {x : Step ℕ Span} → x ≡ asked_bytes (length s) (passed (row * 4 + 2)) (passed (row * 4 + 3)) 0
            → asked_bytes (length s) (cell 4 t row 2) (cell 4 t row 3) row ≡ placed row x
        value_is g =
            bytes_placed (length s) (cell 4 t row 2) (cell 4 t row 3) row
            ∙ ap (placed row) (sym (g ∙ (λ i. asked_bytes (length s) (to_z-of_z w64 _ f2 i) (to_z-of_z w64 _ f3 i) 0)))

        pub value_wrong : (n : ℕ) → no n ≡ asked_bytes (length s) (passed (row * 4 + 2)) (passed (row * 4 + 3)) 0 → no n ≡ header_asked t s row
        unfolding header_asked
        value_wrong n g = rw (key_is e row, value_is g) refl

        module _ (v : declared.Span) (g : ok (span_as_read v) 0 ≡ asked_bytes (length s) (passed (row * 4 + 2)) (passed (row * 4 + 3)) 0)
            (u : Bool) (h : u ≡ is_utf8 (take (k.start + k.len - k.start) (drop k.start s))) where
          judged : Bool → Step ℕ HeaderSpans
          judged z = pick z (ok (header_of (record { key = k; value = v })) (row + 1)) (no 22)

          header_is : judged u ≡ header_asked t s row
          unfolding header_asked judged
          header_is =
              let n : k.start + k.len - k.start ≡ k.len = omega arith in
              rw (key_is e row, value_is g) (ap judged (h ∙ ap (λ (m : ℕ). is_utf8 (take m (drop k.start s))) n))

          pub header_got : u ≡ true → ok (header_of (record { key = k; value = v })) (row + 1) ≡ header_asked t s row
          unfolding judged
          header_got i = ap judged (sym i) ∙ header_is

          pub header_not_utf8 : u ≡ false → no 22 ≡ header_asked t s row
          unfolding judged
          header_not_utf8 i = ap judged (sym i) ∙ header_is

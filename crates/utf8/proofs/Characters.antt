-- A character is an octet of a row with an octet in each range that the row asks for: constructor by constructor, in
-- both directions. Assumes nothing.
use Prim.Native.Nat.{ℕ}
use mathlib.Core.Option.{some}
use mathlib.Core.List.{List, [], ◌∷◌}
use Rattle.utf8.specs.Grammar.{Within, Char, utf8_1, utf8_2, utf8_3_E0, utf8_3_E1, utf8_3_ED, utf8_3_EE, utf8_4_F0, utf8_4_F1, utf8_4_F4}
use Rattle.utf8.specs.Judgement.{Range}
use Rattle.utf8.proofs.Rows.{Row, row_1, row_2, row_3_E0, row_3_E1, row_3_ED, row_3_EE, row_4_F0, row_4_F1, row_4_F4}

-- Octets that lie in ranges, one in each.
pub data Fits : List Range → List ℕ → Type 0 where
  all : Fits [] []
  more : {r : Range} {rs : List Range} {b : ℕ} {t : List ℕ} → Within r.first r.last b → Fits rs t → Fits (r ∷ rs) (b ∷ t)

pub data Begun : List ℕ → Type 0 where
  begun : {a : ℕ} {rs : List Range} {t : List ℕ} → Row a (some rs) → Fits rs t → Begun (a ∷ t)

pub char_begun : {c : List ℕ} → Char c → Begun c
char_begun (utf8_1 a) = begun (row_1 a) all
char_begun (utf8_2 a b) = begun (row_2 a) (more b all)
char_begun (utf8_3_E0 a b c) = begun (row_3_E0 a) (more b (more c all))
char_begun (utf8_3_E1 a b c) = begun (row_3_E1 a) (more b (more c all))
char_begun (utf8_3_ED a b c) = begun (row_3_ED a) (more b (more c all))
char_begun (utf8_3_EE a b c) = begun (row_3_EE a) (more b (more c all))
char_begun (utf8_4_F0 a b c d) = begun (row_4_F0 a) (more b (more c (more d all)))
char_begun (utf8_4_F1 a b c d) = begun (row_4_F1 a) (more b (more c (more d all)))
char_begun (utf8_4_F4 a b c d) = begun (row_4_F4 a) (more b (more c (more d all)))

pub begun_char : {a : ℕ} {rs : List Range} {t : List ℕ} → Row a (some rs) → Fits rs t → Char (a ∷ t)
begun_char (row_1 a) all = utf8_1 a
begun_char (row_2 a) (more b all) = utf8_2 a b
begun_char (row_3_E0 a) (more b (more c all)) = utf8_3_E0 a b c
begun_char (row_3_E1 a) (more b (more c all)) = utf8_3_E1 a b c
begun_char (row_3_ED a) (more b (more c all)) = utf8_3_ED a b c
begun_char (row_3_EE a) (more b (more c all)) = utf8_3_EE a b c
begun_char (row_4_F0 a) (more b (more c (more d all))) = utf8_4_F0 a b c d
begun_char (row_4_F1 a) (more b (more c (more d all))) = utf8_4_F1 a b c d
begun_char (row_4_F4 a) (more b (more c (more d all))) = utf8_4_F4 a b c d

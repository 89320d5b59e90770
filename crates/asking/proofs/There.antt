-- A row that the table has asks for what it says, and one that it does not have is wrong. Assumes nothing.
use Prim.Native.Nat.{ℕ, ◌/◌, ◌≤◌, ◌<◌}
use mathlib.Core.Path.{◌≡◌, refl, sym, ◌∙◌}
use mathlib.Core.List.{List}
use borrow.Author.Tests.{lt-ltb, le-ltb}
use lib.IntN.{ℤ}
use lib.ListN.{length}
use Rattle.primitives.specs.Step.{Step, no}
use Rattle.records.specs.Judgement.{HeaderSpans, Head}
use Rattle.records.specs.Rows.{Tables}
use Rattle.asking.specs.Asked.{header_asked, header_row_asked, head_asked, head_row_asked}

module _ (t : List ℤ) (s : List ℕ) (row : ℕ) where
  pub no_header : length t / 4 ≤ row → no 21 ≡ header_row_asked t s row
  unfolding header_row_asked
  no_header h = rw (le-ltb row (length t / 4) h) refl

  module _ (there : row < length t / 4) (x : Step ℕ HeaderSpans) where
    is_header : header_row_asked t s row ≡ header_asked t s row
    unfolding header_row_asked
    is_header = rw (lt-ltb row (length t / 4) there) refl

    pub header_there : x ≡ header_row_asked t s row → x ≡ header_asked t s row
    header_there e = e ∙ is_header

    pub header_given : x ≡ header_asked t s row → x ≡ header_row_asked t s row
    header_given e = e ∙ sym is_header

module _ (t : Tables) (s : List ℕ) (row first : ℕ) where
  pub no_record : length t.records / 8 ≤ row → no 21 ≡ head_row_asked t s row first
  unfolding head_row_asked
  no_record h = rw (le-ltb row (length t.records / 8) h) refl

  module _ (there : row < length t.records / 8) (x : Step ℕ Head) where
    is_head : head_row_asked t s row first ≡ head_asked t s row first
    unfolding head_row_asked
    is_head = rw (lt-ltb row (length t.records / 8) there) refl

    pub head_there : x ≡ head_row_asked t s row first → x ≡ head_asked t s row first
    head_there e = e ∙ is_head

    pub head_given : x ≡ head_asked t s row first → x ≡ head_row_asked t s row first
    head_given e = e ∙ sym is_head

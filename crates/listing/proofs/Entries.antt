-- What was written into a line is what the entry is to hold, since it has room there. The premises have the form in
-- which a proof finds them. Assumes nothing.
use Prim.Native.Nat.{ℕ, ◌+◌, ◌≤◌}
use mathlib.Core.Path.{◌≡◌, sym, ap, ◌∙◌}
use mathlib.Core.List.{List}
use lib.ListN.{length}
use mir.Syntax.{w64}
use mir.Val.{SFits, to_z, of_z}
use mir.ValLaws.{to_z-of_z}
use Rattle.std.specs.Prelude.{Result, Ok, Err, Some, None}
use Rattle.opening.specs.declared.BatchFault.{BatchFault}
use Rattle.opening.specs.Answers.{batch_number_of}
use Rattle.batches.specs.declared.BatchFound.{BatchFound}
use Rattle.batches.specs.declared.ReadError.{ReadError}
use Rattle.batches.specs.Answers.{view_kind, view_count}
use Rattle.listing.specs.declared.Line.{Line}
use Rattle.listing.specs.declared.Entry.{Entry}
use Rattle.listing.specs.Listing.{batch_line, stop_line, line, last}
use Rattle.listing.specs.Answers.{line_size, entry_of}
use Rattle.listing.specs.Writing.{written, empty_line, read_turn}
use Rattle.listing.proofs.Lines.{line_holds}
use Rattle.listing.proofs.Lengths.{batch_short, stop_short}

module _ (l : Line) (text : List ℕ) (e : l ≡ written empty_line text) (h : length text ≤ line_size) where
  pub line_entry : (next : ℕ) → record { line = l; next = Some next } ≡ entry_of (line text next)
  line_entry next = ap (λ (x : Line). record { line = x; next = Some next }) (e ∙ line_holds text h)

  pub last_entry : (x : Entry) → x ≡ record { line = l; next = None } → x ≡ entry_of (last text)
  last_entry x f = f ∙ ap (λ (y : Line). record { line = y; next = None }) (e ∙ line_holds text h)

-- ---- what was read

module _ (read : Result BatchFound ReadError) (place : ℕ) where
  read_as : (r : Result BatchFound ReadError) (x : Entry) → read ≡ r → x ≡ entry_of (read_turn place r) → x ≡ entry_of (read_turn place read)
  read_as r x f e = e ∙ ap (λ (y : Result BatchFound ReadError). entry_of (read_turn place y)) (sym f)

  pub accepted_entry : (b : BatchFound) → read ≡ Ok b → SFits w64 b.batch.base_offset → (l : Line)
      → l ≡ written empty_line (batch_line (to_z w64 (of_z w64 b.batch.base_offset)) b.consumed (view_kind b.kind) (view_count b.kind) b.headers)
      → record { line = l; next = Some (place + b.consumed) } ≡ entry_of (read_turn place read)
  accepted_entry b f fits l e =
      let base = to_z-of_z w64 b.batch.base_offset fits in
      let is = e ∙ (λ i. written empty_line (batch_line (base i) b.consumed (view_kind b.kind) (view_count b.kind) b.headers)) in
      read_as (Ok b) _ f
      (line_entry l _ is (batch_short b.batch.base_offset b.consumed (view_kind b.kind) (view_count b.kind) b.headers) (place + b.consumed))

  stopped : (n : ℕ) (l : Line) (x : Entry) → l ≡ written empty_line (stop_line n place) → x ≡ record { line = l; next = None } → x ≡ entry_of (last (stop_line n place))
  stopped n l x e = last_entry l (stop_line n place) e (stop_short n place) x

  module _ (l : Line) (x : Entry) (ends : x ≡ record { line = l; next = None }) where
    pub more_entry : (bytes : ℕ) → read ≡ Err (ReadError.MoreBytes bytes) → l ≡ written empty_line (stop_line 1 place) → x ≡ entry_of (read_turn place read)
    more_entry bytes f e = read_as (Err (ReadError.MoreBytes bytes)) x f (stopped 1 l x e ends)

    pub refused_entry : (fault : BatchFault) → read ≡ Err (ReadError.Refused fault) → (n : ℕ) → n ≡ batch_number_of fault
        → l ≡ written empty_line (stop_line n place) → x ≡ entry_of (read_turn place read)
    refused_entry fault f n g e =
        read_as (Err (ReadError.Refused fault)) x f (stopped n l x e ends ∙ ap (λ (n : ℕ). entry_of (last (stop_line n place))) g)

    pub room_entry : (n m : ℕ) → read ≡ Err (ReadError.NoRoom n m) → l ≡ written empty_line (stop_line 14 place) → x ≡ entry_of (read_turn place read)
    room_entry n m f e = read_as (Err (ReadError.NoRoom n m)) x f (stopped 14 l x e ends)

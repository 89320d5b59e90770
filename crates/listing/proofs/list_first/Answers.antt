-- `listing::list_first` meets its contract. Assumes nothing.
use mathlib.Core.Path.{sym, ap, ◌∙◌}
use native.Mathlib.Omega.{arith}
use Rattle.listing.specs.Text.{ascii}
use Rattle.listing.specs.Answers.{entry_of}
use Rattle.listing.proofs.Lines.{on_same}
use Rattle.listing.proofs.Entries.{line_entry, last_entry}
use Rattle.listing.proofs.Turns.{first_too_long, first_heading}
use Rattle.listing.proofs.list_first.Goals as goal

pub returns-then-bytes-gt-MOST : goal.returns-then-bytes-gt-MOST
unfolding ascii
returns-then-bytes-gt-MOST c = last_entry _ _ (on_same _ _ c.new.ensures c.text.ensures) (omega arith) _ c.last.ensures ∙ ap entry_of (sym (first_too_long c.args.bytes.now c.if-bytes-gt-MOST.true))

pub returns : goal.returns
unfolding ascii
returns c = line_entry _ _ (on_same _ _ c.new-2.ensures c.text-2.ensures) (omega arith) _ ∙ ap entry_of (sym (first_heading c.args.bytes.now c.if-bytes-gt-MOST.false))

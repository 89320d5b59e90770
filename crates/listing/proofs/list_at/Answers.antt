-- `listing::list_at` meets its contract. Assumes nothing.
use borrow.Author.Rules.{rules}
use mathlib.Core.Path.{sym, ap, ◌∙◌}
use Rattle.listing.specs.Answers.{entry_of}
use Rattle.listing.proofs.Entries.{last_entry}
use Rattle.listing.proofs.Lengths.{end_short}
use Rattle.listing.proofs.Turns.{turn_end, next_fits, read_listed, none_read}
use Rattle.listing.proofs.list_at.Goals as goal

pub returns-then-bytes-place : goal.returns-then-bytes-place
returns-then-bytes-place c =
    let s = c.args.bytes.now in
    let past = c.if-bytes-place.true in
    record {
      result =
          last_entry _ _ c.end_line.ensures (end_short _) _ c.last.ensures
          ∙ ap entry_of (sym (turn_end _ s _ past));
      tables = none_read s _ _ past;
    }

pub entry_of-requires : goal.entry_of-requires
entry_of-requires c = search (next_fits, rules)

pub returns : goal.returns
returns c = search read_listed

-- `listing::Line::kind` meets its contract. Assumes nothing.
use mathlib.Core.Path.{sym, ap, ◌∙◌}
use Rattle.batches.specs.declared.ControlBatchOrRecords.{ControlBatchOrRecords}
use Rattle.batches.specs.Answers.{view_kind}
use Rattle.listing.specs.Text.{ascii, spaced}
use Rattle.listing.specs.Listing.{kind_word}
use Rattle.listing.specs.Writing.{written}
use Rattle.listing.proofs.Line.kind.Goals as goal

pub returns-in-Abort : goal.returns-in-Abort
unfolding ascii
returns-in-Abort c = c.text.ensures ∙ ap (written _) (ap (λ (k : ControlBatchOrRecords). spaced (kind_word (view_kind k))) (sym (c.in-ControlBatch.is ∙ ap ControlBatchOrRecords.ControlBatch c.in-Abort.is)))

pub returns-in-Commit : goal.returns-in-Commit
unfolding ascii
returns-in-Commit c = c.text-in-Commit.ensures ∙ ap (written _) (ap (λ (k : ControlBatchOrRecords). spaced (kind_word (view_kind k))) (sym (c.in-ControlBatch.is ∙ ap ControlBatchOrRecords.ControlBatch c.in-Commit.is)))

pub returns-in-Records : goal.returns-in-Records
unfolding ascii
returns-in-Records c = c.text-in-Records.ensures ∙ ap (written _) (ap (λ (k : ControlBatchOrRecords). spaced (kind_word (view_kind k))) (sym c.in-Records.is))

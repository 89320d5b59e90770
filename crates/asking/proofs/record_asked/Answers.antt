-- `asking::record_asked` meets its contract. Assumes nothing.
use Rattle.asking.proofs.There.{no_record, head_given}
use Rattle.asking.proofs.record_asked.Goals as goal

pub returns-then-records-row : goal.returns-then-records-row
returns-then-records-row c = search no_record

pub returns : goal.returns
returns c = search head_given

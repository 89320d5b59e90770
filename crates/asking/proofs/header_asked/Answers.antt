-- `asking::header_asked` meets its contract. Assumes nothing.
use Rattle.asking.proofs.There.{no_header, header_given}
use Rattle.asking.proofs.header_asked.Goals as goal

pub returns-then-headers-row : goal.returns-then-headers-row
returns-then-headers-row c = search no_header

pub returns : goal.returns
returns c = search header_given

-- `reading::read_records` meets its contract. Assumes nothing.
use Rattle.reading.proofs.Whole.{read_no_room, read_got, never_refused}
use Rattle.reading.proofs.read_records.Goals as goal

pub returns-then-not-has_room : goal.returns-then-not-has_room
returns-then-not-has_room c = read_no_room _ _ _ _ _ _ c.in_ok-found.ensures _ c.has_room.ensures c.if-not-has_room.true

pub returns-in_err-walk : goal.returns-in_err-walk
returns-in_err-walk c = never_refused _ _ _ _ _ _ c.in_ok-found.ensures _ c.has_room.ensures _ c.in_err-walk.ensures

pub returns : goal.returns
returns c = read_got _ _ _ _ _ _ c.in_ok-found.ensures _ c.has_room.ensures c.if-not-has_room.false c.in_ok-walk.ensures

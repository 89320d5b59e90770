-- `numbers::put` meets its contract: as many bytes are put as there is room for. Assumes nothing.
use native.Mathlib.Nat.{add-sub_cancel_left}
use Rattle.numbers.proofs.Pens.{put_past, put_done}
use Rattle.numbers.proofs.put.Goals as goal

pub returns-then-room-at : goal.returns-then-room-at
returns-then-room-at c = put_past _ _ _ c.if-room-at.true

pub returns : goal.returns
returns c = simp add-sub_cancel_left (put_done _ _ _ _ _ c.if-room-at.false c.min-n.ensures c.copy.ensures)

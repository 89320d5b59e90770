-- `list::list` meets its contract: it is safe, and it ends since each turn but the last goes further on. Assumes
-- nothing.
use Rattle.std.specs.Prelude.{ℕ, suc, ◌-◌, List, length, Some, None}
use Rattle.std.specs.Prelude as std
use Rattle.list.proofs.list.Given as goal

-- the turns that are left at most
abbrev pub left : List ℕ → std.Option ℕ → ℕ
left s None = 0
left s (Some place) = suc (length s - place)

abbrev pub decreases-loop-next : goal.decreases-loop-next
decreases-loop-next g l = left l.bytes l.next

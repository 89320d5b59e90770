-- What each public function promises of its result, for every input. What is lent is lent to be read: no function here
-- can change it.
use Rattle.std.specs.Prelude.{ℕ, ◌≡◌, List, Result}
use Rattle.primitives.specs.declared.Fault.{Fault}
use Rattle.records.specs.declared.RecordFault.{RecordFault}
use Rattle.opening.specs.declared.BatchFault.{BatchFault}
use Rattle.opening.specs.declared.Opened.{Opened}
use Rattle.opening.specs.declared.OpenError.{OpenError}
use Rattle.opening.specs.Opened.{open_at}
use Rattle.opening.specs.Answers.{batch_number_of, view_judged, view_known_at}

-- BatchFault::number
abbrev pub BatchNumberPromise : BatchFault → ℕ → Type 0
BatchNumberPromise f r = r ≡ batch_number_of f

-- BatchFault::from a fault of a field
abbrev pub FromFaultPromise : Fault → BatchFault → Type 0
FromFaultPromise f r = r ≡ BatchFault.Body (RecordFault.Field f)

-- BatchFault::from a fault of records
abbrev pub FromRecordFaultPromise : RecordFault → BatchFault → Type 0
FromRecordFaultPromise f r = r ≡ BatchFault.Body f

-- OpenError::from a fault of a batch
abbrev pub FromBatchFaultPromise : BatchFault → OpenError → Type 0
FromBatchFaultPromise f r = r ≡ OpenError.Refused f

-- open_at, on bytes s and a batch that starts at a place
abbrev pub OpenAtPromise : List ℕ → ℕ → Result Opened OpenError → Type 0
OpenAtPromise s at r = view_judged view_known_at r ≡ open_at s at

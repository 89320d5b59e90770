-- Words of private contracts: none of them stands in a promise. What the steps of reading, of the canonical check and of
-- writing give.
use Rattle.std.specs.Prelude.{ℕ, Bool, false, List, eqb, ltb, get_or, Result, Ok, Err}
use Rattle.numbers.specs.Pick.{pick}
use Rattle.reading.specs.declared.RecordsFound.{RecordsFound}
use Rattle.reading.specs.declared.RecordsError.{RecordsError}
use Rattle.opening.specs.declared.BatchFault.{BatchFault}
use Rattle.opening.specs.declared.OpenError.{OpenError}
use Rattle.batches.specs.declared.RecordBatch.{RecordBatch}
use Rattle.batches.specs.declared.ControlBatchOrRecords.{ControlBatchOrRecords}
use Rattle.batches.specs.declared.BatchFound.{BatchFound}

-- ---- what is found of records is found of the batch

abbrev pub found_records : RecordBatch → ℕ → ℕ → ℕ → BatchFound
found_records b total n m = record { batch = b; kind = ControlBatchOrRecords.Records n; headers = m; consumed = total }

-- what is read into tables of no rows: a table that is short is no fault of what is checked
abbrev pub check_of_records_read : RecordBatch → ℕ → Result RecordsFound RecordsError → Result BatchFound OpenError
check_of_records_read b total (Ok x) = Ok (found_records b total x.records x.headers)
check_of_records_read b total (Err (RecordsError.Refused f)) = Err (OpenError.Refused (BatchFault.Body f))
check_of_records_read b total (Err (RecordsError.NoRoom n m)) = Ok (found_records b total n m)

-- ---- the canonical check

-- the bytes of the attributes, and the highest of the count
abbrev pub tight : List ℕ → Bool
tight s = pick (eqb (get_or s 21 0) 0) (pick (ltb (get_or s 22 0) 64) (ltb (get_or s 57 0) 128) false) false

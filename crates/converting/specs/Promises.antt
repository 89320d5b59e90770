-- What each public function promises of its result and of the output, for every input. Lent bytes are lent to be read:
-- no function here can change them.
use Rattle.std.specs.Prelude.{◌≡◌, ℕ, List, length, Result}
use Rattle.numbers.specs.Bytes.{Bytes}
use Rattle.opening.specs.declared.BatchFault.{BatchFault}
use Rattle.converting.specs.declared.Conversion.{Conversion}
use Rattle.converting.specs.declared.ConvertError.{ConvertError}
use Rattle.converting.specs.Conversion.{conversion_of}
use Rattle.converting.specs.Answers.{view_converted, answer_of, output_of}

-- ConvertError::from a fault of a batch
abbrev pub FromBatchFaultPromise : BatchFault → ConvertError → Type 0
FromBatchFaultPromise f e = e ≡ ConvertError.Refused f

-- the result of convert, with the output at exit
pub record ConvertOutcome : Type 0 where
  pub result : Result Conversion ConvertError
  pub output : List ℕ

-- convert, on bytes s and an output
pub record ConvertPromise (s out : List ℕ) (o : ConvertOutcome) : Type 0 where
  pub lent : Bytes s
  pub answer : view_converted o.result ≡ answer_of (conversion_of s) (length out)
  pub output : o.output ≡ output_of (conversion_of s) out

-- What the functions within say of a conversion: the answer, and the output at exit.
use Rattle.std.specs.Prelude.{ℕ, ◌+◌, ◌-◌, ◌≡◌, List, length, take, drop}
use Rattle.std.proofs.lemmas.List.Edits.{sets}
use Rattle.numbers.specs.Format.{big_endian}
use Rattle.crc32c.specs.Crc.{crc32c}
use Rattle.layout.specs.Table.{table, uncounted, unchecked}
use Rattle.opening.specs.Judgement.{Judged}
use Rattle.converting.specs.Conversion.{Conversion}
use Rattle.converting.specs.Answers.{view_converted, answer_of, output_of}
use Rattle.converting.specs.Promises.{ConvertOutcome}

-- by a conversion, into an output
pub record GivenBy (j : Judged Conversion) (out : List ℕ) (o : ConvertOutcome) : Type 0 where
  pub answer : view_converted o.result ≡ answer_of j (length out)
  pub output : o.output ≡ output_of j out

-- the bytes of a control batch as it is written
abbrev pub rekeyed_size : ℕ
rekeyed_size = 72

-- an output with the length of such a batch in its place, and with the checksum of what stands after it
abbrev pub with_length : List ℕ → List ℕ
with_length out = sets out table.batch_length.place (big_endian 4 (rekeyed_size - uncounted))

abbrev pub with_checksum : List ℕ → List ℕ
with_checksum out =
    sets out table.crc.place
    (big_endian 4 (crc32c (take (rekeyed_size - (uncounted + unchecked)) (drop (uncounted + unchecked) out))))

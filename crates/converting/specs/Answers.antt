-- What each answer says, case by case: the number, and the values that it names.
use Rattle.std.specs.Prelude.{ℕ, List, ◌++◌, leb, length, drop, Result, Ok, Err}
use Rattle.numbers.specs.Pick.{pick}
use Rattle.opening.specs.Answers.{batch_number_of}
use Rattle.opening.specs.Judgement.{Judged, more, refused, accepted}
use Rattle.converting.specs.declared.Conversion as Code
use Rattle.converting.specs.declared.ConvertError.{ConvertError}
use Rattle.converting.specs.Conversion.{Conversion}

-- 0 with the bytes taken and those given; 1 with the bytes needed; any other number alone. What is not named is 0.
pub record Answer : Type 0 where
  pub number : ℕ
  pub taken : ℕ
  pub given : ℕ

abbrev pub gives : ℕ → ℕ → Answer
gives taken given = record { number = 0; taken = taken; given = given }

abbrev pub wants : ℕ → Answer
wants n = record { number = 1; taken = n; given = 0 }

abbrev pub refuses : ℕ → Answer
refuses n = record { number = n; taken = 0; given = 0 }

abbrev pub view_converted : Result Code.Conversion ConvertError → Answer
view_converted (Ok x) = gives x.taken x.given
view_converted (Err (ConvertError.MoreBytes n)) = wants n
view_converted (Err (ConvertError.Refused f)) = refuses (batch_number_of f)
view_converted (Err ConvertError.ShortOutput) = refuses 24

-- ---- what a conversion has answered, where the output has so many bytes, and what is then in it

-- document 01, Writer's numbers, 24: the output is shorter than what is given
abbrev pub answer_of : Judged Conversion → ℕ → Answer
answer_of (more n) room = wants n
answer_of (refused n) room = refuses n
answer_of (accepted c) room = pick (leb (length c.given) room) (gives c.taken (length c.given)) (refuses 24)

-- what is given stands at its start, and all else in it is as it was
abbrev pub output_of : Judged Conversion → List ℕ → List ℕ
output_of (more n) out = out
output_of (refused n) out = out
output_of (accepted c) out = pick (leb (length c.given) (length out)) (c.given ++ drop (length c.given) out) out

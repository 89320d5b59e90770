-- Records whose spans lie inside a source.
use Rattle.std.specs.Prelude.{ℕ, List}
use Rattle.records.specs.Inside.{Inside, NullableInside}
use Rattle.records.specs.Judgement.{HeaderSpans, RecordSpans}
use Rattle.records.specs.Statements.{Each}

pub record HeaderInside (s : List ℕ) (h : HeaderSpans) : Type 0 where
  pub key : Inside s h.key
  pub value : Inside s h.value

pub record RecordInside (s : List ℕ) (r : RecordSpans) : Type 0 where
  pub key : NullableInside s r.key
  pub value : NullableInside s r.value
  pub headers : Each (HeaderInside s) r.headers

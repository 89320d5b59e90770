-- Each promise admits a single answer: from what the answer says it can be made again, and the output is given.
-- Assumes nothing.
use Prim.Native.Nat.{ℕ}
use mathlib.Core.Path.{◌≡◌, refl, sym, ap, ◌∙◌, subst}
use mathlib.Core.List.{List}
use native.Mathlib.Omega.{arith}
use borrow.Author.Tests.{ne_eqb}
use lib.Dec.{eqb}
use Rattle.numbers.specs.Pick.{pick}
use Rattle.numbers.specs.Single.{Single}
use Rattle.numbers.proofs.Single.{single_value, single_view}
use Rattle.opening.specs.declared.BatchFault.{BatchFault}
use Rattle.opening.specs.Answers.{batch_number_of}
use Rattle.opening.proofs.Single.{refusal, refusal_again}
use Rattle.converting.specs.declared.Conversion.{Conversion}
use Rattle.converting.specs.declared.ConvertError.{ConvertError}
use Rattle.std.specs.Prelude.{Result, Ok, Err}
use Rattle.converting.specs.Answers.{Answer, view_converted}
use Rattle.converting.specs.Promises.{FromBatchFaultPromise, ConvertPromise}

pub single_from_batch_fault : (f : BatchFault) → Single (FromBatchFaultPromise f)
single_from_batch_fault f = single_value _

-- ---- a fault has neither 0 nor 24: what is made from these has another number

number_again : (f : BatchFault) {n : ℕ} → batch_number_of f ≡ n → refusal 1 14 batch_number_of n ≡ n
number_again f e = subst (λ (n : ℕ). refusal 1 14 batch_number_of n ≡ n) e (refusal_again 1 14 batch_number_of f)

not_done : (f : BatchFault) → batch_number_of f ≡ 0 → ⊥
not_done f e = let w : ◌≡◌ {A = ℕ} 13 0 = number_again f e in omega arith

not_short : (f : BatchFault) → batch_number_of f ≡ 24 → ⊥
not_short f e = let w : ◌≡◌ {A = ℕ} 13 24 = number_again f e in omega arith

-- ---- the answer, made from what it says

abbrev converted : Answer → Result Conversion ConvertError
converted a =
    let lacking : ConvertError = ConvertError.MoreBytes a.taken in
    pick (eqb a.number 0) (Ok (record { taken = a.taken; given = a.given }))
    (Err (pick (eqb a.number 24) ConvertError.ShortOutput (refusal lacking lacking ConvertError.Refused a.number)))

converted_again : (r : Result Conversion ConvertError) → converted (view_converted r) ≡ r
converted_again (Ok x) = refl
converted_again (Err (ConvertError.MoreBytes n)) = refl
converted_again (Err (ConvertError.Refused f)) =
    rw (ne_eqb (batch_number_of f) 0 (not_done f), ne_eqb (batch_number_of f) 24 (not_short f))
    (ap Err (refusal_again _ _ ConvertError.Refused f))
converted_again (Err ConvertError.ShortOutput) = refl

-- answers that say the same are the same
pub view_converted_injective : (r r' : Result Conversion ConvertError) → view_converted r ≡ view_converted r' → r ≡ r'
view_converted_injective r r' e = single_view view_converted converted converted_again (view_converted r') r r' e refl

pub single_convert : (s out : List ℕ) → Single (ConvertPromise s out)
single_convert s out o o' e e' =
    let p = view_converted_injective o.result o'.result (e.answer ∙ sym e'.answer) in
    let q = single_value _ o.output o'.output e.output e'.output in
    λ i. record { result = p i; output = q i }

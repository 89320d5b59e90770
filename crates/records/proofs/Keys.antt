-- The key of a record that ends with the bytes is that of its head, which stands after its length. Assumes nothing.
use Prim.Native.Nat.{ℕ, ◌+◌}
use mathlib.Core.Path.{◌≡◌, sym, ap, ◌∙◌}
use mathlib.Core.List.{List}
use native.Mathlib.Omega.{arith}
use lib.ListN.{length, take}
use lib.Seq.{take_all}
use Rattle.primitives.specs.Step.{ok, times}
use Rattle.primitives.proofs.Steps.{and_then_ok, map_ok}
use Rattle.records.specs.Judgement.{RecordSpans, Head, count_at, head_at, header_at, with_headers, fields_at, record_at}
use Rattle.records.proofs.RecordMoves.{record_parts}

-- the head of a record, and where it stands
pub record HeadOf (s : List ℕ) (p : ℕ) (r : RecordSpans) : Type 0 where
  pub size : ℕ
  pub place : ℕ
  pub head : Head
  pub next : ℕ
  pub sized : count_at s p ≡ ok size place
  pub reads : head_at s place ≡ ok head next
  pub key : head.key ≡ r.key

pub head_of : (s : List ℕ) (p : ℕ) {r : RecordSpans} → record_at s p ≡ ok r (length s) → HeadOf s p r
unfolding fields_at
head_of s p e =
    let (n, m, was, is, end) = record_parts s p e in
    let all : take (m + n) s ≡ s = take_all (m + n) s (omega (arith, end)) in
    let (h, k, hd, rest) = and_then_ok (head_at s m) _ (ap (λ (l : List ℕ). fields_at l m) (sym all) ∙ is) in
    let (hs, _, w) = map_ok (with_headers h) (times (header_at s) h.count k) rest in
    record { size = n; place = m; head = h; next = k; sized = was; reads = hd; key = ap (λ (x : RecordSpans). x.key) w }

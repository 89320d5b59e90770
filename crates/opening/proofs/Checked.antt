-- The fields under the checksum, as they are read one after the other, are the judgement's: each stands where the one
-- before it ended, and what is missing is missing for both. Assumes nothing.
use Prim.Native.Nat.{ℕ, ◌+◌, ◌-◌, ◌*◌, ◌%◌, ◌^◌, ◌≤◌, ◌<◌}
use mathlib.Core.Path.{◌≡◌, ◌∙◌}
use mathlib.Core.List.{List}
use native.Mathlib.Omega.{arith}
use native.Mathlib.Decide.{dec_lt}
use borrow.Author.Tests.{lt-ltb, le-ltb}
use lib.IntN.{ℤ}
use lib.ListN.{length}
use Rattle.primitives.specs.Step.{Step, ok, no, and_then, map_step}
use Rattle.primitives.specs.Reading.{big, signed_by, integer_at}
use Rattle.primitives.proofs.Values.{unsigned_there, unsigned_gone, integer_there, integer_gone}
use Rattle.layout.specs.declared.Times.{Times}
use Rattle.layout.specs.declared.Producer.{Producer}
use Rattle.layout.specs.Table.{table}
use Rattle.opening.specs.Judgement.{number_in, unsigned_in, attributes_in, count_of, opened_at}
use Rattle.opening.specs.Opened.{Known}
use Rattle.opening.specs.Opening.{attributes_at, times_at, producer_at, count_at, fields_beside, checked_at}

-- ---- three integers, one after the other

module _ {A : Type 0} (l m n : ℕ) (f : ℤ → ℤ → ℤ → A) (s : List ℕ) (p q r t : ℕ) (e : q ≡ p + l) (e' : r ≡ q + m) (e'' : t ≡ r + n) where
  abbrev three : Step ℕ A
  three = and_then (integer_at l s p) (λ a i. and_then (integer_at m s i) (λ b j. map_step (f a b) (integer_at n s j)))

  three_there : t ≤ length s
      → three ≡ ok (f (signed_by (2 ^ (8 * l - 1)) (big l s p)) (signed_by (2 ^ (8 * m - 1)) (big m s q)) (signed_by (2 ^ (8 * n - 1)) (big n s r))) t
  three_there h = rw (integer_there l s p q e (omega arith), integer_there m s q r e' (omega arith), integer_there n s r t e'' h)

  three_gone : length s < t → three ≡ no 8
  three_gone h =
      elim (dec_lt (length s) q) [
        | yes g ↦ rw (integer_gone l s p q e g)
        | Dec.no g ↦
            elim (dec_lt (length s) r) [
              | yes i ↦ rw (integer_there l s p q e (omega arith), integer_gone m s q r e' i)
              | Dec.no i ↦ rw (integer_there l s p q e (omega arith), integer_there m s q r e' (omega arith), integer_gone n s r t e'' h)
            ]
      ]

abbrev times_of : ℤ → ℤ → ℤ → Times
times_of delta first max = record { last_offset_delta = delta; first_timestamp = first; max_timestamp = max }

abbrev producer_of : ℤ → ℤ → ℤ → Producer
producer_of id epoch sequence = record { id = id; epoch = epoch; base_sequence = sequence }

module _ (s : List ℕ) (at : ℕ) where
  -- ---- each group of fields

  attributes_gone : length s < at + 23 → attributes_at s (at + 21) ≡ no 8
  unfolding attributes_at
  attributes_gone h = rw (unsigned_gone 2 s (at + 21) (at + 23) (omega arith) h)

  module _ (h : at + 23 ≤ length s) where
    attributes_refused : 4 < (attributes_in s at).codec → attributes_at s (at + 21) ≡ no 5
    unfolding attributes_at
    attributes_refused c = rw (unsigned_there 2 s (at + 21) (at + 23) (omega arith) h, lt-ltb 4 (unsigned_in table.attributes s at % 8) c)

    attributes_there : (attributes_in s at).codec ≤ 4 → attributes_at s (at + 21) ≡ ok (attributes_in s at) (at + 23)
    unfolding attributes_at
    attributes_there c = rw (unsigned_there 2 s (at + 21) (at + 23) (omega arith) h, le-ltb 4 (unsigned_in table.attributes s at % 8) c)

  times : Times
  times = times_of (number_in table.last_offset_delta s at) (number_in table.first_timestamp s at) (number_in table.max_timestamp s at)

  times_there : at + 43 ≤ length s → times_at s (at + 23) ≡ ok times (at + 43)
  unfolding times_at times
  times_there h = three_there 4 8 8 times_of s (at + 23) (at + 27) (at + 35) (at + 43) (omega arith) (omega arith) (omega arith) h

  times_gone : length s < at + 43 → times_at s (at + 23) ≡ no 8
  unfolding times_at
  times_gone h = three_gone 4 8 8 times_of s (at + 23) (at + 27) (at + 35) (at + 43) (omega arith) (omega arith) (omega arith) h

  producer : Producer
  producer = producer_of (number_in table.producer_id s at) (number_in table.producer_epoch s at) (number_in table.base_sequence s at)

  producer_there : at + 57 ≤ length s → producer_at s (at + 43) ≡ ok producer (at + 57)
  unfolding producer_at producer
  producer_there h = three_there 8 2 4 producer_of s (at + 43) (at + 51) (at + 53) (at + 57) (omega arith) (omega arith) (omega arith) h

  producer_gone : length s < at + 57 → producer_at s (at + 43) ≡ no 8
  unfolding producer_at
  producer_gone h = three_gone 8 2 4 producer_of s (at + 43) (at + 51) (at + 53) (at + 57) (omega arith) (omega arith) (omega arith) h

  count_there : at + 61 ≤ length s → count_at (attributes_in s at) s (at + 57) ≡ count_of (attributes_in s at) (number_in table.count s at) (at + 61)
  unfolding count_at
  count_there h = rw (integer_there 4 s (at + 57) (at + 61) (omega arith) h)

  count_gone : length s < at + 61 → count_at (attributes_in s at) s (at + 57) ≡ no 8
  unfolding count_at
  count_gone h = rw (integer_gone 4 s (at + 57) (at + 61) (omega arith) h)

-- ---- all of them

module _ (base epoch : ℤ) (s : List ℕ) (at : ℕ) where
  abbrev known : ℕ → Known
  known n = record { fields = fields_beside base epoch s at; control = (attributes_in s at).control; count = n }

  agree_no_attributes : length s < at + 23 → checked_at base epoch s (at + 21) ≡ map_step known (opened_at s at)
  unfolding checked_at opened_at
  agree_no_attributes h = rw (attributes_gone s at h, lt-ltb (length s) (at + 23) h)

  module _ (h : at + 23 ≤ length s) where
    agree_unknown : 4 < (attributes_in s at).codec → checked_at base epoch s (at + 21) ≡ map_step known (opened_at s at)
    unfolding checked_at opened_at
    agree_unknown c = rw (attributes_refused s at h c, le-ltb (length s) (at + 23) h, lt-ltb 4 (attributes_in s at).codec c)

    module _ (c : (attributes_in s at).codec ≤ 4) where
      missing : length s < at + 61 → checked_at base epoch s (at + 21) ≡ no 8
      unfolding checked_at times producer
      missing g =
          elim (dec_lt (length s) (at + 43)) [
            | yes i ↦ rw (attributes_there s at h c, times_gone s at i)
            | Dec.no i ↦
                elim (dec_lt (length s) (at + 57)) [
                  | yes j ↦ rw (attributes_there s at h c, times_there s at (omega arith), producer_gone s at j)
                  | Dec.no j ↦
                      rw (attributes_there s at h c, times_there s at (omega arith), producer_there s at (omega arith), count_gone s at g)
                ]
          ]

      agree_missing : length s < at + 61 → checked_at base epoch s (at + 21) ≡ map_step known (opened_at s at)
      unfolding opened_at
      agree_missing g =
          missing g
          ∙ rw (le-ltb (length s) (at + 23) h, le-ltb 4 (attributes_in s at).codec c, lt-ltb (length s) (at + 61) g)

      agree_there : at + 61 ≤ length s → checked_at base epoch s (at + 21) ≡ map_step known (opened_at s at)
      unfolding checked_at opened_at times producer
      agree_there g =
          rw (
            attributes_there s at h c,
            times_there s at (omega arith),
            producer_there s at (omega arith),
            count_there s at g,
            le-ltb (length s) (at + 23) h,
            le-ltb 4 (attributes_in s at).codec c,
            le-ltb (length s) (at + 61) g,
          )

  pub checked_is_lem : checked_at base epoch s (at + 21) ≡ map_step known (opened_at s at)
  checked_is_lem =
      elim (dec_lt (length s) (at + 23)) [
        | yes h ↦ agree_no_attributes h
        | Dec.no h ↦
            elim (dec_lt 4 (attributes_in s at).codec) [
              | yes c ↦ agree_unknown (omega arith) c
              | Dec.no c ↦
                  elim (dec_lt (length s) (at + 61)) [
                    | yes g ↦ agree_missing (omega arith) (omega arith) g
                    | Dec.no g ↦ agree_there (omega arith) (omega arith) (omega arith)
                  ]
            ]
      ]

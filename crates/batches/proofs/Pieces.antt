-- Each fixed field is read from as many bytes as it has, and these stand there as its encoding; the fields follow each
-- other, so their bytes stand joined. Assumes nothing.
use Prim.Native.Nat.{ℕ, ◌+◌, ◌≤◌, ◌<◌}
use mathlib.Core.Path.{◌≡◌, sym, ap, ◌∙◌, subst, subst₂}
use mathlib.Core.List.{List, [], ◌∷◌, map}
use native.Mathlib.Omega.{arith}
use native.Mathlib.Nat.{add-zero}
use lib.ListN.{length, take, drop}
use Rattle.numbers.specs.Bytes.{Bytes}
use Rattle.numbers.specs.Concat.{concat}
use Rattle.numbers.specs.Format.{Unsigned, Integer}
use Rattle.primitives.specs.Step.{ok}
use Rattle.primitives.specs.Stands.{Stands, Encoding}
use Rattle.primitives.specs.Reading.{integer_at}
use Rattle.primitives.proofs.Integers.{unsigned_in_lem, unsigned_sound, integer_sound}
use Rattle.primitives.proofs.Places.{nothing, shows, joined}
use Rattle.layout.specs.Table.{FixedFields, Slot, table, uncounted, unchecked, fixed_part, uncounted_fields, unchecked_fields, checked_fields}
use Rattle.layout.specs.Statements.{RunOn}
use Rattle.layout.proofs.Table.{table_runs_on}
use Rattle.opening.specs.Judgement.{unsigned_in, number_in}

-- where an encoding of n bytes stands, these n bytes are one
taken : {A : Type 0} {G : List ℕ → A → Type 0} {s : List ℕ} {p : ℕ} {a : A} (n : ℕ) → Encoding G s p (p + n) a
    → Stands s p (p + n) (take n (drop p s)) × G (take n (drop p s)) a
taken {G = G} {s} {p} {a} n e =
    let l : length e.bytes ≡ n = omega (arith, e.stands.end) in
    let w : e.bytes ≡ take n (drop p s) = sym (shows e.stands) ∙ ap (λ (k : ℕ). take k (drop p s)) l in
    (subst (Stands s p (p + n)) w e.stands, subst (λ (bs : List ℕ). G bs a) w e.encodes)

module _ (s : List ℕ) (at : ℕ) where
  -- the bytes of a field
  abbrev pub piece : Slot → List ℕ
  piece f = take f.bytes (drop (at + f.place) s)

  abbrev pub pieces : FixedFields (List ℕ)
  pieces =
      record {
        base_offset = piece table.base_offset;
        batch_length = piece table.batch_length;
        partition_leader_epoch = piece table.partition_leader_epoch;
        magic = piece table.magic;
        crc = piece table.crc;
        attributes = piece table.attributes;
        last_offset_delta = piece table.last_offset_delta;
        first_timestamp = piece table.first_timestamp;
        max_timestamp = piece table.max_timestamp;
        producer_id = piece table.producer_id;
        producer_epoch = piece table.producer_epoch;
        base_sequence = piece table.base_sequence;
        count = piece table.count;
      }

  module _ (b : Bytes s) where
    -- a field that ends within the list
    module _ (f : Slot) (h : at + f.place + f.bytes ≤ length s) where
      unsigned_found : Stands s (at + f.place) (at + f.place + f.bytes) (piece f) × Unsigned f.bytes (piece f) (unsigned_in f s at)
      unsigned_found =
          taken f.bytes
          (unsigned_sound f.bytes s (at + f.place) (unsigned_in f s at) _ b (unsigned_in_lem f.bytes s (at + f.place) h))

      pub piece_unsigned : Unsigned f.bytes (piece f) (unsigned_in f s at)
      piece_unsigned = unsigned_found.1

      integer_read : integer_at f.bytes s (at + f.place) ≡ ok (number_in f s at) (at + f.place + f.bytes)
      unfolding integer_at
      integer_read = rw (unsigned_in_lem f.bytes s (at + f.place) h)

      pub piece_integer : 0 < f.bytes → Integer f.bytes (piece f) (number_in f s at)
      piece_integer l = (taken f.bytes (integer_sound f.bytes s (at + f.place) (number_in f s at) _ l b integer_read)).1

    -- fields that follow each other
    pieces_stand : (p q : ℕ) (fs : List Slot) → RunOn p fs q → at + q ≤ length s → Stands s (at + p) (at + q) (concat (map piece fs))
    unfolding RunOn concat
    pieces_stand p q [] e h = rw e (nothing s (at + q) h)
    pieces_stand p q (f ∷ rest) (e, r) h =
        let y = pieces_stand (p + f.bytes) q rest r h in
        let w : at + f.place + f.bytes ≡ at + (p + f.bytes) = omega (arith, e) in
        let x = (unsigned_found f (omega (arith, w, y.end, y.within))).0 in
        joined (subst₂ (λ (i j : ℕ). Stands s i j (piece f)) (ap (λ (i : ℕ). at + i) e) w x) y

    module _ (h : at + fixed_part ≤ length s) where
      pub uncounted_stand : Stands s at (at + uncounted) (concat (uncounted_fields pieces))
      uncounted_stand =
          subst (λ (p : ℕ). Stands s p (at + uncounted) (concat (uncounted_fields pieces))) (add-zero at)
          (pieces_stand 0 uncounted (uncounted_fields table) table_runs_on.0 (omega arith))

      pub unchecked_stand : Stands s (at + uncounted) (at + (uncounted + unchecked)) (concat (unchecked_fields pieces))
      unchecked_stand = pieces_stand uncounted (uncounted + unchecked) (unchecked_fields table) table_runs_on.1 (omega arith)

      pub checked_stand : Stands s (at + (uncounted + unchecked)) (at + fixed_part) (concat (checked_fields pieces))
      checked_stand = pieces_stand (uncounted + unchecked) fixed_part (checked_fields table) table_runs_on.2 (omega arith)

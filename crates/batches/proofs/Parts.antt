-- Where an encoding stands, its fixed fields stand one after the other, each where the table says: so each is read
-- there with its value, and what is counted, what is checked and the body stand after them. Assumes nothing.
use Prim.Native.Nat.{ℕ, ◌+◌, ◌≤◌, ◌<◌}
use mathlib.Core.Path.{◌≡◌, sym, subst}
use mathlib.Core.Bool.{Bool}
use mathlib.Core.List.{List, [], ◌∷◌, ◌++◌, append_assoc}
use native.Mathlib.Omega.{arith}
use native.Mathlib.Nat.{add-zero}
use lib.IntN.{ℤ, pos}
use lib.ListN.{length}
use Rattle.numbers.specs.Concat.{concat}
use Rattle.numbers.specs.Format.{Unsigned, Integer}
use Rattle.numbers.proofs.Integers.{unsigned_length, integer_length}
use Rattle.primitives.specs.Stands.{Stands}
use Rattle.primitives.proofs.Places.{first, second}
use Rattle.primitives.proofs.Integers.{unsigned_complete, integer_complete}
use Rattle.primitives.proofs.Values.{unsigned_value, integer_value}
use Rattle.crc32c.specs.Crc.{crc32c}
use Rattle.records.specs.Format.{Record}
use Rattle.layout.specs.Table.{Slot, table, uncounted, unchecked, fixed_part}
use Rattle.layout.specs.Batch.{Batch}
use Rattle.layout.specs.Format.{Grammar, attributes_of, BatchBytesWith}
use Rattle.opening.specs.Judgement.{unsigned_in, number_in}

-- ---- fields that stand one after the other: the first, and those after it

-- from the place o of the batch up to the place q of the list stand these fields, and then what follows them
record Left (s : List ℕ) (at o q : ℕ) (fields : List (List ℕ)) (after : List ℕ) : Type 0 where
  stands : Stands s (at + o) q (concat fields ++ after)

left : {s : List ℕ} {at o q : ℕ} {fields : List (List ℕ)} {after all : List ℕ} → Stands s (at + o) q all
    → all ≡ concat fields ++ after → Left s at o q fields after
left {s} {at} {o} {q} x e = record { stands = subst (Stands s (at + o) q) e x }

none_left : {s : List ℕ} {at o q : ℕ} {after : List ℕ} → Left s at o q [] after → Stands s (at + o) q after
unfolding concat
none_left x = x.stands

module _ {s : List ℕ} {at q : ℕ} {bs : List ℕ} {rest : List (List ℕ)} {after : List ℕ} (f : Slot)
    (x : Left s at f.place q (bs ∷ rest) after) where
  split : Stands s (at + f.place) q (bs ++ (concat rest ++ after))
  unfolding concat
  split = subst (Stands s (at + f.place) q) (append_assoc bs (concat rest) after) x.stands

  field : Stands s (at + f.place) (at + f.place + length bs) bs
  field = first bs (concat rest ++ after) split

  others : length bs ≡ f.bytes → Left s at (f.place + f.bytes) q rest after
  others e =
      let w : at + f.place + length bs ≡ at + (f.place + f.bytes) = omega arith in
      record { stands = subst (λ (p : ℕ). Stands s p q (concat rest ++ after)) w (second bs (concat rest ++ after) split) }

  number_next : {z : ℤ} → Integer f.bytes bs z → 0 < f.bytes
      → (number_in f s at ≡ z) × Left s at (f.place + f.bytes) q rest after
  number_next {z} i h =
      let p = at + f.place in
      ((integer_value f.bytes s p (integer_complete f.bytes s p _ bs z h field i)).0, others (integer_length i))

  unsigned_next : {v : ℕ} → Unsigned f.bytes bs v → (unsigned_in f s at ≡ v) × Left s at (f.place + f.bytes) q rest after
  unsigned_next {v} u =
      let p = at + f.place in
      ((unsigned_value f.bytes s p (unsigned_complete f.bytes s p _ bs v field u)).0, others (unsigned_length u))

-- ---- all of them

module _ {grammar : Grammar} {strict : Bool} {bs : List ℕ} {b : Batch Record} (s : List ℕ) (at q : ℕ) (g : BatchBytesWith grammar strict bs b) where
  pub record PartsStand : Type 0 where
    pub base_offset : number_in table.base_offset s at ≡ b.fields.base_offset
    pub batch_length : number_in table.batch_length s at ≡ pos (length g.counted)
    pub partition_leader_epoch : number_in table.partition_leader_epoch s at ≡ b.fields.partition_leader_epoch
    pub magic : number_in table.magic s at ≡ pos 2
    pub crc : unsigned_in table.crc s at ≡ crc32c g.checked
    pub attributes : unsigned_in table.attributes s at ≡ attributes_of strict g.higher b
    pub last_offset_delta : number_in table.last_offset_delta s at ≡ b.fields.last_offset_delta
    pub first_timestamp : number_in table.first_timestamp s at ≡ b.fields.first_timestamp
    pub max_timestamp : number_in table.max_timestamp s at ≡ b.fields.max_timestamp
    pub producer_id : number_in table.producer_id s at ≡ b.fields.producer_id
    pub producer_epoch : number_in table.producer_epoch s at ≡ b.fields.producer_epoch
    pub base_sequence : number_in table.base_sequence s at ≡ b.fields.base_sequence
    pub count : number_in table.count s at ≡ g.count
    pub counted : Stands s (at + uncounted) q g.counted
    pub checked : Stands s (at + (uncounted + unchecked)) q g.checked
    pub body : Stands s (at + fixed_part) q g.body

pub parts_stand : {grammar : Grammar} {strict : Bool} {s : List ℕ} {at q : ℕ} {bs : List ℕ} {b : Batch Record} → Stands s at q bs
    → (g : BatchBytesWith grammar strict bs b) → PartsStand s at q g
parts_stand {s = s} {at} {q} {bs} x g =
    let start = subst (λ (p : ℕ). Stands s p q bs) (sym (add-zero at)) x in
    let (base_offset, l) = number_next table.base_offset (left start g.is) g.base_offset (omega arith) in
    let (batch_length, c) = number_next table.batch_length l g.batch_length (omega arith) in
    let counted = none_left c in
    let (partition_leader_epoch, m) =
    number_next table.partition_leader_epoch (left counted g.counted_is) g.partition_leader_epoch (omega arith) in
    let (magic, k) = number_next table.magic m g.magic (omega arith) in
    let (crc, d) = unsigned_next table.crc k g.crc in
    let checked = none_left d in
    let (attributes, a) = unsigned_next table.attributes (left checked g.checked_is) g.attributes in
    let (last_offset_delta, f) = number_next table.last_offset_delta a g.last_offset_delta (omega arith) in
    let (first_timestamp, h) = number_next table.first_timestamp f g.first_timestamp (omega arith) in
    let (max_timestamp, i) = number_next table.max_timestamp h g.max_timestamp (omega arith) in
    let (producer_id, e) = number_next table.producer_id i g.producer_id (omega arith) in
    let (producer_epoch, u) = number_next table.producer_epoch e g.producer_epoch (omega arith) in
    let (base_sequence, n) = number_next table.base_sequence u g.base_sequence (omega arith) in
    let (count, y) = number_next table.count n g.numbered (omega arith) in
    record {
      base_offset = base_offset;
      batch_length = batch_length;
      partition_leader_epoch = partition_leader_epoch;
      magic = magic;
      crc = crc;
      attributes = attributes;
      last_offset_delta = last_offset_delta;
      first_timestamp = first_timestamp;
      max_timestamp = max_timestamp;
      producer_id = producer_id;
      producer_epoch = producer_epoch;
      base_sequence = base_sequence;
      count = count;
      counted = counted;
      checked = checked;
      body = none_left y;
    }

-- ---- how many bytes there are

module _ {grammar : Grammar} {strict : Bool} {s : List ℕ} {at q : ℕ} {bs : List ℕ} {b : Batch Record} (x : Stands s at q bs) (g : BatchBytesWith grammar strict bs b) where
  pub fixed_there : at + fixed_part ≤ length s
  fixed_there = let y = (parts_stand x g).body in omega (arith, y.end, y.within)

  pub counted_enough : unchecked ≤ length g.counted
  counted_enough = omega (arith, (parts_stand x g).counted.end, (parts_stand x g).checked.end)

  pub ends : uncounted + length g.counted ≡ length bs
  ends = omega (arith, x.end, (parts_stand x g).counted.end)

-- Where an encoding stands, its parts stand one after the other: each is cut off the front of what is left.
-- Assumes nothing.
use Prim.Native.Nat.{ℕ, ◌+◌, ◌-◌}
use mathlib.Core.Path.{◌≡◌, ap, subst}
use mathlib.Core.Bool.{Bool}
use mathlib.Core.List.{List}
use native.Mathlib.Omega.{arith}
use lib.ListN.{length, length-append}
use Rattle.numbers.specs.Format.{Sized}
use Rattle.primitives.specs.Stands.{Stands}
use Rattle.primitives.proofs.Places.{first, second}
use Rattle.records.specs.Format.{Header, Record, HeaderBytes, FieldsBytes}
use Rattle.records.specs.Placed.{key_place, value_place, headers_place}

-- bytes, after their length
module _ {strict : Bool} {s : List ℕ} {p q : ℕ} {bs v : List ℕ} (x : Stands s p q bs) (g : Sized strict bs v) where
  pub size_stands : Stands s p (p + length g.size) g.size
  size_stands = first g.size v (subst (Stands s p q) g.is x)

  pub sized_stands : Stands s (p + length g.size) q v
  sized_stands = second g.size v (subst (Stands s p q) g.is x)

-- they start where their length ends
pub starts : {strict : Bool} {s : List ℕ} {p q : ℕ} {bs v : List ℕ} → Stands s p q bs → (g : Sized strict bs v) → q - length v ≡ p + length g.size
starts {v = v} x g = omega (arith, x.end, ap length g.is, length-append g.size v)

-- the key and the value of a header
module _ {strict : Bool} {s : List ℕ} {p q : ℕ} {bs : List ℕ} {h : Header} (x : Stands s p q bs) (g : HeaderBytes strict bs h) where
  pub key_stands : Stands s p (p + length g.key) g.key
  key_stands = first g.key g.value (subst (Stands s p q) g.is x)

  pub value_stands : Stands s (p + length g.key) q g.value
  value_stands = second g.key g.value (subst (Stands s p q) g.is x)

-- the fields of a record
pub record FieldsStand {strict : Bool} {bs : List ℕ} {r : Record} (s : List ℕ) (p q : ℕ) (g : FieldsBytes strict bs r) : Type 0 where
  pub attributes : Stands s p (p + length g.attributes) g.attributes
  pub timestamp_delta : Stands s (p + length g.attributes) (p + length g.attributes + length g.timestamp_delta) g.timestamp_delta
  pub offset_delta : Stands s (p + length g.attributes + length g.timestamp_delta) (key_place p g) g.offset_delta
  pub key : Stands s (key_place p g) (value_place p g) g.key
  pub value : Stands s (value_place p g) (value_place p g + length g.value) g.value
  pub count : Stands s (value_place p g + length g.value) (headers_place p g) g.count
  pub headers : Stands s (headers_place p g) q g.headers

pub fields_stand : {strict : Bool} {s : List ℕ} {p q : ℕ} {bs : List ℕ} {r : Record} → Stands s p q bs → (g : FieldsBytes strict bs r)
    → FieldsStand s p q g
fields_stand {s = s} {p} {q} x g =
    let a = subst (Stands s p q) g.is x in
    let t = second g.attributes _ a in
    let o = second g.timestamp_delta _ t in
    let k = second g.offset_delta _ o in
    let v = second g.key _ k in
    let c = second g.value _ v in
    record {
      attributes = first g.attributes _ a;
      timestamp_delta = first g.timestamp_delta _ t;
      offset_delta = first g.offset_delta _ o;
      key = first g.key _ k;
      value = first g.value _ v;
      count = first g.count _ c;
      headers = second g.count _ c;
    }

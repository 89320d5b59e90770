-- The first fault of the bytes of records, said by the format alone: which of document 01's numbers it has, at a place
-- of a list that ends where the bytes end. It knows nothing of reading.
use Rattle.std.specs.Prelude.{ℕ, ◌+◌, ◌<◌, ◌≡◌, true, false, List, length, take}
use Rattle.numbers.specs.Format.{Integer, Varies, Sized, Nullable}
use Rattle.primitives.specs.Stands.{Encoding}
use Rattle.primitives.specs.Faults.{Wrong, IntegerWrong, NumberWrong, LengthWrong, CountBytes, BytesWrong}
use Rattle.utf8.specs.Grammar.{Octets}
use Rattle.records.specs.Format.{Record, Run, HeaderBytes, FieldsBytes, RecordBytes, RecordsBytes}

-- ---- a header's key

-- document 01, Reader's numbers, 11: its bytes are no UTF-8, after the faults of these bytes
pub data KeyWrong (s : List ℕ) (p : ℕ) : ℕ → Type 0 where
  bytes : {n : ℕ} → BytesWrong false s p n → KeyWrong s p n
  octets : {v : List ℕ} {q : ℕ} → Encoding (Sized false) s p q v → (Octets v → ⊥) → KeyWrong s p 11

-- one that is right
abbrev pub KeyBytes : List ℕ → List ℕ → Type 0
KeyBytes bs v = Sized false bs v × Octets v

-- ---- fields, one after the other

-- A field and what comes after it: the field is wrong; or it is right, and what comes after it, from where it ends, is
-- wrong.
pub data First {A : Type 0} (G : List ℕ → A → Type 0) (W : Wrong) (After : A → Wrong) (s : List ℕ) (p n : ℕ) : Type 0 where
  own : W s p n → First G W After s p n
  later : {a : A} {q : ℕ} → Encoding G s p q a → After a s q n → First G W After s p n

-- As many of one kind: fewer of them are right, one after the other, and the next is wrong.
pub record Among {A : Type 0} (G : List ℕ → A → Type 0) (W : Wrong) (count : ℕ) (s : List ℕ) (p n : ℕ) : Type 0 where
  pub before : List A
  pub place : ℕ
  pub right : Encoding (Run G) s p place before
  pub fewer : length before < count
  pub wrong : W s place n

-- Kafka, message format, record header; document 01, A record: key, value
abbrev pub HeaderWrong : Wrong
HeaderWrong = First KeyBytes KeyWrong (λ _. BytesWrong false)

-- Kafka, message format, record; document 01, A record: attributes, timestampDelta, offsetDelta, key, value, the number
-- of headers, and as many headers
abbrev pub FieldsWrong : Wrong
FieldsWrong =
    First (Integer 1) (IntegerWrong 1) (λ _.
    First (Varies 64 false) (NumberWrong 64) (λ _.
    First (Varies 32 false) (NumberWrong 32) (λ _.
    First (Nullable true false) (BytesWrong true) (λ _.
    First (Nullable true false) (BytesWrong true) (λ _.
    First CountBytes (LengthWrong false) (λ count.
    Among (HeaderBytes false) HeaderWrong count))))))

-- ---- a record, and records

-- Document 01, A record: its length; then its fields, up to the nearer of the named end and the list's end; then 13,
-- where the fields are right and end before the named end.
pub data RecordWrong (s : List ℕ) (p : ℕ) : ℕ → Type 0 where
  size : {n : ℕ} → LengthWrong false s p n → RecordWrong s p n
  field : {m q n : ℕ} → Encoding CountBytes s p q m → FieldsWrong (take (q + m) s) q n → RecordWrong s p n
  left : {m q end : ℕ} {r : Record} → Encoding CountBytes s p q m → Encoding (FieldsBytes false) (take (q + m) s) q end r → end < q + m
      → RecordWrong s p 13

-- document 01, Reader's numbers, 13: as many records; then bytes after the last of them
pub data RecordsWrong (count : ℕ) (s : List ℕ) (p : ℕ) : ℕ → Type 0 where
  one : {n : ℕ} → Among (RecordBytes false) RecordWrong count s p n → RecordsWrong count s p n
  left : {rs : List Record} {q : ℕ} → Encoding (RecordsBytes false) s p q rs → length rs ≡ count → q < length s
      → RecordsWrong count s p 13

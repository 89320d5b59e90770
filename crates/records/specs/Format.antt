-- The format of records, from values to bytes. It says which bytes are an encoding of a value and knows nothing of
-- reading.
use Rattle.std.specs.Prelude.{ℕ, ◌≡◌, Bool, true, false, List, [], ◌∷◌, ◌++◌, ℤ, pos, length}
use Rattle.std.proofs.Math.Option.{Option}
use Rattle.numbers.specs.Format.{Integer, Varies, Sized, Nullable}
use Rattle.utf8.specs.Grammar.{Octets}

-- ---- what a record says

-- Kafka, message format, record header
pub record Header : Type 0 where
  pub key : List ℕ
  pub value : List ℕ

-- Kafka, message format, record; `none` is null
pub record Record : Type 0 where
  pub timestamp_delta : ℤ
  pub offset_delta : ℤ
  pub key : Option (List ℕ)
  pub value : Option (List ℕ)
  pub headers : List Header

-- ---- its bytes, in two strengths: the strict one wants every number in its shortest bytes and attributes of 0

-- things of one kind, one after the other
pub data Run {A : Type 0} (G : List ℕ → A → Type 0) : List ℕ → List A → Type 0 where
  ended : Run G [] []
  more : {x y : List ℕ} {a : A} {rest : List A} → G x a → Run G y rest → Run G (x ++ y) (a ∷ rest)

-- Kafka, message format, record header: key length and key, value length and value.
-- Limit of scope: a key is UTF-8 strictly by RFC 3629.
-- Exception, as in the Rust: a value is not null, which Kafka's page allows.
pub record HeaderBytes (strict : Bool) (bs : List ℕ) (h : Header) : Type 0 where
  pub key : List ℕ
  pub value : List ℕ
  pub is : bs ≡ key ++ value
  pub keyed : Sized strict key h.key
  pub utf8 : Octets h.key
  pub valued : Sized strict value h.value

-- Exception, as in the Rust: the attributes of a record say nothing and are any byte.
abbrev pub Unused : Bool → ℤ → Type 0
Unused false a = Unit {0}
Unused true a = a ≡ pos 0

-- Kafka, message format, record: what follows the length
pub record FieldsBytes (strict : Bool) (bs : List ℕ) (r : Record) : Type 0 where
  pub attributes : List ℕ
  pub timestamp_delta : List ℕ
  pub offset_delta : List ℕ
  pub key : List ℕ
  pub value : List ℕ
  pub count : List ℕ
  pub headers : List ℕ
  pub is : bs ≡ attributes ++ (timestamp_delta ++ (offset_delta ++ (key ++ (value ++ (count ++ headers)))))
  pub attribute : ℤ
  pub attributed : Integer 1 attributes attribute
  pub unused : Unused strict attribute
  pub timestamped : Varies 64 strict timestamp_delta r.timestamp_delta
  pub offset : Varies 32 strict offset_delta r.offset_delta
  pub keyed : Nullable true strict key r.key
  pub valued : Nullable true strict value r.value
  pub counted : Varies 32 strict count (pos (length r.headers))
  pub headed : Run (HeaderBytes strict) headers r.headers

-- Kafka, message format, record: the fields after their length, a Varint
pub record RecordBytes (strict : Bool) (bs : List ℕ) (r : Record) : Type 0 where
  pub fields : List ℕ
  pub sized : Sized strict bs fields
  pub holds : FieldsBytes strict fields r

-- Kafka, message format, record batch: records, one after the other
abbrev pub RecordsBytes : Bool → List ℕ → List Record → Type 0
RecordsBytes strict = Run (RecordBytes strict)

-- What the worked batches are chosen for. What proves each stands in proofs/ under the statement's name in small letters:
-- `spelled : Spelled`.
use Rattle.std.specs.Prelude.{ℕ, ◌+◌, ◌*◌, ◌≡◌, Bool, true, false, List, [], ◌∷◌, ◌++◌, map, eqb, ℤ, pos, negsuc, length}
use Rattle.std.proofs.Math.Option.{Option, none, some}
use Rattle.examples.specs.Examples.{text, lines, hex, minus, PlainHeader, PlainRecord, Holds, an_abort, a_commit, the_records, Example, examples, unlike_example}

-- ---- the spelling

-- Digits and characters say the bytes that anyone reads in them.
abbrev pub Spelled : Type 0
Spelled =
    (hex ("00 1F" ∷ "A0FF" ∷ []) ≡ 0 ∷ 31 ∷ 160 ∷ 255 ∷ [])
    × (text "Az 9" ≡ 65 ∷ 122 ∷ 32 ∷ 57 ∷ [])
    × (lines ("1\n" ∷ "2" ∷ []) ≡ 49 ∷ 10 ∷ 50 ∷ [])
    × (minus 5 ≡ negsuc 4)

-- ---- the sizes

-- Each worked batch is as long as its own length says, which leaves out twelve bytes; it has eight numbers a record, a
-- time each, and sixteen entries.
abbrev pub Measured : Type 0
Measured =
    (map (λ (e : Example). length e.bytes) examples ≡ map (λ (e : Example). 12 + e.batch_length) examples)
    × (map (λ (e : Example). length e.record_rows) examples ≡ map (λ (e : Example). 8 * length e.times) examples)
    × (map (λ (e : Example). length e.entries) examples ≡ map (λ (e : Example). 16) examples)

-- ---- the batch in which a swap shows

abbrev same : ℤ → ℤ → Bool
same (pos m) (pos n) = eqb m n
same (pos m) (negsuc n) = false
same (negsuc m) (pos n) = false
same (negsuc m) (negsuc n) = eqb m n

abbrev either : Bool → Bool → Bool
either true b = true
either false b = b

unfoldable pub stands : ℤ → List ℤ → Bool
stands n [] = false
stands n (m ∷ rest) = either (same n m) (stands n rest)

-- whether some number stands twice
unfoldable pub repeats : List ℤ → Bool
repeats [] = false
repeats (n ∷ rest) = either (stands n rest) (repeats rest)

abbrev size_of : Option (List ℕ) → List ℤ
size_of none = []
size_of (some bytes) = pos (length bytes) ∷ []

unfoldable pub header_sizes : List PlainHeader → List ℤ
header_sizes [] = []
header_sizes (h ∷ rest) = pos (length h.key) ∷ pos (length h.value) ∷ header_sizes rest

-- the lengths of all keys and values
unfoldable pub sizes : List PlainRecord → List ℤ
sizes [] = []
sizes (r ∷ rest) = size_of r.key ++ (size_of r.value ++ (header_sizes r.headers ++ sizes rest))

unfoldable pub deltas : List PlainRecord → List ℤ
deltas [] = []
deltas (r ∷ rest) = r.timestamp_delta ∷ r.offset_delta ∷ deltas rest

abbrev records_of : Holds → List PlainRecord
records_of an_abort = []
records_of a_commit = []
records_of (the_records rs) = rs

abbrev fields_of : Example → List ℤ
fields_of e =
    e.base_offset ∷ pos e.batch_length ∷ e.partition_leader_epoch ∷ pos e.crc ∷ pos e.attributes ∷ e.last_offset_delta
    ∷ e.first_timestamp ∷ e.max_timestamp ∷ e.producer_id ∷ e.producer_epoch ∷ e.base_sequence ∷ e.count ∷ []

-- In one of them no two of the fields and deltas are equal, and no two of the twelve lengths.
abbrev pub Unlike : Type 0
Unlike =
    (repeats (fields_of unlike_example ++ deltas (records_of unlike_example.holds)) ≡ false)
    × (repeats (sizes (records_of unlike_example.holds)) ≡ false)
    × (length (sizes (records_of unlike_example.holds)) ≡ 12)

-- The bytes of a record by the strict grammar: every number in its shortest bytes, attributes 0.
use Rattle.std.specs.Prelude.{ℕ, List, [], ◌∷◌, ◌++◌, pos, negsuc, length}
use Rattle.std.proofs.Math.Option.{Option, none, some}
use Rattle.numbers.specs.Format.{shortest}
use Rattle.records.specs.Format.{Header, Record}

-- bytes after their length, or the length -1 for null
unfoldable pub written_bytes : List ℕ → List ℕ
written_bytes v = shortest (pos (length v)) ++ v

abbrev pub written_nullable : Option (List ℕ) → List ℕ
written_nullable none = shortest (negsuc 0)
written_nullable (some v) = written_bytes v

abbrev pub written_header : Header → List ℕ
written_header h = written_bytes h.key ++ written_bytes h.value

unfoldable pub written_headers : List Header → List ℕ
written_headers [] = []
written_headers (h ∷ rest) = written_header h ++ written_headers rest

unfoldable pub written_fields : Record → List ℕ
written_fields r =
    (0 ∷ [])
    ++ (shortest r.timestamp_delta
    ++ (shortest r.offset_delta
    ++ (written_nullable r.key
    ++ (written_nullable r.value
    ++ (shortest (pos (length r.headers))
    ++ written_headers r.headers)))))

abbrev pub written_record : Record → List ℕ
written_record r = written_bytes (written_fields r)

unfoldable pub written_records : List Record → List ℕ
written_records [] = []
written_records (r ∷ rest) = written_record r ++ written_records rest

-- The size of what was read is the length of what is written for it: a span is as long as the bytes that it stands for,
-- and what is written is added up part by part. Assumes nothing.
use Prim.Native.Nat.{ℕ, suc, ◌+◌}
use mathlib.Core.Path.{◌≡◌, refl, sym, ap}
use mathlib.Core.Bool.{Bool, true}
use mathlib.Core.Option.{Option, none, some}
use mathlib.Core.List.{List}
use native.Mathlib.Omega.{arith}
use lib.ListN.{length, length-append}
use Rattle.numbers.specs.Format.{Nullable}
use Rattle.records.specs.Format.{Header, Run, HeaderBytes}
use Rattle.records.specs.Written.{written_bytes, written_nullable, written_headers, written_fields}
use Rattle.records.specs.Placed.{placed_nullable, placed_header, placed_run}
use Rattle.sizes.specs.Sizes.{span_size, place_size, head_size, length_in, headers_size, fields_size}
use Rattle.sizes.specs.Statements.{PlacedSized}
use Rattle.sizes.proofs.Lengths.{bytes_sized}

bytes_size : (v : List ℕ) → span_size (length v) ≡ length (written_bytes v)
bytes_size v = sym (bytes_sized v)

nullable_size : (strict : Bool) (bs : List ℕ) (v : Option (List ℕ)) (p : ℕ) (g : Nullable true strict bs v)
    → place_size (length_in (placed_nullable strict bs v p g)) ≡ length (written_nullable v)
nullable_size strict bs none p g = refl
nullable_size strict bs (some v) p g = bytes_size v

module _ {strict : Bool} where
  headers_count : {bs : List ℕ} {hs : List Header} (p : ℕ) (g : Run (HeaderBytes strict) bs hs)
      → length (placed_run (λ x h at e. placed_header at e) p g) ≡ length hs
  unfolding placed_run
  headers_count p Run.ended = refl
  headers_count p (Run.more {x} g others) = ap suc (headers_count (p + length x) others)

  headers_size_lem : {bs : List ℕ} {hs : List Header} (p : ℕ) (g : Run (HeaderBytes strict) bs hs)
      → headers_size (placed_run (λ x h at e. placed_header at e) p g) ≡ length (written_headers hs)
  unfolding placed_run headers_size written_headers
  headers_size_lem p Run.ended = refl
  headers_size_lem p (Run.more {x} {a = h} g others) =
      rw (bytes_size h.key, bytes_size h.value, headers_size_lem (p + length x) others) (simp length-append)

pub placed_sized : PlacedSized
unfolding fields_size head_size written_fields
placed_sized strict bs r p g =
    rw (
      nullable_size strict g.key r.key _ g.keyed,
      nullable_size strict g.value r.value _ g.valued,
      headers_count _ g.headed,
      headers_size_lem _ g.headed,
    )
    (simp length-append (omega arith))

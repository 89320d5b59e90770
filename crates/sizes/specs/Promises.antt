-- What each public function promises of its result, for every input.
use Rattle.std.specs.Prelude.{ℕ, ◌≤◌, ◌≡◌, ℤ, length}
use Rattle.numbers.specs.Format.{shortest}
use Rattle.sizes.specs.Sizes.{span_size, place_size, capped}

-- number_size: the shortest bytes of a number, of which there are at most ten
pub record NumberSizePromise (n : ℤ) (r : ℕ) : Type 0 where
  pub is : r ≡ length (shortest n)
  pub small : r ≤ 10

-- span_size
abbrev pub SpanSizePromise : ℕ → ℕ → Type 0
SpanSizePromise len r = r ≡ capped (span_size len)

-- place_size
abbrev pub PlaceSizePromise : ℤ → ℕ → Type 0
PlaceSizePromise len r = r ≡ capped (place_size len)

-- capped
abbrev pub CappedPromise : ℕ → ℕ → Type 0
CappedPromise n r = r ≡ capped n

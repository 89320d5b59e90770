-- The laws of codes at each width: the full bytes and the last one's limit hold just what the width holds, and the
-- zigzag turns codes and numbers into each other. Assumes nothing.
use Rattle.std.proofs.Common.{◌≡◌, ℕ, ◌-◌, ◌*◌, ◌^◌, ◌<◌, ◌≤◌, false, List, ◌++◌, length, ℤ, sym, ap, ◌∙◌, subst, arith, pow_pos, pow_mono, pow-add}
use Rattle.numbers.specs.Format.{zigzag, groups, Varies}
use Rattle.numbers.proofs.Shortest.{seven_bits}
use Rattle.numbers.proofs.Zigzag.{zigzag_below, zigzag_in_bits}
use Rattle.primitives.specs.Step.{ok, map_step}
use Rattle.primitives.specs.Stands.{Stands, Encoding}
use Rattle.primitives.specs.Reading.{code_at, full, limit, unzigzag, varint_at}
use Rattle.primitives.specs.Statements.{VarintSound, VarintComplete, VarintUnambiguous}
use Rattle.primitives.proofs.Steps.{map_ok}
use Rattle.primitives.proofs.Places.{in_front, whole, no_rest}
use Rattle.primitives.proofs.Zigzag.{zigzag_back, zigzag_again}
use Rattle.primitives.proofs.Codes.{Code, code_sound, code_complete}

-- ---- the limits of a width

pub width_holds : (w : ℕ) → 128 ^ full w * limit w ≡ 2 ^ w
width_holds w =
    ap (λ (x : ℕ). x * limit w) (seven_bits (full w))
    ∙ sym (pow-add 2 (7 * full w) (w - 7 * full w))
    ∙ ap (λ (x : ℕ). 2 ^ x) (omega arith)

pub limit_some : (w : ℕ) → 0 < limit w
limit_some w = pow_pos (w - 7 * full w)

pub limit_cap : (w : ℕ) → limit w ≤ 128
limit_cap w = pow_mono {j = 7} (omega arith)

-- ---- what is read is an encoding, and stands there

encoding : (w : ℕ) → 0 < w → {s : List ℕ} {p c q : ℕ} → Code (full w) (limit w) s p c q → Encoding (Varies w false) s p q (unzigzag c)
encoding w h {c = c} x =
    let e : zigzag (unzigzag c) ≡ c = zigzag_again c in
    record {
      bytes = groups x.more c;
      stands = x.stands;
      encodes =
          record {
            more = x.more;
            is = rw e;
            whole = rw e (x.whole (limit_cap w));
            short = omega (arith, x.short);
            fits = zigzag_in_bits w (unzigzag c) h (rw (e, ← width_holds w) (x.below (limit_some w)));
            tight = tt;
          };
    }

pub varint_sound : VarintSound
unfolding varint_at
varint_sound w s p n q h bytes e =
    let (c, was, gives) = map_ok unzigzag (code_at (full w) (limit w) s p) e in
    subst (Encoding (Varies w false) s p q) gives (encoding w h (code_sound (limit w) s bytes (full w) p was))

-- ---- an encoding that stands there is read

pub varint_complete : VarintComplete
unfolding varint_at
varint_complete w strict s p q bs n h x v =
    let y : Stands s p q (groups v.more (zigzag n)) = rw (← v.is) x in
    let below : zigzag n < 128 ^ full w * limit w = rw (width_holds w) (zigzag_below w n h v.fits) in
    let short : v.more ≤ full w = omega (arith, v.short) in
    ap (map_step unzigzag) (code_complete (limit w) s (full w) p v.more (zigzag n) y short v.whole below)
    ∙ ap (λ (z : ℤ). ok z q) (zigzag_back n)

-- ---- an encoding is read at the front of any list, so none is a proper beginning of another

pub varint_unambiguous : VarintUnambiguous
varint_unambiguous w strict strict' bs rest m n h u v =
    let a = varint_complete w strict (bs ++ rest) 0 (length bs) bs m h (in_front bs rest) u in
    let b = varint_complete w strict' (bs ++ rest) 0 (length (bs ++ rest)) (bs ++ rest) n h (whole (bs ++ rest)) v in
    (no_rest bs rest (cc), cc)

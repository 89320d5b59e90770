-- What stands in an output after bytes of a batch were put into it, and others over them. Assumes nothing.
use Prim.Native.Nat.{ℕ, ◌+◌, ◌≤◌}
use mathlib.Core.Path.{◌≡◌, refl, sym, ap, ◌∙◌}
use mathlib.Core.List.{List, [], ◌++◌, append_assoc}
use native.Mathlib.Omega.{arith}
use lib.ListN.{length, take, drop, take-append-drop, length-append, length-drop}
use lib.Seq.{sets, sets-eq, length-take-le, take_at, drop_at, drop-drop, take-add}
use Rattle.numbers.specs.Format.{big_endian}
use Rattle.numbers.specs.Promises.{PutPromise}
use Rattle.numbers.proofs.Integers.{big_endian_length}
use Rattle.crc32c.specs.Crc.{crc32c}
use Rattle.layout.specs.Table.{fixed_part, unchecked}
use Rattle.layout.specs.Batch.{Marker}
use Rattle.markers.specs.Forms.{written_control}
use Rattle.markers.proofs.Keyed.{control_size_lem}
use Rattle.converting.specs.Conversion.{between, rekeyed_checked, rekeyed}
use Rattle.converting.specs.Giving.{rekeyed_size, with_length, with_checksum}

-- bytes over as many others
replaced : (front old new rest : List ℕ) (at : ℕ) → length front ≡ at → length old ≡ length new
    → sets (front ++ (old ++ rest)) at new ≡ front ++ (new ++ rest)
replaced front old new rest at e f =
    let l : List ℕ = front ++ (old ++ rest) in
    let long : length l ≡ length front + (length old + length rest)
    = length-append front (old ++ rest) ∙ ap (λ (n : ℕ). length front + n) (length-append old rest) in
    let after : drop (at + length new) l ≡ rest
    = sym (drop-drop (length new) at l) ∙ ap (drop (length new)) (drop_at front (old ++ rest) at e) ∙ drop_at old rest (length new) f in
    sets-eq new l at (omega arith)
    ∙ append_assoc (take at l) new (drop (at + length new) l)
    ∙ (λ i. take_at front (old ++ rest) at e i ++ (new ++ after i))

-- bytes at an output's start
pub put_first : (bs out : List ℕ) → length bs ≤ length out → sets out 0 bs ≡ bs ++ drop (length bs) out
put_first bs out h =
    ap (λ (l : List ℕ). sets l 0 bs) (sym (take-append-drop (length bs) out))
    ∙ replaced [] (take (length bs) out) bs (drop (length bs) out) 0 refl (length-take-le (length bs) out h)

-- ---- the parts of what is given, for any list and any marker's bytes

module _ (a b c d e m old rest : List ℕ) (la : length a ≡ 8) (lb : length b ≡ 4) (lc : length c ≡ 5) (ld : length d ≡ 4)
    (le : length e ≡ 40) (lm : length m ≡ 11) (lo : length old ≡ 11) where
  abbrev front : List ℕ
  front = a ++ (b ++ (c ++ (d ++ e)))

  front_length : length front ≡ 61
  front_length =
      length-append a (b ++ (c ++ (d ++ e)))
      ∙ omega (arith, length-append b (c ++ (d ++ e)), length-append c (d ++ e), length-append d e)

  -- the marker after the fixed fields
  marked : sets (front ++ (old ++ rest)) 61 m ≡ a ++ (b ++ (c ++ (d ++ (e ++ (m ++ rest)))))
  marked = replaced front old m rest 61 front_length (lo ∙ sym lm) ∙ simp append_assoc

  module _ (n : List ℕ) (ln : length n ≡ 4) where
    abbrev before : List ℕ
    before = a ++ (n ++ c)

    before_length : length before ≡ 17
    before_length = length-append a (n ++ c) ∙ omega (arith, length-append n c)

    abbrev counted : List ℕ
    counted = before ++ (d ++ (e ++ (m ++ rest)))

    -- the length over the old one
    measured : sets (a ++ (b ++ (c ++ (d ++ (e ++ (m ++ rest)))))) 8 n ≡ counted
    measured = replaced a b n (c ++ (d ++ (e ++ (m ++ rest)))) 8 la (lb ∙ sym ln) ∙ simp append_assoc

    -- what the checksum is over
    checked : take 51 (drop 21 counted) ≡ e ++ m
    checked =
        let long : length (before ++ d) ≡ 21 = length-append before d ∙ omega (arith, before_length) in
        let size : length (e ++ m) ≡ 51 = length-append e m ∙ omega arith in
        let split : counted ≡ (before ++ d) ++ ((e ++ m) ++ rest) = simp append_assoc in
        ap (λ (l : List ℕ). take 51 (drop 21 l)) split
        ∙ ap (take 51) (drop_at (before ++ d) ((e ++ m) ++ rest) 21 long)
        ∙ take_at (e ++ m) rest 51 size

    -- the checksum over the old one
    sealed : (x : List ℕ) → length x ≡ 4 → sets counted 17 x ≡ (a ++ (n ++ (c ++ (x ++ (e ++ m))))) ++ rest
    sealed x lx = replaced before d x (e ++ (m ++ rest)) 17 before_length (ld ∙ sym lx) ∙ simp append_assoc

    -- all of it
    all_over : (o o' o'' o''' : List ℕ) → o ≡ front ++ (old ++ rest) → o' ≡ sets o 61 m → o'' ≡ sets o' 8 n → o''' ≡ with_checksum o''
        → o''' ≡ (a ++ (n ++ (c ++ (big_endian 4 (crc32c (e ++ m)) ++ (e ++ m))))) ++ rest
    all_over o o' o'' o''' p p' p'' p''' =
        let x : List ℕ = big_endian 4 (crc32c (take 51 (drop 21 o''))) in
        let long : o'' ≡ counted
        = p'' ∙ ap (λ (l : List ℕ). sets l 8 n) (p' ∙ ap (λ (l : List ℕ). sets l 61 m) p ∙ marked) ∙ measured in
        let over : take 51 (drop 21 o'') ≡ e ++ m = ap (λ (l : List ℕ). take 51 (drop 21 l)) long ∙ checked in
        p'''
        ∙ ap (λ (l : List ℕ). sets l 17 x) long
        ∙ sealed x (big_endian_length 4 (crc32c (take 51 (drop 21 o''))))
        ∙ (λ i. (a ++ (n ++ (c ++ (big_endian 4 (crc32c (over i)) ++ (e ++ m))))) ++ rest)

-- ---- what is given of a marker that stands alone

module _ (s : List ℕ) (k : Marker) (h : fixed_part ≤ length s) where
  piece_length : (from n : ℕ) → from + n ≤ fixed_part → length (take n (drop from s)) ≡ n
  piece_length from n f = length-take-le n (drop from s) (omega (arith, length-drop from s))

  checked_length : length (rekeyed_checked s k) ≡ 51
  unfolding rekeyed_checked
  checked_length = length-append (between 21 61 s) (written_control k) ∙ omega (arith, piece_length 21 40 (omega arith), control_size_lem k)

  -- each part has its length
  abbrev length_bytes : List ℕ
  length_bytes = big_endian 4 (unchecked + length (rekeyed_checked s k))

  abbrev crc_bytes : List ℕ
  crc_bytes = big_endian 4 (crc32c (rekeyed_checked s k))

  pub rekeyed_length : length (rekeyed s k) ≡ rekeyed_size
  unfolding rekeyed
  rekeyed_length =
      let checked : List ℕ = rekeyed_checked s k in
      length-append (take 8 s) _
      ∙ omega (
        arith,
        length-take-le 8 s (omega arith),
        length-append length_bytes (between 12 17 s ++ (crc_bytes ++ checked)),
        big_endian_length 4 (unchecked + length checked),
        length-append (between 12 17 s) (crc_bytes ++ checked),
        piece_length 12 5 (omega arith),
        length-append crc_bytes checked,
        big_endian_length 4 (crc32c checked),
        checked_length,
      )

  -- the fixed fields, part after part
  parts : take 61 s ≡ take 8 s ++ (take 4 (drop 8 s) ++ (between 12 17 s ++ (take 4 (drop 17 s) ++ between 21 61 s)))
  parts =
      take-add 8 53 s
      ∙ ap (λ (l : List ℕ). take 8 s ++ l) (taken 8 4 49
      ∙ ap (λ (l : List ℕ). take 4 (drop 8 s) ++ l) (taken 12 5 44
      ∙ ap (λ (l : List ℕ). between 12 17 s ++ l) (taken 17 4 40)))
    where
      taken : (from n rest : ℕ) → take (n + rest) (drop from s) ≡ take n (drop from s) ++ take rest (drop (from + n) s)
      taken from n rest = take-add n rest (drop from s) ∙ ap (λ (l : List ℕ). take n (drop from s) ++ take rest l) (drop-drop n from s)

  module _ (out : List ℕ) (room : rekeyed_size ≤ length out) where
    -- all that is put, over what stood there
    pub rekeyed_put : (next : ℕ) (o : List ℕ) → PutPromise (take 61 s) out 0 (record { next = next; output = o })
        → (next' : ℕ) (o' : List ℕ) → PutPromise (written_control k) o 61 (record { next = next'; output = o' })
        → (o'' : List ℕ) → o'' ≡ with_length o' → (o''' : List ℕ) → o''' ≡ with_checksum o''
        → o''' ≡ rekeyed s k ++ drop rekeyed_size out
    unfolding rekeyed rekeyed_checked
    rekeyed_put _ o p _ o' p' o'' p'' o''' p''' =
        let a = take 8 s in
        let c = between 12 17 s in
        let checked = between 21 61 s ++ written_control k in
        let old = take 11 (drop 61 out) in
        let rest = drop 72 out in
        let long = length-take-le 61 s (omega arith) in
        let split : drop 61 out ≡ old ++ rest
        = sym (take-append-drop 11 (drop 61 out)) ∙ ap (λ (l : List ℕ). old ++ l) (drop-drop 11 61 out) in
        let laid
        = p.output
        ∙ put_first (take 61 s) out (omega arith)
        ∙ ap (λ (j : ℕ). take 61 s ++ drop j out) long
        ∙ (λ i. parts i ++ split i) in
        let sixty : 60 ≡ unchecked + length checked = omega (arith, checked_length) in
        all_over a (take 4 (drop 8 s)) c (take 4 (drop 17 s)) (between 21 61 s) (written_control k) old rest
        (length-take-le 8 s (omega arith))
        (piece_length 8 4 (omega arith))
        (piece_length 12 5 (omega arith))
        (piece_length 17 4 (omega arith))
        (piece_length 21 40 (omega arith))
        (control_size_lem k)
        (length-take-le 11 (drop 61 out) (omega (arith, length-drop 61 out)))
        (big_endian 4 60) (big_endian_length 4 60) o o' o'' o''' laid p'.output p'' p'''
        ∙ (λ i. (a ++ (big_endian 4 (sixty i) ++ (c ++ (big_endian 4 (crc32c checked) ++ checked)))) ++ rest)

-- ---- what is put over the old ones

pub length_put_lem : (bytes out : List ℕ) (next : ℕ) (output : List ℕ) → bytes ≡ big_endian 4 60
    → PutPromise bytes out 8 (record { next = next; output = output }) → output ≡ with_length out
length_put_lem bytes out next output e p = p.output ∙ ap (sets out 8) e

pub checksum_put : (bytes out : List ℕ) (sum next : ℕ) (output : List ℕ) → sum ≡ crc32c (take 51 (drop 21 out)) → bytes ≡ big_endian 4 sum
    → PutPromise bytes out 17 (record { next = next; output = output }) → output ≡ with_checksum out
checksum_put bytes out sum next output e f p = p.output ∙ ap (sets out 17) (f ∙ ap (big_endian 4) e)

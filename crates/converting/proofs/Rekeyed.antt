-- A batch in the form that is withdrawn, and what is given for it: the fixed fields stand where they stood, batchLength
-- and checksum are worked out anew, and the marker is the key of a record; so it is a batch in the keyed form with the
-- same fields and marker. Assumes nothing.
use Prim.Native.Nat.{ℕ, ◌+◌}
use mathlib.Core.Path.{◌≡◌, refl, sym, ap, ◌∙◌, subst}
use mathlib.Core.Bool.{true, false}
use mathlib.Core.List.{List, ◌++◌, append_assoc, append-nil}
use native.Mathlib.Omega.{arith}
use lib.ListN.{length, take, drop, length-append}
use Rattle.numbers.specs.Bytes.{Bytes}
use Rattle.numbers.specs.Concat.{concat}
use Rattle.numbers.specs.Format.{big_endian}
use Rattle.numbers.proofs.Integers.{big_endian_length, integer_length}
use Rattle.numbers.proofs.AllBytes.{joined_bytes, left_bytes}
use Rattle.primitives.specs.Stands.{Stands}
use Rattle.primitives.proofs.Places.{first, second, shows, whole, all_left, in_front}
use Rattle.primitives.proofs.Windows.{window_bytes}
use Rattle.crc32c.specs.Crc.{castagnoli, crc32c}
use Rattle.crc32c.proofs.Division.{castagnoli_reflected}
use Rattle.crc32c.proofs.Injective.{checksum_held}
use Rattle.records.specs.Format.{Record}
use Rattle.layout.specs.declared.ControlMode.{ControlMode}
use Rattle.layout.specs.Table.{FixedFields, unchecked, uncounted_fields, unchecked_fields, checked_fields}
use Rattle.layout.specs.Batch.{Fields, Marker, control, Batch}
use Rattle.layout.specs.Format.{bare_grammar, grammar_of, BatchBytesWith, BatchBytes}
use Rattle.opening.specs.Judgement.{accepted, judge}
use Rattle.markers.specs.Forms.{written_control}
use Rattle.markers.proofs.Forms.{forms_lawful}
use Rattle.markers.proofs.Keyed.{keyed_encodes, keyed_octets, control_size_lem}
use Rattle.markers.proofs.Bare.{bare_length}
use Rattle.batches.proofs.Complete.{complete}
use Rattle.batches.proofs.Parts.{parts_stand}
use Rattle.batches.proofs.Sizes.{body_rest}
use Rattle.converting.specs.Conversion.{between, rekeyed_checked, rekeyed}

-- what is written of a marker is of the lax grammar too, since it is read
control_encodes : (m : Marker) → grammar_of ControlMode.Keyed false (written_control m) m
unfolding grammar_of
control_encodes m =
    let w = written_control m in
    let reads = (forms_lawful ControlMode.Keyed).reads in
    let x = (reads.sound w 0 (length w) m (keyed_octets m) (reads.complete true w 0 w m (whole w) (keyed_encodes m))).0 in
    subst (λ (bs : List ℕ). grammar_of ControlMode.Keyed false bs m) (sym (all_left x.stands)) x.encodes

-- so many bytes from a place on, where a part of so many stands first
front : {s : List ℕ} {p q : ℕ} (n : ℕ) (a b : List ℕ) → Stands s p q (a ++ b) → length a ≡ n → take n (drop p s) ≡ a
front {s} {p} n a b x e = ap (λ (k : ℕ). take k (drop p s)) (sym e) ∙ shows (first a b x)

module _ {s : List ℕ} {q : ℕ} {bs : List ℕ} {x : Fields} {m : Marker} (bytes : Bytes s) (stands : Stands s 0 q bs)
    (g : BatchBytesWith bare_grammar false bs (record { fields = x; content = control m })) where
  -- ---- what is kept, as the parts that it is

  abbrev old : FixedFields (List ℕ)
  old = g.part

  first_eight : take 8 s ≡ old.base_offset
  unfolding concat
  first_eight =
      let e : bs ≡ old.base_offset ++ (old.batch_length ++ g.counted) = g.is ∙ simp (append_assoc, append-nil) in
      front 8 old.base_offset _ (subst (Stands s 0 q) e stands) (integer_length g.base_offset)

  next_five : between 12 17 s ≡ old.partition_leader_epoch ++ old.magic
  unfolding concat
  next_five =
      let e : g.counted ≡ (old.partition_leader_epoch ++ old.magic) ++ (old.crc ++ g.checked) = g.counted_is ∙ simp (append_assoc, append-nil) in
      front 5 (old.partition_leader_epoch ++ old.magic) _ (subst (Stands s 12 q) e (parts_stand stands g).counted)
      (omega (
        arith,
        length-append old.partition_leader_epoch old.magic,
        integer_length g.partition_leader_epoch,
        integer_length g.magic,
      ))

  checked_stands : Stands s 21 q (concat (checked_fields old) ++ g.body)
  checked_stands = subst (Stands s 21 q) g.checked_is (parts_stand stands g).checked

  forty : length (concat (checked_fields old)) ≡ 40
  forty = omega (arith, (second (concat (checked_fields old)) g.body checked_stands).end, (parts_stand stands g).body.end)

  last_forty : between 21 61 s ≡ concat (checked_fields old)
  last_forty = front 40 (concat (checked_fields old)) g.body checked_stands forty

  -- ---- what is worked out anew

  checked_is_lem : rekeyed_checked s m ≡ concat (checked_fields old) ++ written_control m
  unfolding rekeyed_checked
  checked_is_lem = rw last_forty

  checked_length : length (rekeyed_checked s m) ≡ 51
  checked_length =
      ap length checked_is_lem ∙ length-append (concat (checked_fields old)) (written_control m) ∙ omega (arith, control_size_lem m, forty)

  checked_bytes_lem : Bytes (rekeyed_checked s m)
  unfolding rekeyed_checked
  checked_bytes_lem = joined_bytes (between 21 61 s) (written_control m) (window_bytes 40 (drop 21 s) (left_bytes 21 s bytes)) (keyed_octets m)

  abbrev fixed : FixedFields (List ℕ)
  fixed =
      record {
        base_offset = old.base_offset;
        batch_length = big_endian 4 (unchecked + length (rekeyed_checked s m));
        partition_leader_epoch = old.partition_leader_epoch;
        magic = old.magic;
        crc = big_endian 4 (crc32c (rekeyed_checked s m));
        attributes = old.attributes;
        last_offset_delta = old.last_offset_delta;
        first_timestamp = old.first_timestamp;
        max_timestamp = old.max_timestamp;
        producer_id = old.producer_id;
        producer_epoch = old.producer_epoch;
        base_sequence = old.base_sequence;
        count = old.count;
      }

  abbrev counted : List ℕ
  counted = concat (unchecked_fields fixed) ++ rekeyed_checked s m

  counted_length : length counted ≡ unchecked + length (rekeyed_checked s m)
  unfolding concat
  counted_length =
      simp (length-append, big_endian_length) (omega (arith, integer_length g.partition_leader_epoch, integer_length g.magic))

  rekeyed_is : rekeyed s m ≡ concat (uncounted_fields fixed) ++ counted
  unfolding rekeyed concat
  rekeyed_is = rw (first_eight, next_five) (simp (append_assoc, append-nil))

  -- ---- the batch

  pub rekeyed_encodes : BatchBytes ControlMode.Keyed false (rekeyed s m) (record { fields = x; content = control m })
  rekeyed_encodes =
      record {
        part = fixed;
        body = written_control m;
        checked = rekeyed_checked s m;
        counted = counted;
        higher = g.higher;
        count = g.count;
        is = rekeyed_is;
        counted_is = refl;
        checked_is = checked_is_lem;
        base_offset = g.base_offset;
        batch_length = record { is = ap (big_endian 4) (sym counted_length); fits = omega (arith, counted_length, checked_length) };
        partition_leader_epoch = g.partition_leader_epoch;
        magic = g.magic;
        crc = record { is = refl; fits = checksum_held castagnoli (rekeyed_checked s m) castagnoli_reflected checked_bytes_lem };
        attributes = g.attributes;
        last_offset_delta = g.last_offset_delta;
        first_timestamp = g.first_timestamp;
        max_timestamp = g.max_timestamp;
        producer_id = g.producer_id;
        producer_epoch = g.producer_epoch;
        base_sequence = g.base_sequence;
        numbered = g.numbered;
        counts = g.counts;
        holds = control_encodes m;
      }

  -- seven bytes more than before
  pub rekeyed_size_lem : length (rekeyed s m) ≡ length bs + 7
  unfolding rekeyed_encodes
  rekeyed_size_lem = omega (arith, body_rest rekeyed_encodes, control_size_lem m, body_rest g, bare_length g.holds)

  pub rekeyed_reads : (after : List ℕ)
      → judge ControlMode.Keyed (rekeyed s m ++ after)
      ≡ accepted (record { fields = x; content = control m; first_header = 0; consumed = length (rekeyed s m) })
  rekeyed_reads after =
      let b : Batch Record = record { fields = x; content = control m } in
      (complete ControlMode.Keyed false (rekeyed s m ++ after) 0 0 (length (rekeyed s m)) (rekeyed s m) b (in_front (rekeyed s m) after) rekeyed_encodes).0

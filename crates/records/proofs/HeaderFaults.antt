-- The first fault of a header: that of its key, and then that of its value. Assumes nothing.
use Prim.Native.Nat.{ℕ}
use mathlib.Core.Bool.{false}
use mathlib.Core.List.{List}
use Rattle.numbers.specs.Bytes.{Bytes}
use Rattle.primitives.specs.Reading.{bytes_of}
use Rattle.primitives.specs.Faults.{BytesWrong}
use Rattle.records.specs.Format.{HeaderBytes}
use Rattle.records.specs.Judgement.{bytes_at, key_at, header_at}
use Rattle.records.specs.Placed.{placed_bytes, placed_header, shown_header}
use Rattle.records.specs.Faults.{KeyWrong, KeyBytes, HeaderWrong}
use Rattle.records.specs.Statements.{HeaderFaults}
use Rattle.records.proofs.Shows.{bytes_shows}
use Rattle.records.proofs.Found.{bytes_found, key_read}
use Rattle.records.proofs.Complete.{key_reads, header_complete}
use Rattle.records.proofs.Sound.{header_sound}
use Rattle.records.proofs.Judges.{Judges, first_exactly, by_map}
use Rattle.records.proofs.KeyFaults.{present_faults, key_faults}

key_judges : (s : List ℕ) → Bytes s → Judges KeyBytes KeyWrong (bytes_of s) s (key_at s)
key_judges s b =
    record {
      finds = λ p x q e.
          (let (read, utf8) = key_read s p e in
          let t = (bytes_found s b p read).0 in
          record { bytes = t.bytes; stands = t.stands; encodes = (t.encodes, utf8) });
      reads = λ p q v t.
          (let (g, o) = t.encodes in (placed_bytes v p g, key_reads t.stands g o, bytes_shows t.stands g));
      refuses = λ p n l. key_faults s p n b l;
    }

pub header_faults : HeaderFaults
unfolding header_at
header_faults s p n b l =
    first_exactly (key_judges s b) (λ _. BytesWrong false) _ p n l
    (λ k q h. by_map _ (bytes_at s q) (present_faults s q n b h))

pub header_judges : (s : List ℕ) → Bytes s → Judges (HeaderBytes false) HeaderWrong (shown_header s) s (header_at s)
header_judges s b =
    record {
      finds = λ p x q e. (header_sound s p x q b e).0;
      reads = λ p q h t. (let (e, w) = header_complete false s p q t.bytes h t.stands t.encodes in (placed_header p t.encodes, e, w));
      refuses = λ p n l. header_faults s p n b l;
    }

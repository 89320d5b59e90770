-- Worked control batches as brokers write them, written by tools/worked.py keyed: the marker stands in the key of a
-- record. The values come from the tables of document 01, from Kafka's page and from bindings/c/oddrafisk.h, by
-- Python's arithmetic, and from no other definition.
use Rattle.std.specs.Prelude.{ℕ, true, false, List, [], ◌∷◌, pos}
use Rattle.examples.specs.Examples.{text, hex, minus, an_abort, a_commit, Example}

-- a stored batch, and what it is converted to
pub record Stored : Type 0 where
  pub bytes : List ℕ
  pub converted : List ℕ

-- A commit marker of a transaction as it is written, create time.
abbrev keyed : List ℕ
keyed =
    hex ("0102030405060708 0000003C 11121314 02 8AF47DA1"
    ∷ "0030 21222324 3132333435363738 4142434445464748 5152535455565758 6162 71727374 00000001"
    ∷ "14 00 00 00 08 00000001 01 00"
    ∷ [])

abbrev pub keyed_example : Example
keyed_example =
    record {
      bytes = keyed;
      base_offset = pos 72623859790382856;
      batch_length = 60;
      partition_leader_epoch = pos 286397204;
      crc = 2331278753;
      attributes = 48;
      last_offset_delta = pos 555885348;
      first_timestamp = pos 3544952156018063160;
      max_timestamp = pos 4702394921427289928;
      producer_id = pos 5859837686836516696;
      producer_epoch = pos 24930;
      base_sequence = pos 1903326068;
      count = pos 1;
      log_append = false;
      transactional = true;
      holds = a_commit;
      record_rows = [];
      header_rows = [];
      times = [];
      written = keyed;
      entries =
          pos 72623859790382856 ∷ pos 286397204 ∷ pos 555885348 ∷ pos 3544952156018063160
          ∷ pos 4702394921427289928 ∷ pos 5859837686836516696 ∷ pos 24930 ∷ pos 1903326068
          ∷ pos 0 ∷ pos 1 ∷ pos 2 ∷ pos 0
          ∷ pos 0 ∷ pos 72 ∷ pos 0 ∷ pos 0
          ∷ [];
      line = text "72623859790382856 72 commit 0 0\n";
    }

-- An abort marker with a value of six bytes, of sarama 1.22.1: not canonical.
abbrev brokers : List ℕ
brokers =
    hex ("0000000000000000 00000042 00000000 02 37473112"
    ∷ "0030 00000000 0000018BCFE56800 0000018BCFE56801 0000000000002329 0000 FFFFFFFF 00000001"
    ∷ "20 00 00 00 08 00000000 0C 000000000005 00"
    ∷ [])

abbrev pub brokers_example : Example
brokers_example =
    record {
      bytes = brokers;
      base_offset = pos 0;
      batch_length = 66;
      partition_leader_epoch = pos 0;
      crc = 927412498;
      attributes = 48;
      last_offset_delta = pos 0;
      first_timestamp = pos 1700000000000;
      max_timestamp = pos 1700000000001;
      producer_id = pos 9001;
      producer_epoch = pos 0;
      base_sequence = minus 1;
      count = pos 1;
      log_append = false;
      transactional = true;
      holds = an_abort;
      record_rows = [];
      header_rows = [];
      times = [];
      written = hex ("0000000000000000 0000003C 00000000 02 16C4B652"
          ∷ "0030 00000000 0000018BCFE56800 0000018BCFE56801 0000000000002329 0000 FFFFFFFF 00000001"
          ∷ "14 00 00 00 08 00000000 01 00"
          ∷ []);
      entries =
          pos 0 ∷ pos 0 ∷ pos 0 ∷ pos 1700000000000
          ∷ pos 1700000000001 ∷ pos 9001 ∷ pos 0 ∷ minus 1
          ∷ pos 0 ∷ pos 1 ∷ pos 1 ∷ pos 0
          ∷ pos 0 ∷ pos 78 ∷ pos 0 ∷ pos 0
          ∷ [];
      line = text "0 78 abort 0 0\n";
    }

abbrev pub keyed_examples : List Example
keyed_examples = keyed_example ∷ brokers_example ∷ []

-- stored control batches whose marker stands alone, and a keyed one
abbrev pub conversions : List Stored
conversions =
    -- a commit
    record {
      bytes = hex ("0102030405060708 00000035 11121314 02 23EA50BF"
          ∷ "0030 21222324 3132333435363738 4142434445464748 5152535455565758 6162 71727374 00000001"
          ∷ "00000001"
          ∷ []);
      converted = hex ("0102030405060708 0000003C 11121314 02 8AF47DA1"
          ∷ "0030 21222324 3132333435363738 4142434445464748 5152535455565758 6162 71727374 00000001"
          ∷ "1400000008000000010100"
          ∷ []);
    }
    -- an abort
    ∷ record {
      bytes = hex ("FFFFFFFFFFFFFFFF 00000035 FFFFFFFE 02 DD499466"
          ∷ "0028 FFFFFFFD FFFFFFFFFFFFFFFC FFFFFFFFFFFFFFFB FFFFFFFFFFFFFFFA FFF9 FFFFFFF8 00000001"
          ∷ "00000000"
          ∷ []);
      converted = hex ("FFFFFFFFFFFFFFFF 0000003C FFFFFFFE 02 3BA3F904"
          ∷ "0028 FFFFFFFD FFFFFFFFFFFFFFFC FFFFFFFFFFFFFFFB FFFFFFFFFFFFFFFA FFF9 FFFFFFF8 00000001"
          ∷ "1400000008000000000100"
          ∷ []);
    }
    -- attribute bits above 5, as they stand
    ∷ record {
      bytes = hex ("0000000000000005 00000035 00000003 02 4D8495B3"
          ∷ "8070 00000000 00000000000003E8 00000000000003E8 0000000000000009 0001 FFFFFFFF 00000001"
          ∷ "00000001"
          ∷ []);
      converted = hex ("0000000000000005 0000003C 00000003 02 198B7A08"
          ∷ "8070 00000000 00000000000003E8 00000000000003E8 0000000000000009 0001 FFFFFFFF 00000001"
          ∷ "1400000008000000010100"
          ∷ []);
    }
    -- a keyed marker
    ∷ record {
      bytes = hex ("0102030405060708 0000003C 11121314 02 8AF47DA1"
          ∷ "0030 21222324 3132333435363738 4142434445464748 5152535455565758 6162 71727374 00000001"
          ∷ "1400000008000000010100"
          ∷ []);
      converted = hex ("0102030405060708 0000003C 11121314 02 8AF47DA1"
          ∷ "0030 21222324 3132333435363738 4142434445464748 5152535455565758 6162 71727374 00000001"
          ∷ "1400000008000000010100"
          ∷ []);
    }
    ∷ []

-- Worked batches, written by tools/worked.py: bytes, and all that is to be read in them and written for them. The values
-- come from the sentences and tables of document 01 and from bindings/c/oddrafisk.h, by Python's arithmetic, and from no
-- other definition: these are plain data alone.
use Prim.Native.Char.{code}
use Rattle.std.specs.Prelude.{ℕ, zero, suc, ◌+◌, ◌-◌, ◌*◌, Bool, true, false, List, [], ◌∷◌, ◌++◌, ltb, ℤ, pos, negsuc}
use Prim.Native.String.{String, [] as noText, ◌∷◌ as ◌before◌}
use Rattle.std.proofs.Math.Option.{Option, none, some}

-- ---- how bytes and numbers are spelled here

-- the codes of a text's characters
unfoldable pub text : String → List ℕ
text noText = []
text (c before rest) = code c ∷ text rest

-- those of some lines, one after the other
unfoldable pub lines : List String → List ℕ
lines [] = []
lines (line ∷ rest) = text line ++ lines rest

-- a hexadecimal digit, and a space, which says nothing
abbrev digit : ℕ → (space decimal : Bool) → List ℕ
digit c true _ = []
digit c false true = (c - 48) ∷ []
digit c false false = (c - 55) ∷ []

unfoldable pub digits : String → List ℕ
digits noText = []
digits (c before rest) = digit (code c) (ltb (code c) 48) (ltb (code c) 58) ++ digits rest

-- a byte for each two digits
unfoldable pub paired : List ℕ → List ℕ
paired [] = []
paired (a ∷ []) = []
paired (a ∷ b ∷ rest) = (16 * a + b) ∷ paired rest

-- those of some lines, one after the other
unfoldable pub hex : List String → List ℕ
hex [] = []
hex (line ∷ rest) = paired (digits line) ++ hex rest

abbrev pub minus : ℕ → ℤ
minus zero = pos 0
minus (suc k) = negsuc k

-- ---- what is said of a batch

pub record PlainHeader : Type 0 where
  pub key : List ℕ
  pub value : List ℕ

-- `none` is null
pub record PlainRecord : Type 0 where
  pub timestamp_delta : ℤ
  pub offset_delta : ℤ
  pub key : Option (List ℕ)
  pub value : Option (List ℕ)
  pub headers : List PlainHeader

pub data Holds : Type 0 where
  an_abort : Holds
  a_commit : Holds
  the_records : List PlainRecord → Holds

pub record Example : Type 0 where
  -- all bytes of the batch
  pub bytes : List ℕ
  -- document 01, Fixed fields
  pub base_offset : ℤ
  pub batch_length : ℕ
  pub partition_leader_epoch : ℤ
  pub crc : ℕ
  pub attributes : ℕ
  pub last_offset_delta : ℤ
  pub first_timestamp : ℤ
  pub max_timestamp : ℤ
  pub producer_id : ℤ
  pub producer_epoch : ℤ
  pub base_sequence : ℤ
  pub count : ℤ
  -- what bits 3 and 4 of the attributes say
  pub log_append : Bool
  pub transactional : Bool
  -- what follows the fixed fields
  pub holds : Holds
  -- document 01, Tables: the rows that are filled, eight numbers a record and four a header
  pub record_rows : List ℤ
  pub header_rows : List ℤ
  -- document 01, Record time: of each record
  pub times : List (Option ℤ)
  -- what the writer gives for the batch: these very bytes, where they are canonical; where a marker stands alone, what
  -- it gave before C-24
  pub written : List ℕ
  -- bindings/c/oddrafisk.h: the sixteen entries
  pub entries : List ℤ
  -- document 01, The listing: its line; where a marker stands alone there is none
  pub line : List ℕ

-- bytes that are no batch, how many records they name where one of these is wrong, document 01's number, and where that
-- is 1 how many bytes are needed; all else is 0
pub record Refusal : Type 0 where
  pub bytes : List ℕ
  pub count : ℕ
  pub number : ℕ
  pub needed : ℕ

-- rows that no batch has, for so many records, and document 01's number
pub record RowRefusal : Type 0 where
  pub source : List ℕ
  pub record_rows : List ℤ
  pub header_rows : List ℤ
  pub count : ℕ
  pub number : ℕ

-- a file, and its whole listing
pub record Listed : Type 0 where
  pub file : List ℕ
  pub listing : List ℕ

-- ---- worked batches

-- samples/kcat.log, the second batch: keys, values and headers.
abbrev kcat : List ℕ
kcat =
    hex ("0000000000000004 0000006D 00000000 02 C0F2FB01"
    ∷ "0000 00000001 000001A1DD10CB0E 000001A1DD10CB0E FFFFFFFFFFFFFFFF FFFF FFFFFFFF 00000002"
    ∷ "3A 00 00 00 02 78 06 6F6E65 04 0C 736F75726365 08 6B636174 0A 656D707479 00"
    ∷ "3A 00 00 02 02 79 06 74776F 04 0C 736F75726365 08 6B636174 0A 656D707479 00"
    ∷ [])

abbrev kcat_records : List PlainRecord
kcat_records =
    record {
      timestamp_delta = pos 0;
      offset_delta = pos 0;
      key = some (text "x");
      value = some (text "one");
      headers =
          record { key = text "source"; value = text "kcat" }
          ∷ record { key = text "empty"; value = [] }
          ∷ [];
    }
    ∷ record {
      timestamp_delta = pos 0;
      offset_delta = pos 1;
      key = some (text "y");
      value = some (text "two");
      headers =
          record { key = text "source"; value = text "kcat" }
          ∷ record { key = text "empty"; value = [] }
          ∷ [];
    }
    ∷ []

abbrev pub kcat_example : Example
kcat_example =
    record {
      bytes = kcat;
      base_offset = pos 4;
      batch_length = 109;
      partition_leader_epoch = pos 0;
      crc = 3237149441;
      attributes = 0;
      last_offset_delta = pos 1;
      first_timestamp = pos 1794710227726;
      max_timestamp = pos 1794710227726;
      producer_id = minus 1;
      producer_epoch = minus 1;
      base_sequence = minus 1;
      count = pos 2;
      log_append = false;
      transactional = false;
      holds = the_records kcat_records;
      record_rows =
          pos 0 ∷ pos 0 ∷ pos 66 ∷ pos 1 ∷ pos 68 ∷ pos 3 ∷ pos 0 ∷ pos 2
          ∷ pos 0 ∷ pos 1 ∷ pos 96 ∷ pos 1 ∷ pos 98 ∷ pos 3 ∷ pos 2 ∷ pos 2
          ∷ [];
      header_rows =
          pos 73 ∷ pos 6 ∷ pos 80 ∷ pos 4
          ∷ pos 85 ∷ pos 5 ∷ pos 91 ∷ pos 0
          ∷ pos 103 ∷ pos 6 ∷ pos 110 ∷ pos 4
          ∷ pos 115 ∷ pos 5 ∷ pos 121 ∷ pos 0
          ∷ [];
      times = some (pos 1794710227726) ∷ some (pos 1794710227726) ∷ [];
      written = kcat;
      entries =
          pos 4 ∷ pos 0 ∷ pos 1 ∷ pos 1794710227726
          ∷ pos 1794710227726 ∷ minus 1 ∷ minus 1 ∷ minus 1
          ∷ pos 0 ∷ pos 0 ∷ pos 0 ∷ pos 2
          ∷ pos 4 ∷ pos 121 ∷ pos 0 ∷ pos 0
          ∷ [];
      line = text "4 121 records 2 4\n";
    }

-- samples/librdkafka.log, the second batch: null and empty keys and values.
abbrev absent : List ℕ
absent =
    hex ("0000000000000001 0000005F 00000000 02 5BE6ADB7"
    ∷ "0000 00000003 0000018BCFE56800 0000018BCFE56802 FFFFFFFFFFFFFFFF FFFF FFFFFFFF 00000004"
    ∷ "1C 00 00 00 01 10 6E756C6C206B6579 00"
    ∷ "20 00 02 02 14 6E756C6C2076616C7565 01 00"
    ∷ "0C 00 02 04 01 01 00"
    ∷ "0C 00 04 06 00 00 00"
    ∷ [])

abbrev absent_records : List PlainRecord
absent_records =
    record {
      timestamp_delta = pos 0;
      offset_delta = pos 0;
      key = none;
      value = some (text "null key");
      headers = [];
    }
    ∷ record {
      timestamp_delta = pos 1;
      offset_delta = pos 1;
      key = some (text "null value");
      value = none;
      headers = [];
    }
    ∷ record {
      timestamp_delta = pos 1;
      offset_delta = pos 2;
      key = none;
      value = none;
      headers = [];
    }
    ∷ record {
      timestamp_delta = pos 2;
      offset_delta = pos 3;
      key = some [];
      value = some [];
      headers = [];
    }
    ∷ []

abbrev pub absent_example : Example
absent_example =
    record {
      bytes = absent;
      base_offset = pos 1;
      batch_length = 95;
      partition_leader_epoch = pos 0;
      crc = 1541844407;
      attributes = 0;
      last_offset_delta = pos 3;
      first_timestamp = pos 1700000000000;
      max_timestamp = pos 1700000000002;
      producer_id = minus 1;
      producer_epoch = minus 1;
      base_sequence = minus 1;
      count = pos 4;
      log_append = false;
      transactional = false;
      holds = the_records absent_records;
      record_rows =
          pos 0 ∷ pos 0 ∷ pos 0 ∷ minus 1 ∷ pos 67 ∷ pos 8 ∷ pos 0 ∷ pos 0
          ∷ pos 1 ∷ pos 1 ∷ pos 81 ∷ pos 10 ∷ pos 0 ∷ minus 1 ∷ pos 0 ∷ pos 0
          ∷ pos 1 ∷ pos 2 ∷ pos 0 ∷ minus 1 ∷ pos 0 ∷ minus 1 ∷ pos 0 ∷ pos 0
          ∷ pos 2 ∷ pos 3 ∷ pos 105 ∷ pos 0 ∷ pos 106 ∷ pos 0 ∷ pos 0 ∷ pos 0
          ∷ [];
      header_rows = [];
      times = some (pos 1700000000000) ∷ some (pos 1700000000001) ∷ some (pos 1700000000001) ∷ some (pos 1700000000002) ∷ [];
      written = absent;
      entries =
          pos 1 ∷ pos 0 ∷ pos 3 ∷ pos 1700000000000
          ∷ pos 1700000000002 ∷ minus 1 ∷ minus 1 ∷ minus 1
          ∷ pos 0 ∷ pos 0 ∷ pos 0 ∷ pos 4
          ∷ pos 0 ∷ pos 107 ∷ pos 0 ∷ pos 0
          ∷ [];
      line = text "1 107 records 4 0\n";
    }

-- samples/librdkafka.log, the fifth batch: a negative delta.
abbrev earlier : List ℕ
earlier =
    hex ("000000000000009D 0000004D 00000000 02 4516278B"
    ∷ "0000 00000001 0000018BCFE56800 0000018BCFE56800 FFFFFFFFFFFFFFFF FFFF FFFFFFFF 00000002"
    ∷ "14 00 00 00 08 6C617465 00 00"
    ∷ "20 00 FFEFB252 02 0E 6561726C696572 00 00"
    ∷ [])

abbrev earlier_records : List PlainRecord
earlier_records =
    record {
      timestamp_delta = pos 0;
      offset_delta = pos 0;
      key = some (text "late");
      value = some [];
      headers = [];
    }
    ∷ record {
      timestamp_delta = minus 86400000;
      offset_delta = pos 1;
      key = some (text "earlier");
      value = some [];
      headers = [];
    }
    ∷ []

abbrev pub earlier_example : Example
earlier_example =
    record {
      bytes = earlier;
      base_offset = pos 157;
      batch_length = 77;
      partition_leader_epoch = pos 0;
      crc = 1159079819;
      attributes = 0;
      last_offset_delta = pos 1;
      first_timestamp = pos 1700000000000;
      max_timestamp = pos 1700000000000;
      producer_id = minus 1;
      producer_epoch = minus 1;
      base_sequence = minus 1;
      count = pos 2;
      log_append = false;
      transactional = false;
      holds = the_records earlier_records;
      record_rows =
          pos 0 ∷ pos 0 ∷ pos 66 ∷ pos 4 ∷ pos 71 ∷ pos 0 ∷ pos 0 ∷ pos 0
          ∷ minus 86400000 ∷ pos 1 ∷ pos 80 ∷ pos 7 ∷ pos 88 ∷ pos 0 ∷ pos 0 ∷ pos 0
          ∷ [];
      header_rows = [];
      times = some (pos 1700000000000) ∷ some (pos 1699913600000) ∷ [];
      written = earlier;
      entries =
          pos 157 ∷ pos 0 ∷ pos 1 ∷ pos 1700000000000
          ∷ pos 1700000000000 ∷ minus 1 ∷ minus 1 ∷ minus 1
          ∷ pos 0 ∷ pos 0 ∷ pos 0 ∷ pos 2
          ∷ pos 0 ∷ pos 89 ∷ pos 0 ∷ pos 0
          ∷ [];
      line = text "157 89 records 2 0\n";
    }

-- samples/python-kafka-builder.log, the fourth batch: transactional, create time.
abbrev transaction : List ℕ
transaction =
    hex ("0000000000000000 00000047 00000000 02 07E17ADF"
    ∷ "0010 00000001 0000018BCFE56800 0000018BCFE56805 0000000000000FA0 0007 0000000C 00000002"
    ∷ "16 00 00 00 06 70696E 04 6F6E 00"
    ∷ "12 00 0A 02 06 70696E 01 00"
    ∷ [])

abbrev transaction_records : List PlainRecord
transaction_records =
    record {
      timestamp_delta = pos 0;
      offset_delta = pos 0;
      key = some (text "pin");
      value = some (text "on");
      headers = [];
    }
    ∷ record {
      timestamp_delta = pos 5;
      offset_delta = pos 1;
      key = some (text "pin");
      value = none;
      headers = [];
    }
    ∷ []

abbrev pub transaction_example : Example
transaction_example =
    record {
      bytes = transaction;
      base_offset = pos 0;
      batch_length = 71;
      partition_leader_epoch = pos 0;
      crc = 132217567;
      attributes = 16;
      last_offset_delta = pos 1;
      first_timestamp = pos 1700000000000;
      max_timestamp = pos 1700000000005;
      producer_id = pos 4000;
      producer_epoch = pos 7;
      base_sequence = pos 12;
      count = pos 2;
      log_append = false;
      transactional = true;
      holds = the_records transaction_records;
      record_rows =
          pos 0 ∷ pos 0 ∷ pos 66 ∷ pos 3 ∷ pos 70 ∷ pos 2 ∷ pos 0 ∷ pos 0
          ∷ pos 5 ∷ pos 1 ∷ pos 78 ∷ pos 3 ∷ pos 0 ∷ minus 1 ∷ pos 0 ∷ pos 0
          ∷ [];
      header_rows = [];
      times = some (pos 1700000000000) ∷ some (pos 1700000000005) ∷ [];
      written = transaction;
      entries =
          pos 0 ∷ pos 0 ∷ pos 1 ∷ pos 1700000000000
          ∷ pos 1700000000005 ∷ pos 4000 ∷ pos 7 ∷ pos 12
          ∷ pos 0 ∷ pos 1 ∷ pos 0 ∷ pos 2
          ∷ pos 0 ∷ pos 83 ∷ pos 0 ∷ pos 0
          ∷ [];
      line = text "0 83 records 2 0\n";
    }

-- Every number and every length is another: not transactional, log append time.
abbrev unlike : List ℕ
unlike =
    hex ("0102030405060708 00000090 11121314 02 4E475C5E"
    ∷ "0008 21222324 3132333435363738 4142434445464748 5152535455565758 6162 71727374 00000002"
    ∷ "4A 00 8DA8D6B907 E0C508 06 6B6579 0A 76616C7565 04 02 68 0C 686561646572 04 C3A9 08 666F7572"
    ∷ "70 00 D804 03 0E 616E6F74686572 14 00FF206174206C617374 04 10 6E6F2076616C7565 00 16 656C6576656E206B657973 12 6E696E652068657265"
    ∷ [])

abbrev unlike_records : List PlainRecord
unlike_records =
    record {
      timestamp_delta = minus 1000000007;
      offset_delta = pos 70000;
      key = some (text "key");
      value = some (text "value");
      headers =
          record { key = text "h"; value = text "header" }
          ∷ record { key = hex ("C3A9" ∷ []); value = text "four" }
          ∷ [];
    }
    ∷ record {
      timestamp_delta = pos 300;
      offset_delta = minus 2;
      key = some (text "another");
      value = some (hex ("00FF206174206C617374" ∷ []));
      headers =
          record { key = text "no value"; value = [] }
          ∷ record { key = text "eleven keys"; value = text "nine here" }
          ∷ [];
    }
    ∷ []

abbrev pub unlike_example : Example
unlike_example =
    record {
      bytes = unlike;
      base_offset = pos 72623859790382856;
      batch_length = 144;
      partition_leader_epoch = pos 286397204;
      crc = 1313299550;
      attributes = 8;
      last_offset_delta = pos 555885348;
      first_timestamp = pos 3544952156018063160;
      max_timestamp = pos 4702394921427289928;
      producer_id = pos 5859837686836516696;
      producer_epoch = pos 24930;
      base_sequence = pos 1903326068;
      count = pos 2;
      log_append = true;
      transactional = false;
      holds = the_records unlike_records;
      record_rows =
          minus 1000000007 ∷ pos 70000 ∷ pos 72 ∷ pos 3 ∷ pos 76 ∷ pos 5 ∷ pos 0 ∷ pos 2
          ∷ pos 300 ∷ minus 2 ∷ pos 105 ∷ pos 7 ∷ pos 113 ∷ pos 10 ∷ pos 2 ∷ pos 2
          ∷ [];
      header_rows =
          pos 83 ∷ pos 1 ∷ pos 85 ∷ pos 6
          ∷ pos 92 ∷ pos 2 ∷ pos 95 ∷ pos 4
          ∷ pos 125 ∷ pos 8 ∷ pos 134 ∷ pos 0
          ∷ pos 135 ∷ pos 11 ∷ pos 147 ∷ pos 9
          ∷ [];
      times = some (pos 3544952155018063153) ∷ some (pos 3544952156018063460) ∷ [];
      written = unlike;
      entries =
          pos 72623859790382856 ∷ pos 286397204 ∷ pos 555885348 ∷ pos 3544952156018063160
          ∷ pos 4702394921427289928 ∷ pos 5859837686836516696 ∷ pos 24930 ∷ pos 1903326068
          ∷ pos 1 ∷ pos 0 ∷ pos 0 ∷ pos 2
          ∷ pos 4 ∷ pos 156 ∷ pos 0 ∷ pos 0
          ∷ [];
      line = text "72623859790382856 156 records 2 4\n";
    }

-- Numbers in more bytes than they need, bits that say nothing, a record that has no time: not canonical.
abbrev loose : List ℕ
loose =
    hex ("0102030405060708 00000050 11121314 02 68772E21"
    ∷ "FFD0 21222324 7FFFFFFFFFFFFFFF 4142434445464748 5152535455565758 6162 71727374 00000002"
    ∷ "9600 7F 8200 8000 8100 8000 8000"
    ∷ "A000 7F 8100 8200 8000 8100 8200 8000 8200 6B"
    ∷ [])

abbrev loose_records : List PlainRecord
loose_records =
    record {
      timestamp_delta = pos 1;
      offset_delta = pos 0;
      key = none;
      value = some [];
      headers = [];
    }
    ∷ record {
      timestamp_delta = minus 1;
      offset_delta = pos 1;
      key = some [];
      value = none;
      headers =
          record { key = []; value = text "k" }
          ∷ [];
    }
    ∷ []

abbrev pub loose_example : Example
loose_example =
    record {
      bytes = loose;
      base_offset = pos 72623859790382856;
      batch_length = 80;
      partition_leader_epoch = pos 286397204;
      crc = 1752641057;
      attributes = 65488;
      last_offset_delta = pos 555885348;
      first_timestamp = pos 9223372036854775807;
      max_timestamp = pos 4702394921427289928;
      producer_id = pos 5859837686836516696;
      producer_epoch = pos 24930;
      base_sequence = pos 1903326068;
      count = pos 2;
      log_append = false;
      transactional = true;
      holds = the_records loose_records;
      record_rows =
          pos 1 ∷ pos 0 ∷ pos 0 ∷ minus 1 ∷ pos 72 ∷ pos 0 ∷ pos 0 ∷ pos 0
          ∷ minus 1 ∷ pos 1 ∷ pos 83 ∷ pos 0 ∷ pos 0 ∷ minus 1 ∷ pos 0 ∷ pos 1
          ∷ [];
      header_rows =
          pos 89 ∷ pos 0 ∷ pos 91 ∷ pos 1
          ∷ [];
      times = none ∷ some (pos 9223372036854775806) ∷ [];
      written = hex ("0102030405060708 00000042 11121314 02 7686C4CA"
          ∷ "0010 21222324 7FFFFFFFFFFFFFFF 4142434445464748 5152535455565758 6162 71727374 00000002"
          ∷ "0C 00 02 00 01 00 00"
          ∷ "12 00 01 02 00 01 02 00 02 6B"
          ∷ []);
      entries =
          pos 72623859790382856 ∷ pos 286397204 ∷ pos 555885348 ∷ pos 9223372036854775807
          ∷ pos 4702394921427289928 ∷ pos 5859837686836516696 ∷ pos 24930 ∷ pos 1903326068
          ∷ pos 0 ∷ pos 1 ∷ pos 0 ∷ pos 2
          ∷ pos 1 ∷ pos 92 ∷ pos 0 ∷ pos 0
          ∷ [];
      line = text "72623859790382856 92 records 2 1\n";
    }

-- Count -1 and negative fields: not canonical.
abbrev bare : List ℕ
bare =
    hex ("FFFFFFFFFFFFFFFF 00000031 FFFFFFFE 02 E81125AE"
    ∷ "FFC8 FFFFFFFD FFFFFFFFFFFFFFFC FFFFFFFFFFFFFFFB FFFFFFFFFFFFFFFA FFF9 FFFFFFF8 FFFFFFFF"
    ∷ [])

abbrev bare_records : List PlainRecord
bare_records = []

abbrev pub bare_example : Example
bare_example =
    record {
      bytes = bare;
      base_offset = minus 1;
      batch_length = 49;
      partition_leader_epoch = minus 2;
      crc = 3893437870;
      attributes = 65480;
      last_offset_delta = minus 3;
      first_timestamp = minus 4;
      max_timestamp = minus 5;
      producer_id = minus 6;
      producer_epoch = minus 7;
      base_sequence = minus 8;
      count = minus 1;
      log_append = true;
      transactional = false;
      holds = the_records bare_records;
      record_rows = [];
      header_rows = [];
      times = [];
      written = hex ("FFFFFFFFFFFFFFFF 00000031 FFFFFFFE 02 3A47A5BD"
          ∷ "0008 FFFFFFFD FFFFFFFFFFFFFFFC FFFFFFFFFFFFFFFB FFFFFFFFFFFFFFFA FFF9 FFFFFFF8 00000000"
          ∷ []);
      entries =
          minus 1 ∷ minus 2 ∷ minus 3 ∷ minus 4
          ∷ minus 5 ∷ minus 6 ∷ minus 7 ∷ minus 8
          ∷ pos 1 ∷ pos 0 ∷ pos 0 ∷ pos 0
          ∷ pos 0 ∷ pos 61 ∷ pos 0 ∷ pos 0
          ∷ [];
      line = text "-1 61 records 0 0\n";
    }

-- A commit marker of a transaction, create time.
abbrev committed : List ℕ
committed =
    hex ("0102030405060708 00000035 11121314 02 23EA50BF"
    ∷ "0030 21222324 3132333435363738 4142434445464748 5152535455565758 6162 71727374 00000001"
    ∷ "0000 0001"
    ∷ [])

abbrev pub committed_example : Example
committed_example =
    record {
      bytes = committed;
      base_offset = pos 72623859790382856;
      batch_length = 53;
      partition_leader_epoch = pos 286397204;
      crc = 602558655;
      attributes = 48;
      last_offset_delta = pos 555885348;
      first_timestamp = pos 3544952156018063160;
      max_timestamp = pos 4702394921427289928;
      producer_id = pos 5859837686836516696;
      producer_epoch = pos 24930;
      base_sequence = pos 1903326068;
      count = pos 1;
      log_append = false;
      transactional = true;
      holds = a_commit;
      record_rows = [];
      header_rows = [];
      times = [];
      written = committed;
      entries =
          pos 72623859790382856 ∷ pos 286397204 ∷ pos 555885348 ∷ pos 3544952156018063160
          ∷ pos 4702394921427289928 ∷ pos 5859837686836516696 ∷ pos 24930 ∷ pos 1903326068
          ∷ pos 0 ∷ pos 1 ∷ pos 2 ∷ pos 0
          ∷ pos 0 ∷ pos 65 ∷ pos 0 ∷ pos 0
          ∷ [];
      line = [];
    }

-- An abort marker, negative fields, log append time.
abbrev aborted : List ℕ
aborted =
    hex ("FFFFFFFFFFFFFFFF 00000035 FFFFFFFE 02 DD499466"
    ∷ "0028 FFFFFFFD FFFFFFFFFFFFFFFC FFFFFFFFFFFFFFFB FFFFFFFFFFFFFFFA FFF9 FFFFFFF8 00000001"
    ∷ "0000 0000"
    ∷ [])

abbrev pub aborted_example : Example
aborted_example =
    record {
      bytes = aborted;
      base_offset = minus 1;
      batch_length = 53;
      partition_leader_epoch = minus 2;
      crc = 3712586854;
      attributes = 40;
      last_offset_delta = minus 3;
      first_timestamp = minus 4;
      max_timestamp = minus 5;
      producer_id = minus 6;
      producer_epoch = minus 7;
      base_sequence = minus 8;
      count = pos 1;
      log_append = true;
      transactional = false;
      holds = an_abort;
      record_rows = [];
      header_rows = [];
      times = [];
      written = aborted;
      entries =
          minus 1 ∷ minus 2 ∷ minus 3 ∷ minus 4
          ∷ minus 5 ∷ minus 6 ∷ minus 7 ∷ minus 8
          ∷ pos 1 ∷ pos 0 ∷ pos 1 ∷ pos 0
          ∷ pos 0 ∷ pos 65 ∷ pos 0 ∷ pos 0
          ∷ [];
      line = [];
    }

abbrev pub record_examples : List Example
record_examples = kcat_example ∷ absent_example ∷ earlier_example ∷ transaction_example ∷ unlike_example ∷ loose_example ∷ bare_example ∷ []

abbrev pub marker_examples : List Example
marker_examples = committed_example ∷ aborted_example ∷ []

abbrev pub examples : List Example
examples = record_examples ++ marker_examples

-- those whose records have headers
abbrev pub headed_examples : List Example
headed_examples = kcat_example ∷ unlike_example ∷ loose_example ∷ []

-- ---- refusals

-- before the records or the marker
abbrev pub batch_refusals : List Refusal
batch_refusals =
    -- fewer than 12 bytes
    record {
      bytes = hex ("0000000000000004 000000" ∷ []);
      count = 0;
      number = 1;
      needed = 12;
    }
    -- fewer than 17
    ∷ record {
      bytes = hex ("0000000000000004 0000006D 00000000" ∷ []);
      count = 0;
      number = 1;
      needed = 17;
    }
    -- one fewer than batchLength asks for
    ∷ record {
      bytes = hex ("0000000000000004 0000006D 00000000 02 C0F2FB01"
          ∷ "0000 00000001 000001A1DD10CB0E 000001A1DD10CB0E FFFFFFFFFFFFFFFF FFFF FFFFFFFF 00000002"
          ∷ "3A0000000278066F6E65040C736F75726365086B6361740A656D707479003A00000202790674776F040C736F75726365086B6361740A656D707479"
          ∷ []);
      count = 0;
      number = 1;
      needed = 121;
    }
    -- batchLength is 8
    ∷ record {
      bytes = hex ("0102030405060708 00000008 11121314 02 0F1D8492"
          ∷ "0000 21222324 3132333435363738 4142434445464748 5152535455565758 6162 71727374 00000000"
          ∷ []);
      count = 0;
      number = 2;
      needed = 0;
    }
    -- batchLength is -1
    ∷ record {
      bytes = hex ("0102030405060708 FFFFFFFF 11121314 02 0F1D8492"
          ∷ "0000 21222324 3132333435363738 4142434445464748 5152535455565758 6162 71727374 00000000"
          ∷ []);
      count = 0;
      number = 2;
      needed = 0;
    }
    -- magic is 1
    ∷ record {
      bytes = hex ("0102030405060708 00000031 11121314 01 0F1D8492"
          ∷ "0000 21222324 3132333435363738 4142434445464748 5152535455565758 6162 71727374 00000000"
          ∷ []);
      count = 0;
      number = 3;
      needed = 0;
    }
    -- a bit of the last byte is another
    ∷ record {
      bytes = hex ("0000000000000004 0000006D 00000000 02 C0F2FB01"
          ∷ "0000 00000001 000001A1DD10CB0E 000001A1DD10CB0E FFFFFFFFFFFFFFFF FFFF FFFFFFFF 00000002"
          ∷ "3A0000000278066F6E65040C736F75726365086B6361740A656D707479003A00000202790674776F040C736F75726365086B6361740A656D70747901"
          ∷ []);
      count = 0;
      number = 4;
      needed = 0;
    }
    -- codec 5
    ∷ record {
      bytes = hex ("0102030405060708 00000031 11121314 02 AC1B8014"
          ∷ "0005 21222324 3132333435363738 4142434445464748 5152535455565758 6162 71727374 00000000"
          ∷ []);
      count = 0;
      number = 5;
      needed = 0;
    }
    -- codec 4
    ∷ record {
      bytes = hex ("0102030405060708 00000031 11121314 02 8CE5816A"
          ∷ "0004 21222324 3132333435363738 4142434445464748 5152535455565758 6162 71727374 00000000"
          ∷ []);
      count = 0;
      number = 6;
      needed = 0;
    }
    -- count -2
    ∷ record {
      bytes = hex ("0102030405060708 00000031 11121314 02 4AEEB3A9"
          ∷ "0000 21222324 3132333435363738 4142434445464748 5152535455565758 6162 71727374 FFFFFFFE"
          ∷ []);
      count = 0;
      number = 7;
      needed = 0;
    }
    -- a control batch of count 2
    ∷ record {
      bytes = hex ("0102030405060708 00000035 11121314 02 968F1B21"
          ∷ "0020 21222324 3132333435363738 4142434445464748 5152535455565758 6162 71727374 00000002"
          ∷ "00000000"
          ∷ []);
      count = 0;
      number = 7;
      needed = 0;
    }
    -- batchLength is 9, and the checksum is right
    ∷ record {
      bytes = hex ("0102030405060708 00000009 11121314 02 00000000" ∷ []);
      count = 0;
      number = 8;
      needed = 0;
    }
    ∷ []

-- in records
abbrev pub record_refusals : List Refusal
record_refusals =
    -- the body ends before the number of headers
    record {
      bytes = hex ("0102030405060708 00000037 11121314 02 709A3BA5"
          ∷ "0000 21222324 3132333435363738 4142434445464748 5152535455565758 6162 71727374 00000001"
          ∷ "0C0000000101"
          ∷ []);
      count = 1;
      number = 8;
      needed = 0;
    }
    -- the key runs past its record, and not past the body
    ∷ record {
      bytes = hex ("0102030405060708 0000003F 11121314 02 AE8442E7"
          ∷ "0000 21222324 3132333435363738 4142434445464748 5152535455565758 6162 71727374 00000002"
          ∷ "0C000000066B000C000000010100"
          ∷ []);
      count = 2;
      number = 8;
      needed = 0;
    }
    -- there is one record of two
    ∷ record {
      bytes = hex ("0102030405060708 00000038 11121314 02 1EF3EFB9"
          ∷ "0000 21222324 3132333435363738 4142434445464748 5152535455565758 6162 71727374 00000002"
          ∷ "0C000000010100"
          ∷ []);
      count = 2;
      number = 8;
      needed = 0;
    }
    -- the fifth byte of the record's length is 16
    ∷ record {
      bytes = hex ("0102030405060708 0000003C 11121314 02 736D939E"
          ∷ "0000 21222324 3132333435363738 4142434445464748 5152535455565758 6162 71727374 00000001"
          ∷ "FFFFFFFF10000000010100"
          ∷ []);
      count = 1;
      number = 9;
      needed = 0;
    }
    -- the tenth byte of the timestamp's delta is 2
    ∷ record {
      bytes = hex ("0102030405060708 00000041 11121314 02 CD5CD7EA"
          ∷ "0000 21222324 3132333435363738 4142434445464748 5152535455565758 6162 71727374 00000001"
          ∷ "2000FFFFFFFFFFFFFFFFFF0200010100"
          ∷ []);
      count = 1;
      number = 9;
      needed = 0;
    }
    -- the record's length is -1
    ∷ record {
      bytes = hex ("0102030405060708 00000038 11121314 02 46797C9A"
          ∷ "0000 21222324 3132333435363738 4142434445464748 5152535455565758 6162 71727374 00000001"
          ∷ "01000000010100"
          ∷ []);
      count = 1;
      number = 10;
      needed = 0;
    }
    -- the key's length is -2
    ∷ record {
      bytes = hex ("0102030405060708 00000038 11121314 02 8AD83ADD"
          ∷ "0000 21222324 3132333435363738 4142434445464748 5152535455565758 6162 71727374 00000001"
          ∷ "0C000000030100"
          ∷ []);
      count = 1;
      number = 10;
      needed = 0;
    }
    -- the number of headers is -1
    ∷ record {
      bytes = hex ("0102030405060708 00000038 11121314 02 37DCEBD3"
          ∷ "0000 21222324 3132333435363738 4142434445464748 5152535455565758 6162 71727374 00000001"
          ∷ "0C000000010101"
          ∷ []);
      count = 1;
      number = 10;
      needed = 0;
    }
    -- the length of a header's value is -1
    ∷ record {
      bytes = hex ("0102030405060708 0000003B 11121314 02 B247BCE1"
          ∷ "0000 21222324 3132333435363738 4142434445464748 5152535455565758 6162 71727374 00000001"
          ∷ "12000000010102024101"
          ∷ []);
      count = 1;
      number = 10;
      needed = 0;
    }
    -- a header's key is no UTF-8
    ∷ record {
      bytes = hex ("0102030405060708 0000003B 11121314 02 575A9B68"
          ∷ "0000 21222324 3132333435363738 4142434445464748 5152535455565758 6162 71727374 00000001"
          ∷ "12000000010102028000"
          ∷ []);
      count = 1;
      number = 11;
      needed = 0;
    }
    -- a header's key is no UTF-8, and then its value's length is -1
    ∷ record {
      bytes = hex ("0102030405060708 0000003B 11121314 02 A531186B"
          ∷ "0000 21222324 3132333435363738 4142434445464748 5152535455565758 6162 71727374 00000001"
          ∷ "12000000010102028001"
          ∷ []);
      count = 1;
      number = 11;
      needed = 0;
    }
    -- the record names length 100, and its six bytes of fields end the body
    ∷ record {
      bytes = hex ("0102030405060708 00000039 11121314 02 2893C4AE"
          ∷ "0000 21222324 3132333435363738 4142434445464748 5152535455565758 6162 71727374 00000001"
          ∷ "C801000000010100"
          ∷ []);
      count = 1;
      number = 13;
      needed = 0;
    }
    -- a byte is left in the record
    ∷ record {
      bytes = hex ("0102030405060708 00000039 11121314 02 1313FFDC"
          ∷ "0000 21222324 3132333435363738 4142434445464748 5152535455565758 6162 71727374 00000001"
          ∷ "0E00000001010000"
          ∷ []);
      count = 1;
      number = 13;
      needed = 0;
    }
    -- a byte is left after the last record
    ∷ record {
      bytes = hex ("0102030405060708 00000039 11121314 02 816B0592"
          ∷ "0000 21222324 3132333435363738 4142434445464748 5152535455565758 6162 71727374 00000001"
          ∷ "0C00000001010000"
          ∷ []);
      count = 1;
      number = 13;
      needed = 0;
    }
    ∷ []

-- in a marker
abbrev pub marker_refusals : List Refusal
marker_refusals =
    -- the marker ends in its type
    record {
      bytes = hex ("0102030405060708 00000034 11121314 02 04C97D2E"
          ∷ "0020 21222324 3132333435363738 4142434445464748 5152535455565758 6162 71727374 00000001"
          ∷ "000000"
          ∷ []);
      count = 0;
      number = 8;
      needed = 0;
    }
    -- the version is 1
    ∷ record {
      bytes = hex ("0102030405060708 00000035 11121314 02 7BFD39AB"
          ∷ "0020 21222324 3132333435363738 4142434445464748 5152535455565758 6162 71727374 00000001"
          ∷ "00010000"
          ∷ []);
      count = 0;
      number = 12;
      needed = 0;
    }
    -- the version is 1, and the marker ends in its type
    ∷ record {
      bytes = hex ("0102030405060708 00000034 11121314 02 176BE559"
          ∷ "0020 21222324 3132333435363738 4142434445464748 5152535455565758 6162 71727374 00000001"
          ∷ "000100"
          ∷ []);
      count = 0;
      number = 12;
      needed = 0;
    }
    -- the type is 2
    ∷ record {
      bytes = hex ("0102030405060708 00000035 11121314 02 3F87DB22"
          ∷ "0020 21222324 3132333435363738 4142434445464748 5152535455565758 6162 71727374 00000001"
          ∷ "00000002"
          ∷ []);
      count = 0;
      number = 12;
      needed = 0;
    }
    -- a byte is left after the marker
    ∷ record {
      bytes = hex ("0102030405060708 00000036 11121314 02 A723823A"
          ∷ "0020 21222324 3132333435363738 4142434445464748 5152535455565758 6162 71727374 00000001"
          ∷ "0000000100"
          ∷ []);
      count = 0;
      number = 13;
      needed = 0;
    }
    -- sarama 1.22.1: version and type stand in a record's key
    ∷ record {
      bytes = hex ("0102030405060708 00000042 11121314 02 D9FFC9C0"
          ∷ "0020 21222324 3132333435363738 4142434445464748 5152535455565758 6162 71727374 00000001"
          ∷ "2000000008000000000C00000000000500"
          ∷ []);
      count = 0;
      number = 12;
      needed = 0;
    }
    ∷ []

abbrev pub refusals : List Refusal
refusals = batch_refusals ++ (record_refusals ++ marker_refusals)

abbrev source : List ℕ
source = hex ("FF736F75726365206F66206279746573" ∷ [])

-- in rows
abbrev pub row_refusals : List RowRefusal
row_refusals =
    -- a key that is null with start 1
    record {
      source = source;
      record_rows =
          minus 5 ∷ pos 6 ∷ pos 1 ∷ minus 1 ∷ pos 8 ∷ pos 8 ∷ pos 0 ∷ pos 0
          ∷ [];
      header_rows = [];
      count = 1;
      number = 21;
    }
    -- a value that is null with start 16
    ∷ record {
      source = source;
      record_rows =
          minus 5 ∷ pos 6 ∷ pos 1 ∷ pos 6 ∷ pos 16 ∷ minus 1 ∷ pos 0 ∷ pos 0
          ∷ [];
      header_rows = [];
      count = 1;
      number = 21;
    }
    -- a start below 0
    ∷ record {
      source = source;
      record_rows =
          minus 5 ∷ pos 6 ∷ minus 1 ∷ pos 6 ∷ pos 8 ∷ pos 8 ∷ pos 0 ∷ pos 0
          ∷ [];
      header_rows = [];
      count = 1;
      number = 21;
    }
    -- a length of -2
    ∷ record {
      source = source;
      record_rows =
          minus 5 ∷ pos 6 ∷ pos 0 ∷ minus 2 ∷ pos 8 ∷ pos 8 ∷ pos 0 ∷ pos 0
          ∷ [];
      header_rows = [];
      count = 1;
      number = 21;
    }
    -- a value that ends past the source
    ∷ record {
      source = source;
      record_rows =
          minus 5 ∷ pos 6 ∷ pos 1 ∷ pos 6 ∷ pos 8 ∷ pos 9 ∷ pos 0 ∷ pos 0
          ∷ [];
      header_rows = [];
      count = 1;
      number = 21;
    }
    -- an offset that leaves 32 bits
    ∷ record {
      source = source;
      record_rows =
          minus 5 ∷ pos 2147483648 ∷ pos 1 ∷ pos 6 ∷ pos 8 ∷ pos 8 ∷ pos 0 ∷ pos 0
          ∷ [];
      header_rows = [];
      count = 1;
      number = 21;
    }
    -- an offset that leaves 32 bits
    ∷ record {
      source = source;
      record_rows =
          minus 5 ∷ minus 2147483649 ∷ pos 1 ∷ pos 6 ∷ pos 8 ∷ pos 8 ∷ pos 0 ∷ pos 0
          ∷ [];
      header_rows = [];
      count = 1;
      number = 21;
    }
    -- a number of headers below 0
    ∷ record {
      source = source;
      record_rows =
          minus 5 ∷ pos 6 ∷ pos 1 ∷ pos 6 ∷ pos 8 ∷ pos 8 ∷ pos 0 ∷ minus 1
          ∷ [];
      header_rows = [];
      count = 1;
      number = 21;
    }
    -- headers past their table
    ∷ record {
      source = source;
      record_rows =
          minus 5 ∷ pos 6 ∷ pos 1 ∷ pos 6 ∷ pos 8 ∷ pos 8 ∷ pos 0 ∷ pos 2
          ∷ [];
      header_rows =
          pos 1 ∷ pos 6 ∷ pos 11 ∷ pos 5
          ∷ [];
      count = 1;
      number = 21;
    }
    -- headers that do not run on
    ∷ record {
      source = source;
      record_rows =
          minus 5 ∷ pos 6 ∷ pos 1 ∷ pos 6 ∷ pos 8 ∷ pos 8 ∷ pos 1 ∷ pos 1
          ∷ [];
      header_rows =
          pos 1 ∷ pos 6 ∷ pos 11 ∷ pos 5
          ∷ pos 1 ∷ pos 6 ∷ pos 11 ∷ pos 5
          ∷ [];
      count = 1;
      number = 21;
    }
    -- headers that do not run on
    ∷ record {
      source = source;
      record_rows =
          minus 5 ∷ pos 6 ∷ pos 1 ∷ pos 6 ∷ pos 8 ∷ pos 8 ∷ pos 0 ∷ pos 1
          ∷ minus 5 ∷ pos 6 ∷ pos 1 ∷ pos 6 ∷ pos 8 ∷ pos 8 ∷ pos 0 ∷ pos 0
          ∷ [];
      header_rows =
          pos 1 ∷ pos 6 ∷ pos 11 ∷ pos 5
          ∷ [];
      count = 2;
      number = 21;
    }
    -- a header's value that is null
    ∷ record {
      source = source;
      record_rows =
          minus 5 ∷ pos 6 ∷ pos 1 ∷ pos 6 ∷ pos 8 ∷ pos 8 ∷ pos 0 ∷ pos 1
          ∷ [];
      header_rows =
          pos 1 ∷ pos 6 ∷ pos 0 ∷ minus 1
          ∷ [];
      count = 1;
      number = 21;
    }
    -- a header's value that ends past the source, its key no UTF-8
    ∷ record {
      source = source;
      record_rows =
          minus 5 ∷ pos 6 ∷ pos 1 ∷ pos 6 ∷ pos 8 ∷ pos 8 ∷ pos 0 ∷ pos 1
          ∷ [];
      header_rows =
          pos 0 ∷ pos 6 ∷ pos 12 ∷ pos 5
          ∷ [];
      count = 1;
      number = 21;
    }
    -- more records than rows
    ∷ record {
      source = source;
      record_rows =
          minus 5 ∷ pos 6 ∷ pos 1 ∷ pos 6 ∷ pos 8 ∷ pos 8 ∷ pos 0 ∷ pos 0
          ∷ [];
      header_rows = [];
      count = 2;
      number = 21;
    }
    -- a header's key that is no UTF-8
    ∷ record {
      source = source;
      record_rows =
          minus 5 ∷ pos 6 ∷ pos 1 ∷ pos 6 ∷ pos 8 ∷ pos 8 ∷ pos 0 ∷ pos 1
          ∷ [];
      header_rows =
          pos 0 ∷ pos 6 ∷ pos 11 ∷ pos 5
          ∷ [];
      count = 1;
      number = 22;
    }
    -- the same, before a row that is wrong
    ∷ record {
      source = source;
      record_rows =
          minus 5 ∷ pos 6 ∷ pos 1 ∷ pos 6 ∷ pos 8 ∷ pos 8 ∷ pos 0 ∷ pos 1
          ∷ minus 5 ∷ pos 6 ∷ minus 1 ∷ pos 6 ∷ pos 8 ∷ pos 8 ∷ pos 0 ∷ pos 0
          ∷ [];
      header_rows =
          pos 0 ∷ pos 6 ∷ pos 11 ∷ pos 5
          ∷ [];
      count = 2;
      number = 22;
    }
    ∷ []

-- ---- listings

-- the longest file that is listed, and what is said of a longer one
abbrev pub longest : ℕ
longest = 65536

abbrev pub too_long_text : List ℕ
too_long_text = text "file too long\n"

-- what is said first of any other
abbrev pub heading_text : List ℕ
heading_text = text "base bytes kind records headers\n"

-- files
abbrev pub listings : List Listed
listings =
    -- three bytes stand after the last batch
    record {
      file = unlike ++ (hex ("0102030405060708 0000003C 11121314 02 8AF47DA1"
          ∷ "0030 21222324 3132333435363738 4142434445464748 5152535455565758 6162 71727374 00000001"
          ∷ "1400000008000000010100"
          ∷ []) ++ (bare ++ (hex ("FFFFFFFFFFFFFFFF 0000003C FFFFFFFE 02 3BA3F904"
          ∷ "0028 FFFFFFFD FFFFFFFFFFFFFFFC FFFFFFFFFFFFFFFB FFFFFFFFFFFFFFFA FFF9 FFFFFFF8 00000001"
          ∷ "1400000008000000000100"
          ∷ []) ++ (hex ("000000" ∷ [])))));
      listing = lines ("base bytes kind records headers\n"
          ∷ "72623859790382856 156 records 2 4\n"
          ∷ "72623859790382856 72 commit 0 0\n"
          ∷ "-1 61 records 0 0\n"
          ∷ "-1 72 abort 0 0\n"
          ∷ "stop 1 at 361\n"
          ∷ []);
    }
    -- none do
    ∷ record {
      file = kcat;
      listing = lines ("base bytes kind records headers\n"
          ∷ "4 121 records 2 4\n"
          ∷ "end at 121\n"
          ∷ []);
    }
    -- what is no batch does
    ∷ record {
      file = kcat ++ (hex ("0102030405060708 00000031 11121314 01 0F1D8492"
          ∷ "0000 21222324 3132333435363738 4142434445464748 5152535455565758 6162 71727374 00000000"
          ∷ []));
      listing = lines ("base bytes kind records headers\n"
          ∷ "4 121 records 2 4\n"
          ∷ "stop 3 at 121\n"
          ∷ []);
    }
    -- a marker that stands alone does
    ∷ record {
      file = kcat ++ (hex ("0102030405060708 00000035 11121314 02 23EA50BF"
          ∷ "0030 21222324 3132333435363738 4142434445464748 5152535455565758 6162 71727374 00000001"
          ∷ "00000001"
          ∷ []));
      listing = lines ("base bytes kind records headers\n"
          ∷ "4 121 records 2 4\n"
          ∷ "stop 41 at 121\n"
          ∷ []);
    }
    ∷ []

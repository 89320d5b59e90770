-- Every line has room in 96 bytes: a number has at most twenty digits, whatever it is. Assumes nothing.
use Prim.Native.Nat.{ℕ, ◌+◌, ◌≤◌}
use native.Mathlib.Omega.{arith}
use lib.IntN.{ℤ, pos, negsuc}
use lib.ListN.{length, length-append}
use Rattle.layout.specs.Batch.{abort, commit}
use Rattle.batches.specs.Answers.{Kind, of_records, of_marker}
use Rattle.listing.specs.Text.{ascii, signed_decimal}
use Rattle.listing.specs.Listing.{kind_word, batch_line, end_line, stop_line}
use Rattle.listing.specs.Answers.{line_size}
use Rattle.listing.proofs.Digits.{digits_length}

signed_length : (n : ℤ) → length (signed_decimal n) ≤ 21
signed_length (pos n) = omega (arith, digits_length 19 n)
signed_length (negsuc k) = omega (arith, digits_length 19 (k + 1))

kind_length : (k : Kind) → length (kind_word k) ≤ 7
unfolding ascii
kind_length of_records = omega arith
kind_length (of_marker abort) = omega arith
kind_length (of_marker commit) = omega arith

pub batch_short : (base : ℤ) (bytes : ℕ) (kind : Kind) (records headers : ℕ) → length (batch_line base bytes kind records headers) ≤ line_size
unfolding batch_line
batch_short base bytes kind records headers =
    simp length-append (omega (
      arith,
      signed_length base,
      digits_length 19 bytes,
      kind_length kind,
      digits_length 19 records,
      digits_length 19 headers,
    ))

pub end_short : (size : ℕ) → length (end_line size) ≤ line_size
unfolding end_line ascii
end_short size = simp length-append (omega (arith, digits_length 19 size))

pub stop_short : (number place : ℕ) → length (stop_line number place) ≤ line_size
unfolding stop_line ascii
stop_short number place = simp length-append (omega (arith, digits_length 19 number, digits_length 19 place))

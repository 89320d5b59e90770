-- Bytes that are copied block by block: those before a block are the same already. Assumes nothing.
use Rattle.std.proofs.Common.{ℕ, ◌+◌, ◌≤◌, ◌≡◌, List, ◌++◌, length, take, drop, sym, ap, ◌∙◌, append_assoc, append-nil, arith}
use Rattle.std.proofs.Math.ListN.{drop_of_length-le}
use Rattle.std.proofs.Math.Seq.{take-add, take-append_seam}
use Rattle.std.proofs.lemmas.List.{take_all, take-take, length-take-le}

module _ (output bytes new : List ℕ) (at : ℕ) (is : new ≡ take at output ++ (take 8 (drop at bytes) ++ drop (at + 8) output)) where
  stored : take at output ≡ take at bytes → new ≡ take (at + 8) bytes ++ drop (at + 8) output
  stored e =
      is
      ∙ ap (λ (x : List ℕ). x ++ (take 8 (drop at bytes) ++ drop (at + 8) output)) e
      ∙ sym (append_assoc (take at bytes) (take 8 (drop at bytes)) (drop (at + 8) output))
      ∙ ap (λ (x : List ℕ). x ++ drop (at + 8) output) (sym (take-add at 8 bytes))

  -- one block more
  pub block_more : (i : ℕ) → at + 8 ≡ i → i ≤ length bytes → take at output ≡ take at bytes → take i new ≡ take i bytes
  block_more i next inside e =
      let long : length (take (at + 8) bytes) ≡ i = length-take-le (at + 8) bytes (omega arith) ∙ next in
      ap (take i) (stored e)
      ∙ ap (λ (k : ℕ). take k (take (at + 8) bytes ++ drop (at + 8) output)) (sym long)
      ∙ take-append_seam (take (at + 8) bytes) (drop (at + 8) output)
      ∙ ap (λ (k : ℕ). take k bytes) next

  -- the last block, which may lie over a part of the one before it
  pub blocks_all : (i : ℕ) → length bytes ≤ at + 8 → length output ≡ length bytes → at ≤ i → take i output ≡ take i bytes → new ≡ bytes
  blocks_all i end same past e =
      let front : take at output ≡ take at bytes = sym (take-take at i output past) ∙ ap (take at) e ∙ take-take at i bytes past in
      stored front ∙ rw (take_all (at + 8) bytes end, drop_of_length-le output {i = at + 8} (omega arith)) (append-nil bytes)

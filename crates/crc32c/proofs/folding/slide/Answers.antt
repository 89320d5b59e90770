-- `crc32c::folding::slide` meets its contract: the bytes from place 1024 on are copied to the start. Assumes nothing.
use Prim.Native.Nat.{ℕ}
use native.Mathlib.Omega.{arith}
use mathlib.Core.Path.{sym, ap, ◌∙◌}
use lib.ListN.{length, get_or, length-drop}
use mathlib.Core.List.{List, append_assoc}
use lib.Seq.{length-take-le, get_or-drop}
use Rattle.crc32c.proofs.Copied.{window_copied}
use Rattle.crc32c.proofs.folding.slide.Goals as goal

pub slice_bounds-copy_from_slice-end-2 : goal.slice_bounds-copy_from_slice-end-2
slice_bounds-copy_from_slice-end-2 c = sym (length-take-le 209 c.split_at_mut-start.result.0.now (omega (arith, c.split_at_mut-start.ensures.front_len)))

pub copy_from_slice-requires : goal.copy_from_slice-requires
copy_from_slice-requires c =
    length-take-le 209 c.split_at_mut-start.result.0.now (omega (arith, c.split_at_mut-start.ensures.front_len))
    ∙ omega (arith, c.split_at_mut-start.ensures.back_len)

pub returns : goal.returns
returns c =
    let w = c.args.w.now in
    let a = c.copy_from_slice.new.self in
    let e = c.copy_from_slice.ensures.after ∙ c.split_at_mut-start.ensures.back in
    rw append_assoc
    (window_copied a _ w 1024 (ap length e ∙ simp length-drop (omega arith)) (λ i h. ap (λ (t : List ℕ). get_or t i 0) e ∙ get_or-drop 1024 w i 0))

-- Bodies of control batches and what each way says of them, computed.
use Prim.Native.Nat.{ℕ}
use mathlib.Core.Path.{◌≡◌, refl}
use mathlib.Core.List.{List, [], ◌∷◌, map}
use Rattle.primitives.specs.Step.{ok, no, times}
use Rattle.primitives.specs.Reading.{big, unsigned_at, signed_by, integer_at, byte_at, code_at, unzigzag, varint_at, length_at, span_at}
use Rattle.records.specs.Judgement.{count_at, bytes_at, key_at, header_at, deltas_at, head_at, fields_at, record_at}
use Rattle.layout.specs.declared.ControlMode.{ControlMode}
use Rattle.layout.specs.Batch.{abort, commit}
use Rattle.opening.specs.Judgement.{bare_marker_at, keyed_marker_at, former_way_of, way_of}

abbrev bodies : List (List ℕ)
bodies =
    (20 ∷ 0 ∷ 0 ∷ 0 ∷ 8 ∷ 0 ∷ 0 ∷ 0 ∷ 0 ∷ 1 ∷ 0 ∷ [])
    ∷ (20 ∷ 0 ∷ 0 ∷ 0 ∷ 8 ∷ 0 ∷ 0 ∷ 0 ∷ 1 ∷ 1 ∷ 0 ∷ [])
    ∷ (0 ∷ 0 ∷ 0 ∷ 0 ∷ [])
    ∷ (12 ∷ 0 ∷ 0 ∷ 0 ∷ 1 ∷ 1 ∷ 0 ∷ [])
    ∷ (18 ∷ 0 ∷ 0 ∷ 0 ∷ 6 ∷ 0 ∷ 0 ∷ 0 ∷ 1 ∷ 0 ∷ [])
    ∷ (20 ∷ 0 ∷ 0 ∷ 0 ∷ 8 ∷ 0 ∷ 1 ∷ 0 ∷ 0 ∷ 1 ∷ 0 ∷ [])
    ∷ (20 ∷ 0 ∷ 0 ∷ 0 ∷ 8 ∷ 0 ∷ 0 ∷ 0 ∷ 2 ∷ 1 ∷ 0 ∷ [])
    ∷ (22 ∷ 0 ∷ 0 ∷ 0 ∷ 10 ∷ 0 ∷ 0 ∷ 0 ∷ 1 ∷ 255 ∷ 1 ∷ 0 ∷ [])
    ∷ (32 ∷ 0 ∷ 0 ∷ 0 ∷ 8 ∷ 0 ∷ 0 ∷ 0 ∷ 1 ∷ 12 ∷ 0 ∷ 0 ∷ 0 ∷ 0 ∷ 0 ∷ 0 ∷ 0 ∷ [])
    ∷ (12 ∷ 0 ∷ 0 ∷ 0 ∷ 1 ∷ 1 ∷ 0 ∷ 0 ∷ []) ∷ []

pub bare_answers : map (λ s. way_of ControlMode.Bare s 0) bodies ≡ (no 12) ∷ (no 12) ∷ (no 41) ∷ (no 12) ∷ (no 12) ∷ (no 12) ∷ (no 12) ∷ (no 12) ∷ (no 12) ∷ (no 12) ∷ []
unfolding way_of former_way_of bare_marker_at keyed_marker_at big unsigned_at signed_by integer_at byte_at code_at unzigzag varint_at length_at span_at count_at bytes_at key_at header_at deltas_at head_at fields_at record_at times
bare_answers = refl

pub keyed_answers : map (λ s. way_of ControlMode.Keyed s 0) bodies ≡ (ok abort 11) ∷ (ok commit 11) ∷ (no 41) ∷ (no 12) ∷ (no 12) ∷ (no 12) ∷ (no 12) ∷ (ok commit 12) ∷ (ok commit 17) ∷ (no 13) ∷ []
unfolding way_of former_way_of bare_marker_at keyed_marker_at big unsigned_at signed_by integer_at byte_at code_at unzigzag varint_at length_at span_at count_at bytes_at key_at header_at deltas_at head_at fields_at record_at times
keyed_answers = refl

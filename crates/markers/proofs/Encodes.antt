-- What is written of a marker is its encoding, and the only one. Assumes nothing.
use mathlib.Core.Path.{refl, ◌∙◌}
use mathlib.Core.List.{◌++◌}
use native.Mathlib.Omega.{arith}
use Rattle.numbers.specs.Format.{big_endian}
use Rattle.layout.specs.Batch.{abort, commit}
use Rattle.markers.specs.Markers.{written_marker}
use Rattle.markers.specs.Statements.{MarkerEncodes, MarkerWritten}

pub marker_encodes : MarkerEncodes
unfolding written_marker
marker_encodes abort =
    record {
      version = big_endian 2 0;
      kind = big_endian 2 0;
      is = refl;
      versioned = record { is = refl; fits = omega arith };
      typed = record { is = refl; fits = omega arith };
    }
marker_encodes commit =
    record {
      version = big_endian 2 0;
      kind = big_endian 2 1;
      is = refl;
      versioned = record { is = refl; fits = omega arith };
      typed = record { is = refl; fits = omega arith };
    }

pub marker_written : MarkerWritten
unfolding written_marker
marker_written bs m g = g.is ∙ (λ i. g.versioned.is i ++ g.typed.is i)

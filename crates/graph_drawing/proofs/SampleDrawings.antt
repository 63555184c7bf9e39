-- Drawings of samples, computed.
use Rattle.std.proofs.Common.{refl}
use Rattle.std.specs.Fmt.{digits}
use Rattle.graph_drawing.specs.Worked.{SampleDrawings, SampleParts}

pub sample_drawings : SampleDrawings
unfolding digits
sample_drawings = record {
  well_made = refl;
  lamp_drawn = refl;
  join_drawn = refl;
  value_drawn = refl;
  week_drawn = refl;
}

pub sample_parts : SampleParts
unfolding digits
sample_parts =
    record { two_drawn = refl; pong_drawn = refl; sets = refl; emits = refl; keeps = refl }

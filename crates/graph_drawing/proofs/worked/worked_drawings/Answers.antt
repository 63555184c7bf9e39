use Rattle.graph_drawing.proofs.SampleDrawings.{sample_drawings, sample_parts}
use Rattle.graph_drawing.proofs.worked.worked_drawings.Goals as goal

pub returns-clause-drawings : goal.returns-clause-drawings
returns-clause-drawings c = sample_drawings

pub returns-clause-parts : goal.returns-clause-parts
returns-clause-parts c = sample_parts

use Rattle.std.proofs.Common.{ap, ◌∙◌, flat_map, map}
use Rattle.table_use.specs.declared.used.MachineUse.{MachineUse}
use Rattle.run_survey.specs.Figures.{taken_counts, unused_counts}
use Rattle.run_survey.proofs.SameFigures.{same_figures}
use Rattle.run_survey.proofs.figures.figures_with.Goals as goal

pub returns-clause-are : goal.returns-clause-are
returns-clause-are c =
    let used = c.in_ok-used.ensures.is in
    same_figures c.args.complete c.args.watched c.in_ok-outputs.ensures c.in_ok-lost.ensures
    (c.in_ok-unused.ensures ∙ ap (flat_map unused_counts) used)
    (c.in_ok-jammed.ensures
    ∙ ap (map (λ (one : MachineUse). one.jammed.count)) used)
    (c.in_ok-taken.ensures ∙ ap (flat_map taken_counts) used)

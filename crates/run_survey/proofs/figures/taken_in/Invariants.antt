use Rattle.std.proofs.Common.{◌≡◌, flat_map, take}
use Rattle.run_survey.specs.Figures.{taken_counts}
use Rattle.run_survey.proofs.figures.taken_in.Given as goal

-- those of the machines before this one
abbrev pub invariant-loop-machine : goal.invariant-loop-machine
invariant-loop-machine l = l.numbers ≡ flat_map taken_counts (take l.machine-index l.used)

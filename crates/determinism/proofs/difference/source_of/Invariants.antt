use Rattle.std.proofs.Common.{◌≡◌, ℕ, List, drop}
use Rattle.transition_table.specs.declared.machine.Machine.{Machine}
use Rattle.transition_table.specs.Transitions.{code_given}
use Rattle.determinism.proofs.difference.source_of.Given as goal

-- none before this one names the result
abbrev pub invariant-loop-act : goal.invariant-loop-act
invariant-loop-act l = (m : Machine) (codes : List ℕ)
    → code_given m codes l.acts l.y ≡ code_given m codes (drop l.act-index l.acts) l.y

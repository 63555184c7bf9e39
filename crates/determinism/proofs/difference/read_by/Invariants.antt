use Rattle.std.proofs.Common.{◌≡◌, ℕ, List, drop}
use Rattle.transition_table.specs.Transitions.{code_given}
use Rattle.determinism.proofs.difference.read_by.Given as goal

-- none before this one names the result
abbrev pub invariant-loop-act : goal.invariant-loop-act
invariant-loop-act l = (codes : List ℕ)
    → code_given l.machine codes l.acts l.y
    ≡ code_given l.machine codes (drop l.act-index l.acts) l.y

use Rattle.std.proofs.Common.{◌≡◌, true, take}
use Rattle.std.specs.List.{list_all}
use Rattle.journal_text.specs.Holding.{state_has_name}
use Rattle.journal_text.proofs.kept.keep_states.Given as goal

-- those before this one hold
abbrev pub invariant-loop-variable : goal.invariant-loop-variable
invariant-loop-variable l = list_all state_has_name (take l.variable-index l.states) ≡ true

-- That what is drawn runs to its end.
use Rattle.std.specs.Prelude.{◌≡◌, true, List}
use Rattle.polis_base.specs.declared.limits.TheConstants.{ENTRIES_MAX}
use Rattle.transition_table.specs.declared.network.Network.{Network}
use Rattle.journals.specs.declared.entry.TraceItem.{TraceItem}
use Rattle.commands.specs.declared.run_result.RunResult.{RunResult}
use Rattle.commands.specs.Run.{IsRan}

-- what one worker runs is complete
abbrev pub RunsWhole : Network → List TraceItem → Type 0
RunsWhole net trace = (ran : RunResult) → IsRan 1 ENTRIES_MAX net trace ran → ran.complete ≡ true

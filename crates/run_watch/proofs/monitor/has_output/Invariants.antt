use Rattle.run_watch.specs.Monitors.{IsHeardAs}
use Rattle.run_watch.proofs.Outputs.{EachBefore}
use Rattle.run_watch.proofs.monitor.has_output.Given as goal

-- none before this one
abbrev pub invariant-loop-e : goal.invariant-loop-e
invariant-loop-e l =
    EachBefore l.net (λ output. IsHeardAs l.net output l.monitor l.event → ⊥) l.e

use Rattle.std.proofs.Common.{◌≡◌}
use Rattle.transition_table.specs.declared.decl.Party.TheVariants.{Env}
use Rattle.run_watch.specs.Monitors.{HasOutput}
use Rattle.run_watch.proofs.Outputs.{EachBefore}
use Rattle.run_watch.proofs.monitor.is_monitor.Given as goal

-- each before this one is a machine's or an output
abbrev pub invariant-loop-w : goal.invariant-loop-w
invariant-loop-w l =
    EachBefore l.monitor (λ event. event.sender ≡ Env → HasOutput l.net l.monitor event) l.w

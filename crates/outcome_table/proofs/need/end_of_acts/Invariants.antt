use Rattle.std.proofs.Common.{◌≡◌, ◌≤◌, true, length, take}
use Rattle.std.specs.List.{list_all}
use Rattle.outcome_table.specs.inner.Needs.{takes_before}
use Rattle.outcome_table.proofs.need.end_of_acts.Given as goal

-- those before this one need no more
abbrev pub invariant-loop-act : goal.invariant-loop-act
invariant-loop-act l = record {
  within : l.end ≤ length l.machine.vars;
  settled : list_all (takes_before l.machine.inputs l.end) (take l.act-index l.acts) ≡ true;
}

use Rattle.std.proofs.Common.{◌≡◌, ◌≤◌, true, length, take}
use Rattle.std.specs.List.{list_all}
use Rattle.outcome_table.specs.inner.Needs.{asks_before}
use Rattle.outcome_table.proofs.need.end_of_conds.Given as goal

-- those before this one need no more
abbrev pub invariant-loop-cond : goal.invariant-loop-cond
invariant-loop-cond l = record {
  within : l.end ≤ length l.machine.vars;
  settled : list_all (asks_before l.end) (take l.cond-index l.conds) ≡ true;
}

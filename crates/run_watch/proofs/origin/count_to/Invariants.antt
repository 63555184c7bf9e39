use Rattle.std.proofs.Common.{◌≡◌, ◌≤◌, length, take}
use Rattle.transition_table.specs.declared.decl.Party.TheVariants.{Env}
use Rattle.journals.specs.Journals.{delivered}
use Rattle.run_watch.proofs.origin.count_to.Given as goal

-- those among the entries before this one
abbrev pub invariant-loop-p : goal.invariant-loop-p
invariant-loop-p l = record {
  is : l.count ≡ length (delivered Env l.m (take l.p l.watch));
  few : l.count ≤ l.p;
}

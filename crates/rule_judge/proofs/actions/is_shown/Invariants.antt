-- None of the conditions before this one shows it.
use Rattle.std.proofs.Common.{◌≡◌, drop}
use Rattle.std.specs.List.{list_any}
use Rattle.rule_judge.specs.Rules.{shows}
use Rattle.rule_judge.proofs.actions.is_shown.Given as goal

abbrev pub invariant-loop-cond : goal.invariant-loop-cond
invariant-loop-cond l = list_any (shows l.name) (drop l.cond-index l.conds)
    ≡ list_any (shows l.name) l.conds

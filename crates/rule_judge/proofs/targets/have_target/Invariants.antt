-- None of the actions before this one has the name.
use Rattle.std.proofs.Common.{◌≡◌, flat_map, drop}
use Rattle.net_names.specs.Numbers.{is_name_of}
use Rattle.rule_judge.proofs.targets.have_target.Given as goal

abbrev pub invariant-loop-act : goal.invariant-loop-act
invariant-loop-act g l =
    is_name_of (flat_map g.T.Target.words (drop l.act-index l.acts)) l.name
    ≡ is_name_of (flat_map g.T.Target.words l.fn.acts) l.name

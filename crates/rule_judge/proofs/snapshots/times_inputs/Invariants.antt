-- The product so far times the codes of the inputs that are left.
use Rattle.std.proofs.Common.{◌≡◌, ◌≤◌, ◌*◌, min, map, drop}
use Rattle.domains.specs.Tables.{product}
use Rattle.net_names.specs.Scopes.{event_codes}
use Rattle.rule_judge.proofs.snapshots.times_inputs.Given as goal

abbrev pub invariant-loop-input : goal.invariant-loop-input
invariant-loop-input l = record {
  small : l.count ≤ 65537;
  product : min 65537
      (l.count * product (map (event_codes l.scope.raw.now) (drop l.input-index l.inputs)))
      ≡ min 65537 (l.fn.count * product (map (event_codes l.scope.raw.now) l.inputs));
}

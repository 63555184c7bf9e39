-- The product so far times the codes of the state variables that are left.
use Rattle.std.proofs.Common.{◌≡◌, ◌≤◌, ◌*◌, min, map, drop}
use Rattle.domains.specs.Tables.{product}
use Rattle.net_names.specs.Scopes.{state_codes}
use Rattle.rule_judge.proofs.snapshots.times_states.Given as goal

abbrev pub invariant-loop-state : goal.invariant-loop-state
invariant-loop-state l = record {
  small : l.count ≤ 65537;
  product : min 65537
      (l.count * product (map (state_codes l.scope.raw.now) (drop l.state-index l.states)))
      ≡ min 65537 (l.fn.count * product (map (state_codes l.scope.raw.now) l.states));
}

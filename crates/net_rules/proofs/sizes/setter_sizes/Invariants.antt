-- What was put after and what is left are the whole.
use Rattle.std.proofs.Common.{◌≡◌, ◌+◌, ◌++◌, map, drop}
use Rattle.net_names.specs.Scopes.{state_codes}
use Rattle.net_rules.proofs.sizes.setter_sizes.Given as goal

abbrev pub invariant-loop-state : goal.invariant-loop-state
invariant-loop-state l =
    l.into ++ map (λ s. 1 + state_codes l.scope.raw.now s) (drop l.state-index l.states)
    ≡ l.fn.into ++ map (λ s. 1 + state_codes l.scope.raw.now s) l.states

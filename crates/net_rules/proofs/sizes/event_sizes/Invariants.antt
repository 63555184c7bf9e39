-- What was put after and what is left are the whole.
use Rattle.std.proofs.Common.{◌≡◌, ◌++◌, map, drop}
use Rattle.net_names.specs.Scopes.{event_codes}
use Rattle.net_rules.proofs.sizes.event_sizes.Given as goal

abbrev pub invariant-loop-word : goal.invariant-loop-word
invariant-loop-word l = l.into ++ map (event_codes l.scope.raw.now) (drop l.word-index l.words)
    ≡ l.fn.into ++ map (event_codes l.scope.raw.now) l.words

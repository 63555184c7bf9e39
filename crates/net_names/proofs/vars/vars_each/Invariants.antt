-- What was made is what the words that were gone over stand for.
use Rattle.std.proofs.Common.{take}
use Rattle.net_names.specs.Vars.{AreVars}
use Rattle.net_names.proofs.vars.vars_each.Given as goal

abbrev pub invariant-loop-word : goal.invariant-loop-word
invariant-loop-word l =
    AreVars l.names.scope.now.raw.now l.names.machine.now (take l.word-index l.words) l.vars

-- The names that were gone over.
use Rattle.std.proofs.Common.{◌≡◌, ◌++◌, drop}
use Rattle.net_names.specs.Numbers.{names_of}
use Rattle.net_rules.proofs.domain_list.names_of.Given as goal

abbrev pub invariant-loop-word : goal.invariant-loop-word
invariant-loop-word l = l.names ++ names_of (drop l.word-index l.words) ≡ names_of l.words

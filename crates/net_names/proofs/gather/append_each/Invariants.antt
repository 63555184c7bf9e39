-- What was put after and what is left are the whole.
use Rattle.std.proofs.Common.{◌≡◌, ◌++◌, drop}
use Rattle.net_names.proofs.gather.append_each.Given as goal

abbrev pub invariant-loop-word : goal.invariant-loop-word
invariant-loop-word l = l.into ++ drop l.word-index l.words ≡ l.fn.into ++ l.words

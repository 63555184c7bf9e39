use Rattle.std.proofs.Common.{◌≡◌, ◌++◌, drop}
use Rattle.polis_base.specs.Lists.{numbered}
use Rattle.graph_drawing.specs.Words.{after_gap, words_text}
use Rattle.graph_drawing.proofs.word.push_names.Given as goal

-- what is written, with what is left, is the whole
abbrev pub invariant-loop-k : goal.invariant-loop-k
invariant-loop-k l = l.into ++ numbered after_gap l.k (drop l.k l.names)
    ≡ l.fn.into ++ words_text l.names

use Rattle.std.proofs.Common.{◌≡◌, ◌≤◌, ◌++◌}
use Rattle.graph_drawing.specs.inner.WordsFrom.{words_from}
use Rattle.graph_drawing.proofs.graph_text.push_words.Given as goal

-- what is written, with what is left, is the whole
abbrev pub invariant-loop-code : goal.invariant-loop-code
invariant-loop-code l = record {
  few : l.k ≤ l.code;
  words : l.into ++ words_from l.net l.machine l.var l.kids l.child l.k l.code
      ≡ l.fn.into ++ words_from l.net l.machine l.var l.kids l.child 0 0;
}

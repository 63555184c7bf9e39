use Rattle.std.proofs.Common.{◌≡◌, ◌-◌, length}
use Rattle.decision_diagram.specs.Diagrams.{IsNode, level_of, value_of}
use Rattle.decision_diagram.proofs.store.Store.value.Given as goal

-- the node has the value that is wanted
abbrev pub invariant-loop-var : goal.invariant-loop-var
invariant-loop-var l = record {
  node : IsNode l.self l.at;
  same : value_of l.self l.fn.n l.codes ≡ value_of l.self l.at l.codes;
}

-- each child is read later
abbrev pub decreases-loop-var : goal.decreases-loop-var
decreases-loop-var l = length l.self.order - level_of l.self l.at

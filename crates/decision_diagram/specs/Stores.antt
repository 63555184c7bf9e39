-- What a store of diagrams keeps.
use Rattle.decision_diagram.specs.Diagrams.{Diagrams, AreReduced}
use Rattle.decision_diagram.specs.Keys.{AreKeys, nodes_of}
use Rattle.decision_diagram.specs.Operations.{AreResults}
use Rattle.decision_diagram.specs.declared.operation.Operation.TheVariants.{And, Or}
use Rattle.decision_diagram.specs.declared.store.Store.TheInside.{Inside}

-- the diagrams of a store
abbrev pub diagrams : Inside → Diagrams
diagrams a = record { sizes = a.vars; order = a.order; nodes = nodes_of a.nodes.keys }

-- They are reduced, each inner node is kept as its key, and what was computed before is right.
pub record IsStore (a : Inside) : Type 0 where
  pub reduced : AreReduced (diagrams a)
  pub keys : AreKeys a.nodes.keys
  pub conjunctions : AreResults (diagrams a) And a.conjunctions
  pub disjunctions : AreResults (diagrams a) Or a.disjunctions

use Rattle.sgraph_opt.proofs.OneGraph.{one_graph}
use Rattle.sgraph_opt.proofs.law.laws.Goals as goal

pub returns : goal.returns
returns c = record { one_graph = one_graph }

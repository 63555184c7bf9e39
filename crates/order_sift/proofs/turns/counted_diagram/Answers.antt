use Rattle.order_sift.proofs.turns.counted_diagram.Goals as goal

pub returns-clause-count : goal.returns-clause-count
returns-clause-count c = c.in_ok-root.ensures.size c.in_ok-count.count c.in_ok-count.ensures.reached

use Rattle.order_sift.proofs.IsSize.{large_sifted}
use Rattle.order_sift.proofs.turns.large_diagram.Goals as goal

pub returns-clause-sifted : goal.returns-clause-sifted
returns-clause-sifted c =
    large_sifted c.args.m.now c.in_ok-order.order c.in_ok-root.field-0.count c.requires.many
    c.in_ok-order.ensures.order c.in_ok-order.ensures.allowed c.in_ok-root.ensures.count

use Rattle.order_sift.proofs.turns.sift_diagram.Goals as goal

pub returns-clause-sifted : goal.returns-clause-sifted
returns-clause-sifted c = c.diagram_by.ensures.sifted

pub returns-clause-diagram : goal.returns-clause-diagram
returns-clause-diagram c = c.diagram_by.ensures.diagram

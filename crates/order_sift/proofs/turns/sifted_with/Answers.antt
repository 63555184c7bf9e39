use Rattle.order_sift.proofs.turns.sifted_with.Goals as goal

pub returns : goal.returns
returns c = c.sifted_knowing.ensures
